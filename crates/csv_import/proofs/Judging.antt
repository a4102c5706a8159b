-- The records of the file that the table of imported lines forms, and what importing says before it asks for room.
-- Assumes that the rows have their lengths and that no line has a fault.
use Rattle.std.specs.Prelude.{Ok, Err}
use Prim.Native.Nat.{ℕ, ◌+◌, ◌*◌, ◌<◌, ◌≤◌}
use native.Mathlib.Omega.{arith}
use mathlib.Core.Path.{◌≡◌, refl, sym, ap, ◌∙◌, subst}
use mathlib.Core.Bool.{true, ◌&&◌}
use mathlib.Core.List.{List}
use lib.Dec.{leb, eqb}
use mathlib.Core.List.{[], ◌∷◌, ◌++◌, append_assoc, append-nil}
use lib.ListN.{replicate}
use Rattle.check_across.specs.declared.Sums.{Sums}
use Rattle.check_sums.specs.Sums.{no_sums, add_record, add_batch, add_entry}
use Rattle.check_sums.specs.WorkFair.{Fair}
use Rattle.view.specs.View.{Batch, body_of, batch_control_record, file_control_record, filler_record}
use Rattle.view_laws.proofs.Tables.{view_of_table_lem}
use Rattle.view_laws.proofs.BridgeSums.{after_entries, entries_records, control_same, file_control_same, file_sums}
use Rattle.table_form.specs.Forms.{file_from, batch_from, entry_from, batch_control_from}
use Rattle.csv_entry.specs.Entries.{entries_of_lines}
use Rattle.csv_import.specs.WorkListing.{rows_of}
use Rattle.csv_import.proofs.Steps.{At, Opened, batch_left, last_records, step_refused, file_step}
use lib.ListN.{length, take}
use borrow.Author.Tests.{eqb-true, leb-true}
use Rattle.text.proofs.DecimalLaws.{and_both}
use Rattle.layout.specs.declared.Fault.{Fault}
use Rattle.layout.specs.declared.Refusal.{Refusal}
use Rattle.layout.specs.declared.Way.{Way}
use Rattle.check_sums.specs.declared.State.{State}
use Rattle.check_sums.specs.Sums.{start}
use Rattle.check_record.specs.Verdict.{stepped_as}
use Rattle.check_record.specs.Record.{Piece, bare, record_of, run_from, checked_of}
use Rattle.view.specs.View.{records_of, fillers_after}
use Rattle.view.specs.Table.{shaped, view_of_table, formed}
use Rattle.view_laws.proofs.Tables.{table_shaped, shaped_sized}
use Rattle.view_laws.proofs.Bridge.{checked_many}
use Rattle.view_laws.proofs.Reading.{records_long}
use Rattle.layout.specs.Paper.{refusal}
use Rattle.view_laws.proofs.Answers.{then_granted, demand_granted}
use Rattle.view_laws.proofs.Ways.{bare_run}
use Rattle.table_form.specs.WorkWalking.{first_of}
use Rattle.table_write.proofs.PassLaws.{right, records_count, begun}
use Rattle.csv_cells.specs.Cells.{lines_in}
use Rattle.csv_entry.specs.Entries.{row_of_line}
use Rattle.csv_entry.specs.Import.{lines_answer, bank_in, import_view, import_table, rows_fit, import_answer}
use Rattle.csv_import.proofs.TableLaws.{table_long, import_sized, counts}

-- the entries of lines, and what is left behind them
left_entries : (bank : List ℕ) (k : ℕ) (ls : List (List ℕ)) (s : Sums) (h : List ℕ)
    → batch_left s h (rows_of bank k ls) ≡ entries_records (entries_of_lines bank k ls)
    ++ (batch_control_from (after_entries s (entries_of_lines bank k ls)) h ∷ last_records (add_record (after_entries s (entries_of_lines bank k ls))))
unfolding entries_of_lines
left_entries bank k [] s h = refl
left_entries bank k (l ∷ ls) s h =
    let r = entry_from (row_of_line bank k l) in
    ap (λ x. r ∷ x) (left_entries bank (k + 1) ls (add_entry s r) h)

module _ (filerow batchrow lines : List ℕ) (f : length filerow ≡ 85) (b : length batchrow ≡ 95) (g : lines_answer 1 (lines_in lines) ≡ Ok tt) (few : length (lines_in lines) ≤ 999999) where
  pub table_right : shaped (import_table filerow batchrow lines) ≡ true
  table_right = table_shaped (import_view filerow batchrow lines) (import_sized filerow batchrow lines f b g few)

  counted : (n : ℕ) → n ≡ length (lines_in lines) → length (records_of (view_of_table (import_table filerow batchrow lines))) ≡ (4 + n) + fillers_after (4 + n)
  counted n e =
      let c = counts filerow batchrow lines f b g few in
      records_count (import_table filerow batchrow lines) (right (import_table filerow batchrow lines) table_right) (4 + n) (omega (arith, c.0, c.1, c.2))

  few_records : (n : ℕ) → n ≡ length (lines_in lines) → n ≤ 999996 → length (records_of (view_of_table (import_table filerow batchrow lines))) ≤ 1000000
  few_records n e h = omega (arith, counted n e)

  many_records : (n : ℕ) → n ≡ length (lines_in lines) → 999996 < n → 1000000 < length (records_of (view_of_table (import_table filerow batchrow lines)))
  many_records n e h = omega (arith, counted n e)

  -- the records of the formed file
  file_records : records_of (import_view filerow batchrow lines) ≡ file_from filerow ∷ batch_from batchrow
      ∷ batch_left (add_batch (add_record no_sums) (batch_from batchrow)) (batch_from batchrow) (rows_of (bank_in batchrow) 1 (lines_in lines))
  file_records =
      let v = import_view filerow batchrow lines in
      let es = entries_of_lines (bank_in batchrow) 1 (lines_in lines) in
      let here : Batch = record { row = take 89 batchrow; entries = es } in
      let file = file_from filerow in
      let r = batch_from batchrow in
      let inside = entries_records es in
      let sums = add_record (after_entries (add_batch (add_record no_sums) r) es) in
      let control = batch_control_record here in
      let tail = file_control_record v ∷ replicate (fillers_after (length (body_of v) + 1)) filler_record in
      ap (λ l. file ∷ r ∷ (l ++ tail)) (append-nil (inside ++ (control ∷ [])))
      ∙ ap (λ l. file ∷ r ∷ l) (append_assoc inside (control ∷ []) tail)
      ∙ (sym (ap (λ l. file ∷ r ∷ l) (left_entries (bank_in batchrow) 1 (lines_in lines) (add_batch (add_record no_sums) r) r)
      ∙ ap (λ x. file ∷ r ∷ (inside ++ (x ∷ last_records sums))) (control_same (add_record no_sums) here)
      ∙ ap (λ x. file ∷ r ∷ (inside ++ (control ∷ x ∷ replicate (fillers_after (sums.records + 1)) filler_record))) (file_control_same v)
      ∙ ap (λ n. file ∷ r ∷ (inside ++ (control ∷ file_control_record v ∷ replicate (fillers_after (n + 1)) filler_record))) (file_sums v).records))

  -- the check stands before them all
  module _ (h : length (lines_in lines) ≤ 999996) (st : State) (z : st ≡ start) (fair : Fair st) where
    at_start : At (checked_of Way.Plain (formed Way.Plain (import_table filerow batchrow lines))) st
        (file_from filerow ∷ batch_from batchrow ∷ batch_left (add_batch (add_record no_sums) (batch_from batchrow)) (batch_from batchrow) (rows_of (bank_in batchrow) 1 (lines_in lines)))
    at_start =
        let t = import_table filerow batchrow lines in
        let v = import_view filerow batchrow lines in
        let small = few_records (length (lines_in lines)) refl h in
        let all : records_of (view_of_table t) ≡ records_of v = ap records_of (view_of_table_lem v (import_sized filerow batchrow lines f b g few)) in
        let first = begun t (first_of t) start table_right small refl refl in
        let run : bare_run start (records_of v) ≡ checked_of Way.Plain (formed Way.Plain t) = ap (bare_run start) (sym (first.all ∙ all)) ∙ first.run in
        let whole : At (checked_of Way.Plain (formed Way.Plain t)) st (records_of v) =
        record {
          fair = fair;
          few = omega (arith, small, ap length all, ap (λ y. y.sums.records) z);
          run = ap (λ y. bare_run y (records_of v)) z ∙ run;
        } in
        subst (λ l. At (checked_of Way.Plain (formed Way.Plain t)) st l) file_records whole

    pub file_refused : (x : List ℕ) (d : Refusal) → x ≡ file_from filerow → ((ps : List Piece) → (run_from st (bare x ∷ ps)).answer ≡ Err d)
        → Err d ≡ (checked_of Way.Plain (formed Way.Plain (import_table filerow batchrow lines))).answer
    file_refused x d e r = step_refused at_start x d e r

    pub file_passed : (x : List ℕ) (next : State) → x ≡ file_from filerow → Fair next × (stepped_as st (Ok next) ≡ record_of st (bare x))
        → Opened (checked_of Way.Plain (formed Way.Plain (import_table filerow batchrow lines))) next batchrow (rows_of (bank_in batchrow) 1 (lines_in lines))
    file_passed x next e p = file_step filerow batchrow (rows_of (bank_in batchrow) 1 (lines_in lines)) x f z at_start e p

-- ---- what importing says before it asks for room

module _ (filerow batchrow lines : List ℕ) where
  pub file_judged : lines_answer 1 (lines_in lines) ≡ Ok tt → rows_fit filerow batchrow lines ≡ true
      → (checked_of Way.Plain (formed Way.Plain (import_table filerow batchrow lines))).answer ≡ import_answer filerow batchrow lines
  file_judged g e = rw (g, e) refl

  -- what rows that fit are
  pub record Fit : Type 0 where
    pub file : length filerow ≡ 85
    pub batch : length batchrow ≡ 95
    pub few : length (lines_in lines) ≤ 999999

  pub rows_fit_lem : rows_fit filerow batchrow lines ≡ true → Fit
  rows_fit_lem e =
      let a = and_both (eqb (length filerow) 85 && eqb (length batchrow) 95) (leb (length (lines_in lines)) 999999) e in
      let b = and_both (eqb (length filerow) 85) (eqb (length batchrow) 95) a.0 in
      record { file = eqb-true (length filerow) 85 b.0; batch = eqb-true (length batchrow) 95 b.1; few = leb-true (length (lines_in lines)) 999999 a.1 }

  -- over a million records
  pub many_lines : lines_answer 1 (lines_in lines) ≡ Ok tt → rows_fit filerow batchrow lines ≡ true → 999996 < length (lines_in lines) → refusal Fault.Length 0 0 ≡ import_answer filerow batchrow lines
  many_lines g e h =
      let fit = rows_fit_lem e in
      let v = view_of_table (import_table filerow batchrow lines) in
      sym (ap (λ c. c.answer) (checked_many Way.Plain (records_of v) (records_long v (shaped_sized (import_table filerow batchrow lines) (table_right filerow batchrow lines fit.file fit.batch g fit.few)))
      (many_records filerow batchrow lines fit.file fit.batch g fit.few (length (lines_in lines)) refl h)))
      ∙ file_judged g e

  -- granted, there is no faulty line, and the rows fit
  pub import_granted : import_answer filerow batchrow lines ≡ Ok tt → (lines_answer 1 (lines_in lines) ≡ Ok tt) × (rows_fit filerow batchrow lines ≡ true)
  import_granted e =
      let a = then_granted (lines_answer 1 (lines_in lines)) _ e in
      (a.0, (demand_granted (rows_fit filerow batchrow lines) _ _ a.1).0)

  pub import_size : import_answer filerow batchrow lines ≡ Ok tt → (n : ℕ) → n ≡ length (lines_in lines) → length (import_table filerow batchrow lines) ≡ 204 + 93 * n
  import_size g n e =
      let p = import_granted g in
      let fit = rows_fit_lem p.1 in
      table_long filerow batchrow lines fit.file fit.batch p.0 ∙ ap (λ k. 204 + 93 * k) (sym e)
