-- "importing it, where granted, gives the six fields back": of a table that would be written, exported and imported again.
-- Assumes nothing but that the file row and the batch row lent to the import have their lengths.
use Rattle.std.specs.Prelude.{Ok, Err}
use Prim.Native.Nat.{ℕ, suc, ◌+◌, ◌-◌, ◌^◌, ◌<◌, ◌≤◌}
use native.Mathlib.Omega.{arith}
use mathlib.Core.Path.{◌≡◌, refl, sym, ap, ◌∙◌, subst}
use mathlib.Core.Bool.{Bool, true, false, ◌&&◌, not}
use mathlib.Core.List.{List, [], ◌∷◌, ◌++◌, map, map-map, append-nil}
use borrow.Author.Tests.{leb-true, eqb-true, le-leb}
use lib.Dec.{leb, eqb, lit≤}
use lib.ListN.{length, get_or, take, drop, length-append, length-drop, length-map, get_or-map}
use lib.Seq.{take-add, take-take, take-append_seam, drop-drop, drop-append-add, length-take-le}
use Rattle.text.specs.Decimal.{pick, every, is_digit, digits, render}
use Rattle.text.specs.Rows.{columns, rows, section, joined}
use Rattle.text.proofs.DecimalLaws.{and_both, both_and, every_append, length_render}
use Rattle.text.proofs.RowLaws.{section_count, section_rows}
use Rattle.layout.specs.Answers.{Answer}
use Rattle.layout.specs.declared.Fault.{Fault}
use Rattle.layout.specs.declared.Way.{Way}
use Rattle.layout.specs.Fields.{entry, part}
use Rattle.check_alone.specs.Kinds.{is_text}
use Rattle.check_alone.specs.Own.{is_account}
use Rattle.check_across.specs.declared.Sums.{Sums}
use Rattle.check_across.specs.Across.{entry_trace, batch_number}
use Rattle.view.specs.View.{Entry, Batch, View, entry_record, batch_record, records_in, entries_of}
use Rattle.view.specs.Table.{count_wide, file_wide, head_wide, batch_wide, entry_wide, table_bytes, rows_in, entry_part, view_of_table, addenda_of, addenda_due}
use Rattle.view.specs.Sized.{All, SizedEntry, SizedBatch, Sized}
use Rattle.view.specs.Keeps.{Right, seen, EntriesKeep, BatchesKeep}
use Rattle.view.specs.Outcome.{and_then, made, room}
use Rattle.view_laws.proofs.Lists.{all_append}
use Rattle.view_laws.proofs.Answers.{not_granted, demand_granted, then_granted}
use Rattle.view_laws.proofs.Tables.{entries_in, entries_sized, rows_of_entries, entry_part_lem, shaped_sized, table_of_view}
use Rattle.view_laws.proofs.BridgeFields.{need_right}
use Rattle.view_laws.proofs.Bridge.{keeps_exactly}
use Rattle.text.proofs.SetLaws.{drop_take}
use Rattle.table_write.specs.Judge.{writable}
use Rattle.table_write.proofs.WriteLaws.{shape_right, file_right}
use Rattle.csv_cells.specs.Cells.{lines_in}
use Rattle.csv_entry.specs.Entries.{rest_of_row, row_of_line, entries_of_lines}
use Rattle.csv_entry.specs.Import.{lines_answer, bank_in, import_table, most_lines, rows_fit, import_answer, import_of}
use Rattle.csv_import.proofs.TableLaws.{no_addenda, one_batch, one_sized}
use Rattle.csv_export.specs.Lining.{line_of_row, exported}
use Rattle.csv_export.specs.Export.{export_of}
use Rattle.ach.proofs.FieldBack.{is_printable}
use Rattle.ach.proofs.LineBack.{Plain, printable_by, digit_printable, digits_printable, row_back, lines_of, tails_of, lines_back, lines_granted, fields_again}

-- ---- what acceptance says of the bytes of an entry

account_printable : (b : ℕ) → is_account b ≡ true → is_printable b ≡ true
account_printable b e = go (is_digit b) refl (eqb b 45) refl (eqb b 32) refl
  where
    go : (u : Bool) → is_digit b ≡ u → (v : Bool) → eqb b 45 ≡ v → (w : Bool) → eqb b 32 ≡ w → is_printable b ≡ true
    go true f v g w h = digit_printable b f
    go false f true g w h = rw (eqb-true b 45 g) refl
    go false f false g true h = rw (eqb-true b 32 h) refl
    go false f false g false h =
        let r = and_both (leb 65 b) (leb b 90) (rw (f, g, h) at e) in
        both_and (le-leb 32 b (omega (arith, leb-true 65 b r.0))) (le-leb b 126 (omega (arith, leb-true b 90 r.1)))

text_printable : (b : ℕ) → is_text b ≡ true → is_printable b ≡ true
text_printable b e = (and_both (is_printable b) (not (leb 97 b && leb b 122)) e).0

row_plain : (s : Sums) (h row : List ℕ) → length row ≡ 93 → Right entry s h (54 ∷ row) → Plain row
row_plain s h row l f =
    let g = f.1.1.1.1 in
    let bank = (need_right (digits (take 8 (drop 2 row))) Fault.Digits _ f.1.1.0).0 in
    let check = (need_right (digits (take 1 (drop 10 row))) Fault.Digits _ f.1.1.1.0).0 in
    record {
      long = l;
      code = digits_printable (take 2 row) (need_right (digits (take 2 row)) Fault.Digits _ f.1.0).0;
      routing = ap (every is_printable) (take-add 8 1 (drop 2 row) ∙ ap (λ r. take 8 (drop 2 row) ++ take 1 r) (drop-drop 8 2 row))
          ∙ every_append is_printable (take 8 (drop 2 row)) (take 1 (drop 10 row))
          ∙ both_and (digits_printable (take 8 (drop 2 row)) bank) (digits_printable (take 1 (drop 10 row)) check);
      account = printable_by is_account account_printable (take 17 (drop 11 row)) (need_right (every is_account (take 17 (drop 11 row))) Fault.Text _ g.0).0;
      amount = (need_right (digits (take 10 (drop 28 row))) Fault.Digits _ g.1.0).0;
      ident = printable_by is_text text_printable (take 15 (drop 38 row)) (need_right (every is_text (take 15 (drop 38 row))) Fault.Text _ g.1.1.0).0;
      name = printable_by is_text text_printable (take 22 (drop 53 row)) (need_right (every is_text (take 22 (drop 53 row))) Fault.Text _ g.1.1.1.0).0;
    }

abbrev PlainEntry : Entry → Type 0
PlainEntry e = Plain e.row

entries_plain : (h : List ℕ) (n t : ℕ) (es : List Entry) → All SizedEntry es → EntriesKeep h n t es → All PlainEntry es
entries_plain h n t [] s k = tt
entries_plain h n t (e ∷ es) s k =
    (row_plain (seen 0 n t) h e.row s.0.long k.0.fields, entries_plain h (n + records_in e) (entry_trace (entry_record e)) es s.1 k.1)

batches_plain : (number : ℕ) (bs : List Batch) → All SizedBatch bs → BatchesKeep number bs → All PlainEntry (entries_in bs)
batches_plain number [] s k = tt
batches_plain number (b ∷ bs) s k =
    all_append PlainEntry b.entries (entries_in bs) (entries_plain (batch_record b) 0 0 b.entries s.0.each k.0.entries)
    (batches_plain (batch_number (batch_record b)) bs s.1 k.1)

rows_plain : (es : List Entry) → All PlainEntry es → All Plain (map (λ e. e.row) es)
rows_plain [] a = tt
rows_plain (e ∷ es) a = (a.0, rows_plain es a.1)

-- the entry rows of a view's table
table_rows : (v : View) → Sized v → rows_in entry_wide (entry_part (table_bytes v)) ≡ map (λ e. e.row) (entries_of v)
table_rows v s =
    let rs = map (λ (e : Entry). e.row) (entries_of v) in
    let rest = section count_wide (addenda_of v) in
    let few : length rs < 10 ^ count_wide = rw length-map s.entries in
    ap (rows_in entry_wide) (entry_part_lem v s)
    ∙ ap (λ n. rows entry_wide n (drop count_wide (section count_wide rs ++ rest))) (section_count count_wide rs rest few)
    ∙ section_rows count_wide entry_wide rs rest (rows_of_entries (entries_of v) (entries_sized v.batches s.each))

module _ (t : List ℕ) (g : writable t ≡ Ok tt) where
  sized : Sized (view_of_table t)
  sized = shaped_sized t (shape_right t g)

  rows_of_view : rows_in entry_wide (entry_part t) ≡ map (λ e. e.row) (entries_of (view_of_table t))
  rows_of_view = ap (λ x. rows_in entry_wide (entry_part x)) (sym (table_of_view t (shape_right t g))) ∙ table_rows (view_of_table t) sized

  -- each row of a table that would be written can stand in a line
  pub writable_plain : All Plain (rows_in entry_wide (entry_part t))
  writable_plain =
      let v = view_of_table t in
      let k = (keeps_exactly Way.Plain v sized).0 (file_right t g) in
      subst (All Plain) (sym rows_of_view) (rows_plain (entries_of v) (batches_plain 0 v.batches sized.each k.batches))

  -- the lines of the export are those of its rows, and have no fault
  pub export_lines : lines_in (exported t) ≡ tails_of (rows_in entry_wide (entry_part t))
  export_lines = lines_back (rows_in entry_wide (entry_part t)) writable_plain

  pub export_granted : lines_answer 1 (lines_in (exported t)) ≡ Ok tt
  export_granted = ap (lines_answer 1) export_lines ∙ lines_granted 1 (rows_in entry_wide (entry_part t)) writable_plain

  few_rows : length (rows_in entry_wide (entry_part t)) < 10 ^ count_wide
  few_rows = rw (rows_of_view, length-map) sized.entries

-- ---- the imported table

-- the part of a row that no line holds
rest_long : (bank : List ℕ) (k : ℕ) → length bank ≡ 8 → length (rest_of_row bank k) ≡ 18
unfolding joined
rest_long bank k l = omega (arith, length-append bank (render 7 k ++ []), length-append (render 7 k) [], length_render 7 k)

-- its entry takes no addendum
none_due : (bank : List ℕ) (k : ℕ) (row : List ℕ) → length row ≡ 93 → addenda_due (take 75 row ++ rest_of_row bank k) ≡ 0
unfolding joined
none_due bank k row l =
    let at : 77 ≡ length (take 75 row) + 2 = omega (arith, length-take-le 75 row (omega arith)) in
    let flag : drop 77 (take 75 row ++ rest_of_row bank k) ≡ drop 2 (rest_of_row bank k) =
    ap (λ n. drop n (take 75 row ++ rest_of_row bank k)) at ∙ drop-append-add (take 75 row) (rest_of_row bank k) 2 in
    ap (λ r. pick (eqb (get_or (take 1 r) 0 0) 49) 1 0) flag

module _ (bank : List ℕ) (b : length bank ≡ 8) where
  entry_sized : (k : ℕ) (row rest : List ℕ) → Plain row → SizedEntry (record { row = row_of_line bank k (line_of_row row ++ rest); addenda = [] })
  entry_sized k row rest w =
      let e = row_back row w rest bank k in
      record {
        long = ap length e ∙ length-append (take 75 row) (rest_of_row bank k) ∙ omega (arith, length-take-le 75 row (omega (arith, w.long)), rest_long bank k b);
        texts = tt;
        due = sym (ap addenda_due e ∙ none_due bank k row w.long);
      }

  lines_sized : (k : ℕ) (rs : List (List ℕ)) → All Plain rs → All SizedEntry (entries_of_lines bank k (tails_of rs))
  unfolding entries_of_lines tails_of
  lines_sized k [] w = tt
  lines_sized k (r ∷ rs) w = (entry_sized k r (lines_of rs) w.0, lines_sized (k + 1) rs w.1)

entries_many : (bank : List ℕ) (k : ℕ) (rs : List (List ℕ)) → length (entries_of_lines bank k (tails_of rs)) ≡ length rs
unfolding entries_of_lines tails_of
entries_many bank k [] = refl
entries_many bank k (r ∷ rs) = ap suc (entries_many bank (k + 1) rs)

-- two records 6, by their rows: the six fields are the same
pub record SameSix (r r' : List ℕ) : Type 0 where
  pub code : part entry 2 (54 ∷ r) ≡ part entry 2 (54 ∷ r')
  pub routing : columns 4 12 (54 ∷ r) ≡ columns 4 12 (54 ∷ r')
  pub account : part entry 5 (54 ∷ r) ≡ part entry 5 (54 ∷ r')
  pub amount : part entry 6 (54 ∷ r) ≡ part entry 6 (54 ∷ r')
  pub ident : part entry 7 (54 ∷ r) ≡ part entry 7 (54 ∷ r')
  pub name : part entry 8 (54 ∷ r) ≡ part entry 8 (54 ∷ r')

-- a part within the first 75 bytes
front_part : (m n : ℕ) (r : List ℕ) → m + n ≤ 75 → take n (drop m (take 75 r)) ≡ take n (drop m r)
front_part m n r h =
    let all : 75 ≡ m + (75 - m) = omega arith in
    ap (λ w. take n (drop m (take w r))) all ∙ ap (take n) (drop_take m (75 - m) r) ∙ take-take n (75 - m) (drop m r) (omega arith)

same_part : (m n : ℕ) (r r' : List ℕ) → m + n ≤ 75 → take 75 r ≡ take 75 r' → take n (drop m r) ≡ take n (drop m r')
same_part m n r r' h e = sym (front_part m n r h) ∙ ap (λ l. take n (drop m l)) e ∙ front_part m n r' h

same_six : (r r' : List ℕ) → take 75 r ≡ take 75 r' → SameSix r r'
same_six r r' e =
    record {
      code = same_part 0 2 r r' (lit≤ tt) e;
      routing = same_part 2 9 r r' (lit≤ tt) e;
      account = same_part 11 17 r r' (lit≤ tt) e;
      amount = same_part 28 10 r r' (lit≤ tt) e;
      ident = same_part 38 15 r r' (lit≤ tt) e;
      name = same_part 53 22 r r' (lit≤ tt) e;
    }

module _ (filerow batchrow t : List ℕ) (f : length filerow ≡ file_wide) (h : length batchrow ≡ batch_wide) (g : writable t ≡ Ok tt) where
  -- as many rows come back, and of each the columns 2 to 76, which are the six fields one behind the other
  pub fields_back : map (take 75) (rows_in entry_wide (entry_part (import_table filerow batchrow (exported t)))) ≡ map (take 75) (rows_in entry_wide (entry_part t))
  fields_back =
      let rs = rows_in entry_wide (entry_part t) in
      let bank = bank_in batchrow in
      let head = take head_wide batchrow in
      let b : length bank ≡ 8 = length-take-le 8 (drop 74 batchrow) (rw length-drop (omega arith)) in
      let es = entries_of_lines bank 1 (tails_of rs) in
      let few : length es < 10 ^ count_wide = rw (entries_many bank 1 rs) (few_rows t g) in
      let s = one_sized filerow head es f (length-take-le head_wide batchrow (omega arith)) (lines_sized bank b 1 rs (writable_plain t g)) few (no_addenda bank 1 (tails_of rs)) in
      ap (λ ls. map (take 75) (rows_in entry_wide (entry_part (table_bytes (one_batch filerow head (entries_of_lines bank 1 ls)))))) (export_lines t g)
      ∙ ap (map (take 75)) (table_rows (one_batch filerow head es) s)
      ∙ map-map (take 75) (λ e. e.row) (es ++ [])
      ∙ ap (map (λ e. take 75 e.row)) (append-nil es)
      ∙ fields_again bank 1 rs (writable_plain t g)

  pub rows_again : length (rows_in entry_wide (entry_part (import_table filerow batchrow (exported t)))) ≡ length (rows_in entry_wide (entry_part t))
  rows_again =
      sym (length-map (rows_in entry_wide (entry_part (import_table filerow batchrow (exported t)))) (take 75)) ∙ ap length fields_back
      ∙ length-map (rows_in entry_wide (entry_part t)) (take 75)

  pub six_again : (k : ℕ)
      → SameSix (get_or (rows_in entry_wide (entry_part (import_table filerow batchrow (exported t)))) k []) (get_or (rows_in entry_wide (entry_part t)) k [])
  six_again k =
      let was = rows_in entry_wide (entry_part t) in
      let now' = rows_in entry_wide (entry_part (import_table filerow batchrow (exported t))) in
      same_six (get_or now' k []) (get_or was k [])
      (sym (get_or-map (take 75) now' k []) ∙ ap (λ l. get_or l k []) fields_back ∙ get_or-map (take 75) was k [])

-- ---- as outcomes of the two questions

-- what a question says that it made stands in front of what it leaves
front : (a : Answer) (result buffer : List ℕ) → (made a result buffer).gives.answer ≡ Ok tt
    → (a ≡ Ok tt) × (take (made a result buffer).gives.length (made a result buffer).leaves ≡ result)
front (Ok _) result buffer e = (refl, take-append_seam result (drop (length result) buffer))
front (Err r) result buffer e = not_granted e

-- the rows of the one table have the six fields of the other's, one by one
pub record SameFields (t t' : List ℕ) : Type 0 where
  pub many : length (rows_in entry_wide (entry_part t)) ≡ length (rows_in entry_wide (entry_part t'))
  pub each : (k : ℕ) → SameSix (get_or (rows_in entry_wide (entry_part t)) k []) (get_or (rows_in entry_wide (entry_part t')) k [])

-- the bytes that the export made, and the table that the import makes of them
module _ (filerow batchrow t lines table : List ℕ) where
  abbrev pub made_lines : List ℕ
  made_lines = take (export_of t lines).gives.length (export_of t lines).leaves

  abbrev pub made_table : List ℕ → List ℕ
  made_table ls = take (import_of filerow batchrow ls table).gives.length (import_of filerow batchrow ls table).leaves

  pub export_import : (export_of t lines).gives.answer ≡ Ok tt → (import_of filerow batchrow made_lines table).gives.answer ≡ Ok tt
      → SameFields (made_table made_lines) t
  export_import e i =
      let ex = exported t in
      let a = front (and_then (writable t) (room ex lines)) ex lines e in
      let g = (then_granted (writable t) (room ex lines) a.0).0 in
      let i' = subst (λ ls. (import_of filerow batchrow ls table).gives.answer ≡ Ok tt) a.1 i in
      let new = import_table filerow batchrow ex in
      let b = front (and_then (import_answer filerow batchrow ex) (room new table)) new table i' in
      let answered = (then_granted (import_answer filerow batchrow ex) (room new table) b.0).0 in
      let fit = (demand_granted (rows_fit filerow batchrow ex) _ _ (then_granted (lines_answer 1 (lines_in ex)) _ answered).1).0 in
      let both = and_both (eqb (length filerow) file_wide) (eqb (length batchrow) batch_wide) (and_both _ (leb (length (lines_in ex)) most_lines) fit).0 in
      let f = eqb-true (length filerow) file_wide both.0 in
      let h = eqb-true (length batchrow) batch_wide both.1 in
      subst (λ x. SameFields x t) (sym (ap made_table a.1 ∙ b.1))
      (record { many = rows_again filerow batchrow t f h g; each = six_again filerow batchrow t f h g })
