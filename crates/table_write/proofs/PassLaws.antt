-- A pass over the formed file's records: where it begins, one turn of it, and where it ends.
-- Assumes a table of right shape.
use Rattle.std.specs.Prelude.{Result, Ok, Err, MatchResult, IsErrAnd}
use Prim.Native.Nat.{ℕ, suc, ◌+◌, ◌*◌, ◌≤◌}
use native.Mathlib.Nat.{zero-add}
use native.Mathlib.Omega.{arith}
use mathlib.Core.Path.{◌≡◌, refl, sym, ap, ◌∙◌, subst}
use mathlib.Core.Bool.{Bool, true, false, ◌&&◌}
use mathlib.Core.List.{List, [], ◌∷◌, ◌++◌, map}
use borrow.Author.Tests.{eqb-true}
use lib.Dec.{eqb}
use lib.ListN.{length, take, drop, replicate, length-append, length-drop, take-append-drop}
use lib.Seq.{sets, sets-eq, length-sets, length-take-le}
use Rattle.text.specs.Decimal.{digits}
use Rattle.text.specs.Rows.{joined, rows}
use Rattle.text.proofs.DecimalLaws.{and_both}
use Rattle.text.proofs.RowLaws.{length_rows}
use Rattle.text.proofs.SetLaws.{sets_append}
use Rattle.layout.specs.declared.Fault.{Fault}
use Rattle.layout.specs.Fields.{rows_of, first_field}
use Rattle.check_order.specs.declared.Place.{Place}
use Rattle.check_sums.specs.declared.State.{State}
use Rattle.check_record.specs.declared.Wrong.{Wrong}
use Rattle.check_record.specs.Verdict.{Verdict, Stepped, stepped_as, wrong_of}
use Rattle.check_order.specs.Order.{complete}
use Rattle.check_sums.specs.Sums.{start, no_sums, add_record, tally}
use Rattle.check_record.specs.Record.{fields_from, line_of, stepped, bare, record_of, run_from, refused, onward, checked_of}
use Rattle.check_sums.proofs.SumLaws.{records_next}
use Rattle.check_file.proofs.Laws.{header_long}
use Rattle.view.specs.View.{Entry, closed_by, sum_over, records_in, file_record, file_control_record, fillers_after, filler_record, records_of, entries_of, body_of}
use Rattle.view.specs.Table.{batch_part, entry_part, addendum_part, count_of, rows_in, addenda_due, entries_due, with_addenda, with_entries, view_of_table, every_row, shaped, formed}
use Rattle.view_laws.proofs.Lists.{nil_of_length}
use Rattle.view_laws.proofs.Tables.{entries_in, shaped_sized}
use Rattle.view_laws.proofs.Reading.{records_long}
use Rattle.view_laws.proofs.BridgeSums.{batches_records, after_body, file_control_same, file_sums, records_length, body_length, fillers_none}
use Rattle.view_laws.proofs.BridgeSound.{refused_not}
use Rattle.view_laws.proofs.Bridge.{checked_joined}
use Rattle.table_form.specs.declared.walking.Cursor.{Cursor}
use Rattle.table_form.specs.WorkSections.{size_by}
use Rattle.table_form.specs.WorkWalking.{entries_ahead, texts_ahead, Inside, form_of, past_of, first_of}
use Rattle.table_form.proofs.ShapeLaws.{batch_rows_at, entry_rows_at, addendum_rows_at}
use Rattle.table_form.proofs.WalkLaws.{entries_by, later, between, behind_batches, todo_at, todo, turn}
use Rattle.layout.specs.declared.Way.{Way}
use Rattle.layout.specs.Ways.{end_of, record_bytes}
use Rattle.view_laws.proofs.Ways.{bare_run}

-- ---- what a right shape gives

-- the counts and the batches' numbers of entries are digits
abbrev plain : List ℕ → Bool
plain t =
    digits (take 6 t) && digits (take 6 (batch_part t)) && digits (take 6 (entry_part t)) && digits (take 6 (addendum_part t))

abbrev numbers : List ℕ → Bool
numbers t = every_row (λ r. digits (drop 89 r)) (rows_in 95 (batch_part t))

pub record Right (t : List ℕ) : Type 0 where
  pub size : length t ≡ size_by t
  pub taken : sum_over entries_due (rows_in 95 (batch_part t)) ≡ count_of (entry_part t)
  pub due : sum_over addenda_due (rows_in 93 (entry_part t)) ≡ count_of (addendum_part t)

pub right : (t : List ℕ) → shaped t ≡ true → Right t
right t h =
    let a = and_both _ (eqb (sum_over addenda_due (rows_in 93 (entry_part t))) (count_of (addendum_part t))) h in
    let b = and_both _ (eqb (sum_over entries_due (rows_in 95 (batch_part t))) (count_of (entry_part t))) a.0 in
    let c = and_both (plain t && numbers t && eqb (count_of t) 1) (eqb (length t) (size_by t)) b.0 in
    record { size = eqb-true _ _ c.1; taken = eqb-true _ _ b.1; due = eqb-true _ _ a.1 }

-- ---- the beginning

module _ (t : List ℕ) (g : Right t) where
  entries_first : entries_ahead t (first_of t) ≡ count_of (entry_part t)
  entries_first = ap (λ rs. 0 + sum_over entries_due rs) (sym (batch_rows_at t)) ∙ zero-add _ ∙ g.taken

  texts_first : texts_ahead t (first_of t) ≡ count_of (addendum_part t)
  texts_first =
      ap (λ n. sum_over addenda_due (rows 93 n (drop (first_of t).entry t))) entries_first ∙ ap (sum_over addenda_due) (sym (entry_rows_at t)) ∙ g.due

  first_inside : Inside t Place.Start (first_of t)
  first_inside =
      record {
        whole = omega (arith, g.size);
        batches = omega (arith, g.size);
        entries = omega (arith, g.size, entries_first);
        texts = omega (arith, g.size, texts_first);
        last = omega (arith, g.size);
        none = refl;
      }

  later_first : later t (between (first_of t)) ≡ (view_of_table t).batches
  later_first =
      let entry = (first_of t).entry in
      let text = (first_of t).text in
      let ne = count_of (entry_part t) in
      let due : sum_over addenda_due (rows 93 ne (drop entry t)) ≡ count_of (addendum_part t) = ap (sum_over addenda_due) (sym (entry_rows_at t)) ∙ g.due in
      ap (λ n. with_entries (rows 95 (count_of (batch_part t)) (drop 97 t)) (entries_by t n entry text)) entries_first
      ∙ ap (λ n. with_entries (rows 95 (count_of (batch_part t)) (drop 97 t)) (with_addenda (rows 93 ne (drop entry t)) (rows 80 n (drop text t)))) due
      ∙ ap (λ rs. with_entries rs (with_addenda (rows 93 ne (drop entry t)) (rows 80 (count_of (addendum_part t)) (drop text t)))) (sym (batch_rows_at t))
      ∙ ap (λ rs. with_entries (rows_in 95 (batch_part t)) (with_addenda rs (rows 80 (count_of (addendum_part t)) (drop text t)))) (sym (entry_rows_at t))
      ∙ ap (λ ts. with_entries (rows_in 95 (batch_part t)) (with_addenda (rows_in 93 (entry_part t)) ts)) (sym (addendum_rows_at t))

  -- all records are to be formed
  todo_first : todo t (first_of t) start ≡ records_of (view_of_table t)
  todo_first =
      let v = view_of_table t in
      let bs = batches_records v.batches in
      ap (λ l. file_record v ∷ behind_batches (add_record no_sums) l) later_first
      ∙ ap (λ x. file_record v ∷ (bs ++ (x ∷ replicate (fillers_after ((after_body v).records + 1)) filler_record))) (file_control_same v)
      ∙ ap (λ n. file_record v ∷ (bs ++ (file_control_record v ∷ replicate (fillers_after (n + 1)) filler_record))) (file_sums v).records

-- ---- how many records there are

batches_many : (rs : List (List ℕ)) (es : List Entry) → length (with_entries rs es) ≡ length rs
unfolding with_entries
batches_many [] es = refl
batches_many (r ∷ rs) es = ap suc (batches_many rs (drop (entries_due r) es))

entries_many : (rs ts : List (List ℕ)) → length (with_addenda rs ts) ≡ length rs
unfolding with_addenda
entries_many [] ts = refl
entries_many (r ∷ rs) ts = ap suc (entries_many rs (drop (addenda_due r) ts))

entries_all : (rs : List (List ℕ)) (es : List Entry) → sum_over entries_due rs ≡ length es → entries_in (with_entries rs es) ≡ es
unfolding with_entries sum_over
entries_all [] es h = sym (nil_of_length es (sym h))
entries_all (r ∷ rs) es h =
    let n = entries_due r in
    rw (entries_all rs (drop n es) (rw length-drop (omega arith))) (take-append-drop n es)

records_many : (rs ts : List (List ℕ)) → sum_over addenda_due rs ≡ length ts → sum_over records_in (with_addenda rs ts) ≡ length rs + length ts
unfolding with_addenda sum_over
records_many [] ts h = omega arith
records_many (r ∷ rs) ts h =
    let n = addenda_due r in
    omega (arith, length-take-le n ts (omega arith), records_many rs (drop n ts) (rw length-drop (omega arith)), length-drop n ts)

pub records_count : (t : List ℕ) → Right t → (n : ℕ) → n ≡ 2 + 2 * count_of (batch_part t) + count_of (entry_part t) + count_of (addendum_part t)
    → length (records_of (view_of_table t)) ≡ n + fillers_after n
records_count t g n e =
    let v = view_of_table t in
    let rs = rows_in 93 (entry_part t) in
    let ts = rows_in 80 (addendum_part t) in
    let heads = rows_in 95 (batch_part t) in
    let texts = length_rows 80 (count_of (addendum_part t)) (drop 6 (addendum_part t)) in
    let rows93 = length_rows 93 (count_of (entry_part t)) (drop 6 (entry_part t)) in
    let es : entries_of v ≡ with_addenda rs ts = entries_all heads (with_addenda rs ts) (g.taken ∙ sym (entries_many rs ts ∙ rows93)) in
    let each : sum_over records_in (entries_of v) ≡ length rs + length ts = ap (sum_over records_in) es ∙ records_many rs ts (g.due ∙ sym texts) in
    let bs : length v.batches ≡ count_of (batch_part t) = batches_many heads (with_addenda rs ts) ∙ length_rows 95 (count_of (batch_part t)) (drop 6 (batch_part t)) in
    let all : length (body_of v) + 1 ≡ n = omega (arith, body_length v) in
    records_length v ∙ ap (λ k. k + fillers_after k) all

-- checking the formed file is running over its records
checked_run : (t : List ℕ) → shaped t ≡ true → length (records_of (view_of_table t)) ≤ 1000000 → checked_of Way.Plain (formed Way.Plain t) ≡ bare_run start (records_of (view_of_table t))
checked_run t h m =
    let v = view_of_table t in
    checked_joined Way.Plain (records_of v) (records_long v (shaped_sized t h)) (omega (arith, records_length v)) m

-- ---- one turn

passed_state : (v : Verdict) (next st : State) → (stepped v next st).verdict ≡ Ok tt → (stepped v next st).state ≡ next
passed_state (Ok _) next st e = refl
passed_state (Err wrong) next st e = let z : ◌≡◌ {A = ℕ} 0 1 = cc e in absurd (omega arith)

pub passed_on : (st : State) (r : List ℕ) → (record_of st (bare r)).verdict ≡ Ok tt → (record_of st (bare r)).state ≡ tally st (line_of st r) r
passed_on st r e =
    let line = line_of st r in
    passed_state (fields_from (first_field line) (rows_of line) st.sums st.header r) (tally st line r) st e

-- what a check that passed, or that failed, says of a record
pub passed : (st next : State) (r : List ℕ) (x : Result State Wrong) → x ≡ Ok next → stepped_as st x ≡ record_of st (bare r)
    → ((record_of st (bare r)).verdict ≡ Ok tt) × (next ≡ tally st (line_of st r) r)
passed st next r x e s =
    let all = sym (ap (stepped_as st) e) ∙ s in
    let verdict = sym (ap (λ (y : Stepped). y.verdict) all) in
    (verdict, ap (λ (y : Stepped). y.state) all ∙ passed_on st r verdict)

pub failed : (st : State) (r : List ℕ) (x : Result State Wrong) (wrong : Wrong) → x ≡ Err wrong → stepped_as st x ≡ record_of st (bare r)
    → (record_of st (bare r)).verdict ≡ Err wrong
failed st r x wrong e s = sym (ap (λ (y : Stepped). y.verdict) (sym (ap (stepped_as st) e) ∙ s))

-- a result whose error was made over: what was made over
pub mapped_ok : {A E D : Type 0} (P : E → D → Type 0) (x : Result A E) (y : Result A D) (a : A) → MatchResult x (λ b. y ≡ Ok b) (λ e. IsErrAnd y (P e)) → y ≡ Ok a → x ≡ Ok a
mapped_ok P (Ok b) y a h e = cc
mapped_ok P (Err w) y a h e = absurd (rw e at h)

pub mapped_err : {A E D : Type 0} (P : E → D → Type 0) (x : Result A E) (y : Result A D) (d : D) → MatchResult x (λ b. y ≡ Ok b) (λ e. IsErrAnd y (P e)) → y ≡ Err d
    → (e : E) × (x ≡ Err e) × P e d
mapped_err P (Ok b) y d h e = cc
mapped_err P (Err w) y d h e = (w, refl, rw e at h)

-- r is formed at the cursor c in the state st, and passes: next is the state behind it, and c' the cursor
pub record Step (t : List ℕ) (c : Cursor) (st : State) (r : List ℕ) (next : State) (c' : Cursor) : Type 0 where
  pub inside : Inside t next.place c'
  pub header : length next.header ≡ 94
  pub counted : next.sums.records ≡ st.sums.records + 1
  pub fewer : length (todo t c st) ≡ length (todo t c' next) + 1
  pub run : bare_run st (todo t c st) ≡ bare_run next (todo t c' next)
  pub form : todo t c st ≡ r ∷ todo t c' next

module _ (t : List ℕ) (c : Cursor) (st : State) (l : length st.header ≡ 94) (d : complete st.place st.sums.records ≡ false) (i : Inside t st.place c) where
  -- the record has 94 bytes, and is the first of those to be formed
  pub form_long : (r : List ℕ) → r ≡ form_of t c st → length r ≡ 94
  form_long r e = ap length e ∙ (turn t c st l d i).long

  pub some_left_lem : 1 ≤ length (todo t c st)
  some_left_lem = let n = ap length (turn t c st l d i).form in omega arith

  pub form_first : (way : Way) (r : List ℕ) → r ≡ form_of t c st → length r + length (end_of way) ≤ length (joined (map (closed_by way) (todo t c st)))
  unfolding joined
  form_first way r e =
      let u = turn t c st l d i in
      omega (arith, ap length e, ap (λ rs. length (joined (map (closed_by way) rs))) u.form, length-append (closed_by way (form_of t c st)) (joined (map (closed_by way) u.rest)), length-append (form_of t c st) (end_of way))

  step_on : (record_of st (bare (form_of t c st))).verdict ≡ Ok tt
      → Step t c st (form_of t c st) (tally st (line_of st (form_of t c st)) (form_of t c st)) (past_of t c st.place)
  unfolding run_from joined
  step_on p =
      let r = form_of t c st in
      let line = line_of st r in
      let u = turn t c st l d i in
      let o = u.onward p in
      let form : todo t c st ≡ r ∷ todo t (past_of t c st.place) (tally st line r) = u.form ∙ ap (λ x. r ∷ x) o.0 in
      record {
        inside = o.1;
        header = header_long st.header line r l u.long;
        counted = records_next st.sums line r;
        fewer = let n = ap length form in omega arith;
        run =
            ap (bare_run st) form
            ∙ ap (λ v. onward v (st.sums.records + 1) (bare_run (record_of st (bare r)).state (todo t (past_of t c st.place) (tally st line r)))) p
            ∙ ap (λ x. bare_run x (todo t (past_of t c st.place) (tally st line r))) (passed_on st r p);
        form = form;
      }

  -- as the code makes them
  pub step_by_lem : (r : List ℕ) (next : State) (c' : Cursor) → r ≡ form_of t c st → (record_of st (bare r)).verdict ≡ Ok tt
      → next ≡ tally st (line_of st r) r → c' ≡ past_of t c st.place → Step t c st r next c'
  step_by_lem r next c' e p f g =
      let a = subst (λ x. Step t c st x (tally st (line_of st x) x) (past_of t c st.place)) (sym e)
      (step_on (subst (λ x. (record_of st (bare x)).verdict ≡ Ok tt) e p)) in
      subst (λ x. Step t c st r next x) (sym g) (subst (λ x. Step t c st r x (past_of t c st.place)) (sym f) a)

  -- a record that fails is the answer
  pub run_refused : (r : List ℕ) (fault : Fault) (k : ℕ) → r ≡ form_of t c st → (record_of st (bare r)).verdict ≡ Err (wrong_of fault k)
      → bare_run st (todo t c st) ≡ refused fault (st.sums.records + 1) k
  unfolding run_from
  run_refused r fault k e f =
      ap (bare_run st) (turn t c st l d i).form
      ∙ ap (λ v. onward v (st.sums.records + 1) (bare_run (record_of st (bare (form_of t c st))).state (turn t c st l d i).rest)) (subst (λ x. (record_of st (bare x)).verdict ≡ Err (wrong_of fault k)) e f)

  -- where the whole is granted, the record passes
  pub granted_passes : (r : List ℕ) → r ≡ form_of t c st → (bare_run st (todo t c st)).answer ≡ Ok tt → (record_of st (bare r)).verdict ≡ Ok tt
  granted_passes r e a = go (record_of st (bare r)).verdict refl
    where
      go : (v : Verdict) → (record_of st (bare r)).verdict ≡ v → v ≡ Ok tt
      go (Ok _) f = refl
      go (Err wrong) f = refused_not wrong.fault (st.sums.records + 1) wrong.field (ap (λ x. x.answer) (sym (run_refused r wrong.fault wrong.field e f)) ∙ a)

-- ---- the end

pub none_left : (t : List ℕ) (c : Cursor) (st : State) → complete st.place st.sums.records ≡ true → todo t c st ≡ []
none_left t c st e = go st.place e
  where
    never : {A : Type 0} → false ≡ true → A
    never z = let y : ◌≡◌ {A = ℕ} 0 1 = cc z in absurd (omega arith)

    go : (p : Place) → complete p st.sums.records ≡ true → todo_at t c p st.sums st.header ≡ []
    go Place.Start d = never d
    go Place.FileOpen d = never d
    go Place.BatchOpen d = never d
    go Place.AddendumDue d = never d
    go Place.EntryDone d = never d
    go Place.BatchDone d = never d
    go Place.FileDone d = ap (λ n. replicate n filler_record) (fillers_none st.sums.records d)

pub run_granted : (t : List ℕ) (c : Cursor) (st : State) → complete st.place st.sums.records ≡ true → (bare_run st (todo t c st)).answer ≡ Ok tt
unfolding run_from
run_granted t c st e = ap (λ rs. (bare_run st rs).answer) (none_left t c st e) ∙ rw e refl

-- ---- a pass

-- the walk stands at the cursor c in the state st
pub record Walking (t : List ℕ) (c : Cursor) (st : State) : Type 0 where
  pub inside : Inside t st.place c
  pub header : length st.header ≡ 94
  pub few : st.sums.records + length (todo t c st) ≤ 1000000

pub record Begun (t : List ℕ) (c : Cursor) (st : State) : Type 0 where
  pub walking : Walking t c st
  pub all : todo t c st ≡ records_of (view_of_table t)
  pub run : bare_run st (todo t c st) ≡ checked_of Way.Plain (formed Way.Plain t)

pub begun : (t : List ℕ) (c : Cursor) (st : State) → shaped t ≡ true → length (records_of (view_of_table t)) ≤ 1000000 → c ≡ first_of t → st ≡ start → Begun t c st
begun t c st h m e f =
    let g = right t h in
    let all = todo_first t g in
    let first : Begun t (first_of t) start =
    record {
      walking = record { inside = first_inside t g; header = refl; few = omega (arith, ap length all) };
      all = all;
      run = ap (bare_run start) all ∙ sym (checked_run t h m);
    } in
    subst (λ x. Begun t x st) (sym e) (subst (λ x. Begun t (first_of t) x) (sym f) first)

pub walking_on : {t : List ℕ} {c : Cursor} {st : State} {r : List ℕ} {next : State} {c' : Cursor} → Walking t c st → Step t c st r next c' → Walking t c' next
walking_on w s = record { inside = s.inside; header = s.header; few = omega (arith, w.few, s.counted, s.fewer) }

-- what is still to be written, at a byte of the file as it stands, makes the whole that is to stand in front of it
pub record Left (whole file₀ file : List ℕ) (at : ℕ) (more : List ℕ) : Type 0 where
  pub room : at + length more ≤ length file
  pub makes : sets file at more ≡ sets file₀ 0 whole
  pub fits : length whole ≤ length file₀

pub left_first : (whole file more : List ℕ) → more ≡ whole → length whole ≤ length file → Left whole file file 0 more
left_first whole file more e h = record { room = omega (arith, ap length e); makes = ap (sets file 0) e; fits = h }

-- one part is written
pub left_on : {whole file₀ file : List ℕ} {at : ℕ} {more : List ℕ} (part rest : List ℕ) (n : ℕ) → more ≡ part ++ rest → length part ≡ n
    → Left whole file₀ file at more → Left whole file₀ (sets file at part) (at + n) rest
left_on {whole} {file₀} {file} {at} {more} part rest n e l s =
    record {
      room = rw length-sets (omega (arith, s.room, ap length e, length-append part rest));
      makes = rw (← l) (sym (sets_append file at part rest)) ∙ ap (sets file at) (sym e) ∙ s.makes;
      fits = s.fits;
    }

-- a record is written, and its line end behind it
pub left_closed : {whole file₀ file : List ℕ} {at : ℕ} (way : Way) (rs : List (List ℕ)) (r : List ℕ) (rest : List (List ℕ)) → rs ≡ r ∷ rest → length r ≡ 94
    → Left whole file₀ file at (joined (map (closed_by way) rs)) → Left whole file₀ (sets (sets file at r) (at + 94) (end_of way)) (at + record_bytes way) (joined (map (closed_by way) rest))
unfolding joined
left_closed {whole} {file₀} {file} {at} way rs r rest e l s =
    let both : sets file at (closed_by way r) ≡ sets (sets file at r) (at + 94) (end_of way) = sets_append file at r (end_of way) ∙ ap (λ n. sets (sets file at r) (at + n) (end_of way)) l in
    subst (λ f. Left whole file₀ f (at + record_bytes way) (joined (map (closed_by way) rest))) both
    (left_on (closed_by way r) (joined (map (closed_by way) rest)) (record_bytes way) (ap (λ xs. joined (map (closed_by way) xs)) e) (length-append r (end_of way) ∙ ap (λ n. n + length (end_of way)) l) s)

-- the file keeps its length
pub left_length : {whole file₀ file : List ℕ} {at : ℕ} {more : List ℕ} → Left whole file₀ file at more → length file ≡ length file₀
left_length {whole} {file₀} {file} {at} {more} s = sym (length-sets file at more) ∙ ap length s.makes ∙ length-sets file₀ 0 whole

-- nothing is left
pub left_end : {whole file₀ file : List ℕ} {at : ℕ} (way : Way) (rs : List (List ℕ)) → rs ≡ [] → Left whole file₀ file at (joined (map (closed_by way) rs)) → file ≡ whole ++ drop (length whole) file₀
unfolding joined
left_end {whole} {file₀} {file} {at} way rs e s =
    ap (λ l. sets file at (joined (map (closed_by way) l))) (sym e) ∙ s.makes ∙ sets-eq whole file₀ 0 (omega (arith, s.fits)) ∙ rw zero-add
