-- The check of the formed file, step by step: what is left of its records behind each of them, by the state alone.
-- Assumes that no entry takes an addendum.
use Rattle.std.specs.Prelude.{Result, Ok, Err, MatchResult, IsErrAnd, IfErr}
use Prim.Native.Nat.{ℕ, ◌+◌, ◌≤◌}
use native.Mathlib.Omega.{arith}
use mathlib.Core.Path.{◌≡◌, refl, sym, ap, ◌∙◌, subst}
use mathlib.Core.Bool.{Bool, true, false, false≢true}
use mathlib.Core.List.{List, [], ◌∷◌, map}
use lib.ListN.{length, get_or, take, replicate}
use lib.Seq.{take_all, length-take-le}
use native.Mathlib.Nat.{le_of_eq}
use Rattle.text.specs.Decimal.{pick}
use Rattle.text.specs.Rows.{joined}
use Rattle.layout.specs.declared.Line.{Line}
use Rattle.layout.specs.declared.Refusal.{Refusal}
use Rattle.layout.specs.Answers.{Checked}
use Rattle.layout.specs.Fields.{rows_of, first_field}
use Rattle.check_across.specs.declared.Sums.{Sums}
use Rattle.check_order.specs.declared.Place.{Place}
use Rattle.check_order.specs.Order.{line_at, takes_addendum, complete, filled}
use Rattle.check_sums.specs.declared.State.{State}
use Rattle.check_sums.specs.WorkFair.{Fair}
use Rattle.check_sums.specs.Sums.{start, no_sums, add_record, add_batch, add_entry, tally}
use Rattle.check_sums.proofs.SumLaws.{records_next}
use Rattle.check_record.specs.declared.Wrong.{Wrong}
use Rattle.check_record.specs.Verdict.{Stepped, stepped_as}
use Rattle.check_record.specs.Record.{Piece, fields_from, line_of, stepped, bare, record_of, onward, run_from}
use Rattle.view.specs.View.{fillers_after, filler_record}
use Rattle.view.specs.Sized.{All}
use Rattle.view_laws.proofs.Ways.{bare_run}
use Rattle.view_laws.proofs.BridgeSums.{fillers_none, fillers_more}
use Rattle.view.specs.Table.{head_wide}
use Rattle.view_laws.proofs.Formed.{file_fields, batch_fields}
use Rattle.table_form.specs.Forms.{file_from, batch_from, entry_from, batch_control_from, file_control_from}
use Rattle.table_write.proofs.PassLaws.{passed}

-- ---- one record

-- a record that fails is the whole answer
pub failed_run : (st : State) (r : List ℕ) (x : Result State Wrong) (P : Wrong → Refusal → Type 0) (y : Result State Refusal)
    → MatchResult x (λ b. y ≡ Ok b) (λ e. IsErrAnd y (P e)) → stepped_as st x ≡ record_of st (bare r)
    → ((wrong : Wrong) (d : Refusal) → P wrong d → d ≡ record { fault = wrong.fault; «record» = record { 0 = st.sums.records + 1 }; field = wrong.field })
    → IfErr y (λ d. (rest : List Piece) → (run_from st (bare r ∷ rest)).answer ≡ Err d)
unfolding run_from
failed_run st r (Ok next) P (Ok b) h s p = tt
failed_run st r (Ok next) P (Err d) h s p = let z : ◌≡◌ {A = ℕ} 0 1 = cc h in absurd (omega arith)
failed_run st r (Err wrong) P (Ok b) h s p = tt
failed_run st r (Err wrong) P (Err d) h s p = λ rest.
    ap (λ v. (onward v (st.sums.records + 1) (run_from (record_of st (bare r)).state rest)).answer) (sym (ap (λ (z : Stepped). z.verdict) s))
    ∙ ap Err (sym (p wrong d h))

-- the check stands in the state st before these records, and gives the whole in the end
pub record At (whole : Checked) (st : State) (rest : List (List ℕ)) : Type 0 where
  pub fair : Fair st
  pub few : st.sums.records + length rest ≤ 1000000
  pub run : bare_run st rest ≡ whole

-- x passed in the state st, and the check stands in the state next
abbrev Behind : State → List ℕ → State → Type 0
Behind st x next = Fair next × (stepped_as st (Ok next) ≡ record_of st (bare x))

module _ {whole : Checked} {st : State} {r : List ℕ} {rest : List (List ℕ)} (a : At whole st (r ∷ rest)) where
  pub step_refused : (x : List ℕ) (d : Refusal) → x ≡ r → ((ps : List Piece) → (run_from st (bare x ∷ ps)).answer ≡ Err d) → Err d ≡ whole.answer
  step_refused x d e f =
      sym (f (map bare rest)) ∙ ap (λ y. (run_from st (bare y ∷ map bare rest)).answer) e ∙ ap (λ c. c.answer) a.run

  step_state : (x : List ℕ) {next : State} → x ≡ r → Behind st x next → next ≡ tally st (line_of st r) r
  step_state x {next} e b = (passed st next r (Ok next) refl (b.1 ∙ ap (λ y. record_of st (bare y)) e)).1

  step_at : (x : List ℕ) {next : State} → x ≡ r → Behind st x next → At whole next rest
  unfolding run_from
  step_at x {next} e b =
      let s : stepped_as st (Ok next) ≡ record_of st (bare r) = b.1 ∙ ap (λ y. record_of st (bare y)) e in
      record {
        fair = b.0;
        few = omega (arith, a.few, ap (λ n. n.sums.records) (step_state x e b), records_next st.sums (line_of st r) r);
        run = ap (λ (z : Stepped). onward z.verdict (st.sums.records + 1) (bare_run z.state rest)) s ∙ a.run;
      }

-- ---- what is left

-- the file control and the fillers
abbrev pub last_records : Sums → List (List ℕ)
last_records s = file_control_from s ∷ replicate (fillers_after (s.records + 1)) filler_record

-- in the batch with record 5 h: the entries of these rows, the batch control, and what is behind the batch
abbrev pub batch_left : Sums → List ℕ → List (List ℕ) → List (List ℕ)
batch_left s h [] = batch_control_from s h ∷ last_records (add_record s)
batch_left s h (row ∷ rows) = entry_from row ∷ batch_left (add_entry s (entry_from row)) h rows

abbrev pub Plain : List ℕ → Type 0
Plain row = takes_addendum (54 ∷ row) ≡ false

-- an entry may stand here
abbrev pub entry_due : Place → Bool
entry_due Place.Start = false
entry_due Place.FileOpen = false
entry_due Place.BatchOpen = true
entry_due Place.AddendumDue = false
entry_due Place.EntryDone = true
entry_due Place.BatchDone = false
entry_due Place.FileDone = false

due_line : (p : Place) (n : ℕ) → entry_due p ≡ true → line_at p n 54 ≡ Line.Entry
due_line Place.Start n e = absurd (false≢true e)
due_line Place.FileOpen n e = absurd (false≢true e)
due_line Place.BatchOpen n e = refl
due_line Place.AddendumDue n e = absurd (false≢true e)
due_line Place.EntryDone n e = refl
due_line Place.BatchDone n e = absurd (false≢true e)
due_line Place.FileDone n e = absurd (false≢true e)

-- a record 8 that passed where an entry may stand is taken for the batch control: a batch has an entry
control_line : (st : State) (r : List ℕ) → get_or r 0 0 ≡ 56 → entry_due st.place ≡ true → (record_of st (bare r)).verdict ≡ Ok tt → line_of st r ≡ Line.BatchControl
unfolding fields_from
control_line st r t e p = go st.place refl e
  where
    go : (q : Place) → st.place ≡ q → entry_due q ≡ true → line_of st r ≡ Line.BatchControl
    go Place.Start f d = absurd (false≢true d)
    go Place.FileOpen f d = absurd (false≢true d)
    go Place.BatchOpen f d =
        let other : line_of st r ≡ Line.Other = rw (f, t) refl in
        let y = subst (λ line. (stepped (fields_from (first_field line) (rows_of line) st.sums st.header r) (tally st line r) st).verdict ≡ Ok tt) other p in
        let z : ◌≡◌ {A = ℕ} 0 1 = cc y in
        absurd (omega arith)
    go Place.AddendumDue f d = absurd (false≢true d)
    go Place.EntryDone f d = rw (f, t) refl
    go Place.BatchDone f d = absurd (false≢true d)
    go Place.FileDone f d = absurd (false≢true d)

-- before the entries of these rows
pub record Entries (whole : Checked) (st : State) (rows : List (List ℕ)) : Type 0 where
  pub at : At whole st (batch_left st.sums st.header rows)
  pub due : entry_due st.place ≡ true
  pub plain : All Plain rows

-- behind the file header, before the batch of these entries' rows
pub record Opened (whole : Checked) (st : State) (batchrow : List ℕ) (rows : List (List ℕ)) : Type 0 where
  pub at : At whole st (batch_from batchrow ∷ batch_left (add_batch st.sums (batch_from batchrow)) (batch_from batchrow) rows)
  pub opened : st.place ≡ Place.FileOpen

pub file_step : {whole : Checked} {st : State} (filerow batchrow : List ℕ) (rows : List (List ℕ)) (x : List ℕ) {next : State} → length filerow ≡ 85 → st ≡ start
    → At whole st (file_from filerow ∷ batch_from batchrow ∷ batch_left (add_batch (add_record no_sums) (batch_from batchrow)) (batch_from batchrow) rows)
    → x ≡ file_from filerow → Behind st x next → Opened whole next batchrow rows
file_step {whole} {st} filerow batchrow rows x {next} l z a e p =
    let r = file_from filerow in
    let line : line_of st r ≡ Line.FileHeader = rw (z, (file_fields (record { row = filerow; batches = [] }) l).type) refl in
    let n : next ≡ tally start Line.FileHeader r = step_state a x e p ∙ ap (λ y. tally st y r) line ∙ ap (λ y. tally y Line.FileHeader r) z in
    record {
      at = subst (λ y. At whole next (batch_from batchrow ∷ batch_left (add_batch y.sums (batch_from batchrow)) (batch_from batchrow) rows)) (sym n) (step_at a x e p);
      opened = ap (λ y. y.place) n;
    }

pub batch_step : {whole : Checked} {st : State} {batchrow : List ℕ} {rows : List (List ℕ)} (x : List ℕ) {next : State} → length batchrow ≡ 95 → All Plain rows
    → Opened whole st batchrow rows → x ≡ batch_from batchrow → Behind st x next → Entries whole next rows
batch_step {whole} {st} {batchrow} {rows} x {next} l plain b e p =
    let r = batch_from batchrow in
    let f = batch_fields (record { row = take head_wide batchrow; entries = [] }) (length-take-le head_wide batchrow (omega arith)) in
    let line : line_of st r ≡ Line.BatchHeader = rw (b.opened, f.type) refl in
    let n : next ≡ tally st Line.BatchHeader r = step_state b.at x e p ∙ ap (λ y. tally st y r) line in
    let header : next.header ≡ r = ap (λ y. y.header) n ∙ take_all 94 r (le_of_eq f.long) in
    record {
      at = subst (λ y. At whole next (batch_left next.sums y rows)) (sym header)
          (subst (λ y. At whole next (batch_left y.sums r rows)) (sym n) (step_at b.at x e p));
      due = ap (λ y. entry_due y.place) n;
      plain = plain;
    }

-- by what the rows to come are
pub entries_as : {whole : Checked} {st : State} {rows rows' : List (List ℕ)} → rows ≡ rows' → Entries whole st rows → Entries whole st rows'
entries_as {whole} {st} e b = subst (λ rs. Entries whole st rs) e b

pub entry_step : {whole : Checked} {st : State} {row : List ℕ} {rows : List (List ℕ)} (x : List ℕ) {next : State} → Entries whole st (row ∷ rows) → x ≡ entry_from row → Behind st x next
    → Entries whole next rows
entry_step {whole} {st} {row} {rows} x {next} b e p =
    let r = entry_from row in
    let n : next ≡ tally st Line.Entry r = step_state b.at x e p ∙ ap (λ line. tally st line r) (due_line st.place st.sums.records b.due) in
    let place : (tally st Line.Entry r).place ≡ Place.EntryDone = ap (λ y. pick y Place.AddendumDue Place.EntryDone) b.plain.0 in
    record {
      at = subst (λ y. At whole next (batch_left y.sums y.header rows)) (sym n) (step_at b.at x e p);
      due = ap (λ y. entry_due y.place) n ∙ ap entry_due place;
      plain = b.plain.1;
    }

-- behind the batch
pub record Batches (whole : Checked) (st : State) : Type 0 where
  pub at : At whole st (last_records st.sums)
  pub done : st.place ≡ Place.BatchDone

pub control_step : {whole : Checked} {st : State} (x : List ℕ) {next : State} → Entries whole st [] → x ≡ batch_control_from st.sums st.header → Behind st x next
    → Batches whole next
unfolding joined
control_step {whole} {st} x {next} b e p =
    let r = batch_control_from st.sums st.header in
    let q = passed st next r (Ok next) refl (p.1 ∙ ap (λ y. record_of st (bare y)) e) in
    let n : next ≡ tally st Line.BatchControl r = q.1 ∙ ap (λ line. tally st line r) (control_line st r refl b.due q.0) in
    record {
      at = subst (λ y. At whole next (last_records y.sums)) (sym n) (step_at b.at x e p);
      done = ap (λ y. y.place) n;
    }

-- among the fillers
pub record Fillers (whole : Checked) (st : State) : Type 0 where
  pub at : At whole st (replicate (fillers_after st.sums.records) filler_record)
  pub done : st.place ≡ Place.FileDone

pub last_step : {whole : Checked} {st : State} (x : List ℕ) {next : State} → Batches whole st → x ≡ file_control_from st.sums → Behind st x next → Fillers whole next
unfolding joined
last_step {whole} {st} x {next} b e p =
    let r = file_control_from st.sums in
    let line : line_of st r ≡ Line.FileControl = rw b.done refl in
    let n : next ≡ tally st Line.FileControl r = step_state b.at x e p ∙ ap (λ l. tally st l r) line in
    record {
      at = subst (λ y. At whole next (replicate (fillers_after y.sums.records) filler_record)) (sym n) (step_at b.at x e p);
      done = ap (λ y. y.place) n;
    }

module _ {whole : Checked} {st : State} (b : Fillers whole st) where
  not_filled : complete st.place st.sums.records ≡ false → filled st.sums.records ≡ false
  not_filled d = ap (λ p. complete p st.sums.records) (sym b.done) ∙ d

  -- one more is due
  pub filler_at : complete st.place st.sums.records ≡ false → At whole st (filler_record ∷ replicate (fillers_after (st.sums.records + 1)) filler_record)
  filler_at d = subst (λ n. At whole st (replicate n filler_record)) (fillers_more st.sums.records (not_filled d)) b.at

  pub filler_step : (x : List ℕ) {next : State} → complete st.place st.sums.records ≡ false → x ≡ filler_record → Behind st x next
      → Fillers whole next × (next.sums.records ≡ st.sums.records + 1)
  filler_step x {next} d e p =
      let line : line_of st filler_record ≡ Line.Filler = rw (b.done, not_filled d) refl in
      let n : next ≡ tally st Line.Filler filler_record = step_state (filler_at d) x e p ∙ ap (λ l. tally st l filler_record) line in (
        record {
          at = subst (λ y. At whole next (replicate (fillers_after y.sums.records) filler_record)) (sym n) (step_at (filler_at d) x e p);
          done = ap (λ y. y.place) n;
        },
        ap (λ y. y.sums.records) n,
      )

  -- none is due any more
  pub granted_at : complete st.place st.sums.records ≡ true → Ok tt ≡ whole.answer
  unfolding run_from
  granted_at d =
      let none : replicate (fillers_after st.sums.records) filler_record ≡ [] =
      ap (λ n. replicate n filler_record) (fillers_none st.sums.records (ap (λ p. complete p st.sums.records) (sym b.done) ∙ d)) in
      let last : (bare_run st []).answer ≡ Ok tt = rw d refl in
      sym last ∙ sym (ap (λ l. (bare_run st l).answer) none) ∙ ap (λ c. c.answer) b.at.run
