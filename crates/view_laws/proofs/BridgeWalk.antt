-- A run over the records of a view: what holds of the rest, and of each record by itself, holds of the whole.
-- Assumes the view's sizes.
use mathlib.Core.Path.{◌≡◌, refl, ap, ◌∙◌}
use mathlib.Core.Bool.{Bool, true, false}
use mathlib.Core.List.{List, [], ◌∷◌, ◌++◌, map, append_assoc}
use Prim.Native.Nat.{ℕ, zero, suc, ◌+◌}
use native.Mathlib.Nat.{le_of_eq}
use native.Mathlib.Omega.{arith}
use lib.ListN.{length, get_or, replicate}
use lib.Seq.{take_all}
use Rattle.text.specs.Decimal.{pick, every}
use Rattle.text.specs.Widths.{AllLong}
use Rattle.layout.specs.Answers.{Checked}
use Rattle.layout.specs.declared.Line.{Line}
use Rattle.layout.specs.Fields.{rows_of, first_field}
use Rattle.check_across.specs.declared.Sums.{Sums}
use Rattle.check_order.specs.declared.Place.{Place}
use Rattle.check_sums.specs.declared.State.{State}
use Rattle.check_record.specs.Verdict.{Verdict}
use Rattle.check_order.specs.Order.{line_at, takes_addendum}
use Rattle.check_sums.specs.Sums.{start, no_sums, add_record, add_batch, add_entry, tally}
use Rattle.check_record.specs.Record.{fields_from, line_of, stepped, onward, run_from, accepted}
use Rattle.view.specs.View.{Entry, Batch, View, entry_record, addendum_record, batch_record, batch_control_record, file_record, file_control_record, body_of, records_of, entries_of, fillers_after, filler_record}
use Rattle.view.specs.Sized.{All, SizedEntry, SizedBatch, Sized}
use Rattle.view.specs.Keeps.{Right}
use Rattle.view_laws.proofs.Formed.{file_fields, addendum_fields, batch_fields, batch_control_fields, file_control_fields}
use Rattle.view_laws.proofs.Tables.{entries_in}
use Rattle.view_laws.proofs.BridgeFields.{right_passed}
use Rattle.view_laws.proofs.BridgeSums.{fillers_full, fillers_due, fillers_more, after_addenda, after_entry, after_entries, after_batch, after_batches, after_body, entries_records, batches_records, codes_after, codes_append, file_sums}
use Rattle.view_laws.proofs.Ways.{bare_run}

-- a state of the run
abbrev pub at : Place → Sums → List ℕ → List ℕ → State
at p s h c = record { place = p; sums = s; header = h; bycode = c }

-- what checking the file of a view gives, if it is granted
abbrev pub granted_of : View → Checked
granted_of v = accepted (at Place.FileDone (add_record (after_body v)) [] (codes_after (replicate 24 0) (entries_of v)))

-- the run behind a record's verdict
abbrev pub carry : Verdict → State → State → List (List ℕ) → Checked
carry v next st rs = onward (stepped v next st).verdict (st.sums.records + 1) (bare_run (stepped v next st).state rs)

-- a record is checked as the line that it is taken for
pub run_line : (st : State) (line : Line) (r : List ℕ) (rs : List (List ℕ)) → line_of st r ≡ line
    → bare_run st (r ∷ rs) ≡ carry (fields_from (first_field line) (rows_of line) st.sums st.header r) (tally st line r) st rs
unfolding run_from
run_line st line r rs e = ap (λ l. carry (fields_from (first_field l) (rows_of l) st.sums st.header r) (tally st l r) st rs) e

-- a right record passes
pub pass : (st : State) (line : Line) (r : List ℕ) (rs : List (List ℕ)) → line_of st r ≡ line → Right (rows_of line) st.sums st.header r
    → bare_run st (r ∷ rs) ≡ bare_run (tally st line r) rs
pass st line r rs e g =
    run_line st line r rs e ∙ ap (λ v. carry v (tally st line r) st rs) (right_passed (first_field line) (rows_of line) st.sums st.header r g)

-- fillers pass, and then the file is complete
pub fillers_run : (k : ℕ) (s : Sums) (h c : List ℕ) → fillers_after s.records ≡ k → bare_run (at Place.FileDone s h c) (replicate k filler_record) ≡ accepted (at Place.FileDone s h c)
unfolding run_from every
fillers_run zero s h c e = rw (fillers_full s.records e)
fillers_run (suc k) s h c e =
    let due = fillers_due s.records k e in
    let fewer = fillers_more s.records due in
    pass (at Place.FileDone s h c) Line.Filler filler_record (replicate k filler_record) (rw due) (refl, tt)
    ∙ fillers_run k (add_record s) h c (omega arith)

-- ---- what is wanted of each record, where it stands

module _ (Ok : Line → Sums → List ℕ → List ℕ → Type 0) where
  -- of entries, from the sums s on and under record 5 h
  abbrev pub EntriesOk : Sums → List ℕ → List Entry → Type 0
  EntriesOk s h [] = Unit {0}
  EntriesOk s h (e ∷ es) =
      Ok Line.Entry s h (entry_record e) × All (λ text. Ok Line.Addendum (add_entry s (entry_record e)) h (addendum_record e text)) e.addenda × EntriesOk (after_entry s e) h es

  -- of a batch and of batches, whatever record 5 stood before
  pub record BatchOk (s : Sums) (b : Batch) : Type 0 where
    pub header : (h : List ℕ) → Ok Line.BatchHeader s h (batch_record b)
    pub entries : EntriesOk (add_batch s (batch_record b)) (batch_record b) b.entries
    pub control : Ok Line.BatchControl (after_entries (add_batch s (batch_record b)) b.entries) (batch_record b) (batch_control_record b)

  abbrev pub BatchesOk : Sums → List Batch → Type 0
  BatchesOk s [] = Unit {0}
  BatchesOk s (b ∷ bs) = BatchOk s b × BatchesOk (after_batch s b) bs

  -- of the file
  pub record FileOk (v : View) : Type 0 where
    pub header : Ok Line.FileHeader no_sums start.header (file_record v)
    pub batches : BatchesOk (add_record no_sums) v.batches
    pub control : (h : List ℕ) → Ok Line.FileControl (after_body v) h (file_control_record v)

-- no entry in a batch, or no batch in the file, stops the run
abbrev pub Some : {A : Type 0} → Type 0 → List A → Type 0
Some Stop [] = Stop
Some Stop (x ∷ xs) = Unit {0}

module _ (P : Checked → Type 0) (Ok : Line → Sums → List ℕ → List ℕ → Type 0) (Stop : Type 0)
    (step : (st : State) (line : Line) (r : List ℕ) (rs : List (List ℕ)) → line_of st r ≡ line → Ok line st.sums st.header r → P (bare_run (tally st line r) rs) → P (bare_run st (r ∷ rs)))
    (stop : Stop → (st : State) (r : List ℕ) (rs : List (List ℕ)) → line_of st r ≡ Line.Other → P (bare_run st (r ∷ rs))) where
  -- an entry's addenda
  addenda_walk : (e : Entry) → length e.row ≡ 93 → (s : Sums) (h c : List ℕ) (texts : List (List ℕ)) (rest : List (List ℕ)) (b : Bool)
      → length texts ≡ pick b 1 0 → AllLong 80 texts → All (λ text. Ok Line.Addendum s h (addendum_record e text)) texts
      → P (bare_run (at Place.EntryDone (after_addenda s texts) h c) rest)
      → P (bare_run (at (pick b Place.AddendumDue Place.EntryDone) s h c) (map (addendum_record e) texts ++ rest))
  addenda_walk e l s h c [] rest true d t k p = absurd (omega arith)
  addenda_walk e l s h c [] rest false d t k p = p
  addenda_walk e l s h c (text ∷ []) rest true d t k p =
      step (at Place.AddendumDue s h c) Line.Addendum (addendum_record e text) rest (rw (addendum_fields e text l t.0).type) k.0 p
  addenda_walk e l s h c (text ∷ []) rest false d t k p = absurd (omega arith)
  addenda_walk e l s h c (text ∷ text' ∷ texts) rest true d t k p = absurd (omega arith)
  addenda_walk e l s h c (text ∷ text' ∷ texts) rest false d t k p = absurd (omega arith)

  -- one entry, and then the others
  cons_walk : (place : Place) → ((n : ℕ) → line_at place n 54 ≡ Line.Entry) → (s : Sums) (h c : List ℕ) (e : Entry) (es : List Entry) (rest : List (List ℕ))
      → SizedEntry e → EntriesOk Ok s h (e ∷ es)
      → P (bare_run (at Place.EntryDone (after_entry s e) h (codes_after c (e ∷ []))) (entries_records es ++ rest))
      → P (bare_run (at place s h c) (entries_records (e ∷ es) ++ rest))
  cons_walk place o s h c e es rest l k p =
      step (at place s h c) Line.Entry (entry_record e) ((map (addendum_record e) e.addenda ++ entries_records es) ++ rest) (o s.records) k.0
      (rw (append_assoc (map (addendum_record e) e.addenda) (entries_records es) rest)
      (addenda_walk e l.long (add_entry s (entry_record e)) h (codes_after c (e ∷ [])) e.addenda (entries_records es ++ rest) (takes_addendum (entry_record e)) l.due l.texts k.1 p))

  -- entries behind the first
  entries_walk : (s : Sums) (h c : List ℕ) (es : List Entry) (rest : List (List ℕ)) → All SizedEntry es → EntriesOk Ok s h es
      → P (bare_run (at Place.EntryDone (after_entries s es) h (codes_after c es)) rest) → P (bare_run (at Place.EntryDone s h c) (entries_records es ++ rest))
  entries_walk s h c [] rest l k p = p
  entries_walk s h c (e ∷ es) rest l k p =
      cons_walk Place.EntryDone (λ n. refl) s h c e es rest l.0 k (entries_walk (after_entry s e) h (codes_after c (e ∷ [])) es rest l.1 k.2 p)

  -- the first entry stands where the batch is open, and its control does not
  first_walk_lem : (s : Sums) (h c : List ℕ) (es : List Entry) (r : List ℕ) (rest : List (List ℕ)) → get_or r 0 0 ≡ 56 → Some Stop es → All SizedEntry es → EntriesOk Ok s h es
      → P (bare_run (at Place.EntryDone (after_entries s es) h (codes_after c es)) (r ∷ rest)) → P (bare_run (at Place.BatchOpen s h c) (entries_records es ++ (r ∷ rest)))
  first_walk_lem s h c [] r rest b m l k p = stop m (at Place.BatchOpen s h c) r rest (rw b)
  first_walk_lem s h c (e ∷ es) r rest b m l k p =
      cons_walk Place.BatchOpen (λ n. refl) s h c e es (r ∷ rest) l.0 k (entries_walk (after_entry s e) h (codes_after c (e ∷ [])) es (r ∷ rest) l.1 k.2 p)

  -- one batch, and then the others
  batch_walk : (place : Place) → ((n : ℕ) → line_at place n 53 ≡ Line.BatchHeader) → (s : Sums) (h c : List ℕ) (b : Batch) (bs : List Batch) (rest : List (List ℕ))
      → SizedBatch b → Some Stop b.entries → BatchOk Ok s b
      → P (bare_run (at Place.BatchDone (after_batch s b) (batch_record b) (codes_after c b.entries)) (batches_records bs ++ rest))
      → P (bare_run (at place s h c) (batches_records (b ∷ bs) ++ rest))
  batch_walk place o s h c b bs rest l m k p =
      let f = batch_fields b l.long in
      let r = batch_record b in
      let inside = entries_records b.entries in
      let control = batch_control_record b in
      let typed = (batch_control_fields b l.long).type in
      step (at place s h c) Line.BatchHeader r (((inside ++ (control ∷ [])) ++ batches_records bs) ++ rest) (rw f.type (o s.records)) (k.header h)
      (rw (take_all 94 r (le_of_eq f.long), append_assoc (inside ++ (control ∷ [])) (batches_records bs) rest, append_assoc inside (control ∷ []) (batches_records bs ++ rest))
      (first_walk_lem (add_batch s r) r c b.entries control (batches_records bs ++ rest) typed m l.each k.entries
      (step (at Place.EntryDone (after_entries (add_batch s r) b.entries) r (codes_after c b.entries)) Line.BatchControl control (batches_records bs ++ rest) (rw typed) k.control p)))

  -- batches behind the first; the record 5 of the last one stays
  batches_walk : (s : Sums) (h c : List ℕ) (bs : List Batch) (rest : List (List ℕ)) → All SizedBatch bs → All (λ b. Some Stop b.entries) bs → BatchesOk Ok s bs
      → ((h' : List ℕ) → P (bare_run (at Place.BatchDone (after_batches s bs) h' (codes_after c (entries_in bs))) rest)) → P (bare_run (at Place.BatchDone s h c) (batches_records bs ++ rest))
  batches_walk s h c [] rest l m k p = p h
  batches_walk s h c (b ∷ bs) rest l m k p =
      batch_walk Place.BatchDone (λ n. refl) s h c b bs rest l.0 m.0 k.0
      (batches_walk (after_batch s b) (batch_record b) (codes_after c b.entries) bs rest l.1 m.1 k.1 (λ h'. rw (← codes_append c b.entries (entries_in bs)) (p h')))

  -- the first batch stands where the file is open, and its control does not
  open_walk : (s : Sums) (h c : List ℕ) (bs : List Batch) (r : List ℕ) (rest : List (List ℕ)) → get_or r 0 0 ≡ 57 → Some Stop bs → All SizedBatch bs → All (λ b. Some Stop b.entries) bs → BatchesOk Ok s bs
      → ((h' : List ℕ) → P (bare_run (at Place.BatchDone (after_batches s bs) h' (codes_after c (entries_in bs))) (r ∷ rest))) → P (bare_run (at Place.FileOpen s h c) (batches_records bs ++ (r ∷ rest)))
  open_walk s h c [] r rest b n l m k p = stop n (at Place.FileOpen s h c) r rest (rw b)
  open_walk s h c (x ∷ bs) r rest b n l m k p =
      batch_walk Place.FileOpen (λ i. refl) s h c x bs (r ∷ rest) l.0 m.0 k.0
      (batches_walk (after_batch s x) (batch_record x) (codes_after c x.entries) bs (r ∷ rest) l.1 m.1 k.1 (λ h'. rw (← codes_append c x.entries (entries_in bs)) (p h')))

  -- the records of a view: if each is ok where it stands, what holds of the grant holds of the run
  pub file_walk : (v : View) → Sized v → Some Stop v.batches → All (λ b. Some Stop b.entries) v.batches → FileOk Ok v → P (granted_of v) → P (bare_run start (records_of v))
  file_walk v l n m k p =
      let fillers = replicate (fillers_after (length (body_of v) + 1)) filler_record in
      let control = file_control_record v in
      let typed = (file_control_fields v).type in
      let c = codes_after (replicate 24 0) (entries_of v) in
      let end : (h : List ℕ) → bare_run (at Place.FileDone (add_record (after_body v)) h c) fillers ≡ granted_of v = λ h. fillers_run (fillers_after (length (body_of v) + 1)) (add_record (after_body v)) h c (rw (file_sums v).records refl) in
      step start Line.FileHeader (file_record v) (batches_records v.batches ++ (control ∷ fillers)) (rw (file_fields v l.long).type) k.header
      (open_walk (add_record no_sums) start.header (replicate 24 0) v.batches control fillers typed n l.each m k.batches
      (λ h. step (at Place.BatchDone (after_body v) h c) Line.FileControl control fillers (rw typed) (k.control h) (rw (end h) p)))
