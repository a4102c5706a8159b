-- The walk along the old file's records gives those of the view without the entries that are flagged.
-- Assumes that the flags are those of the list's numbers.
use Prim.Native.Nat.{ℕ, suc, ◌+◌}
use native.Mathlib.Nat.{add-zero}
use native.Mathlib.Omega.{arith}
use mathlib.Core.Path.{◌≡◌, refl, sym, ap, ◌∙◌}
use mathlib.Core.Bool.{Bool, true, false}
use mathlib.Core.List.{List, [], ◌∷◌, ◌++◌, map, append_assoc}
use lib.ListN.{length, get_or}
use Rattle.text.specs.Rows.{joined}
use Rattle.check_across.specs.declared.Sums.{Sums}
use Rattle.check_sums.specs.Sums.{no_sums, add_record, add_batch, add_entry, add_addendum}
use Rattle.view.specs.View.{Entry, Batch, View, file_record, batch_record, entry_record, addendum_record, batch_control_record, body_of, records_of}
use Rattle.view_laws.proofs.BridgeSums.{after_addenda, after_entry, after_entries, after_batch, entries_records, batches_records, control_same, file_sums, file_control_same}
use Rattle.table_form.specs.Forms.{batch_control_from}
use Rattle.table_form.proofs.WalkLaws.{behind_batches}
use Rattle.recall_view.specs.RecallView.{named, entries_left, unless_empty, batches_left, without}
use Rattle.recall_view.proofs.Left.{by_named, gone_step, stay_step}
use Rattle.recall_close.specs.declared.moving.Walk.{Walk}
use Rattle.recall_close.specs.WorkMoving.{gone, walk, first_walk, opening, opened, entry_gives, entry_next, entry_kept, addendum_gives, addendum_next, control_gives, control_next, left_from}

-- a record's first byte
pub typed : (b : ℕ) (fs : List (List ℕ)) → get_or (joined ((b ∷ []) ∷ fs)) 0 0 ≡ b
unfolding joined
typed b fs = refl

-- ---- one record, by its first byte

module _ (flags : List ℕ) (w : Walk) (r : List ℕ) (rs : List (List ℕ)) where
  file_step : get_or r 0 0 ≡ 49 → left_from flags w (r ∷ rs) ≡ r ∷ left_from flags (walk (add_record w.sums) w.header w.entries w.held w.stays) rs
  unfolding left_from
  file_step e = rw e refl

  batch_step : get_or r 0 0 ≡ 53 → left_from flags w (r ∷ rs) ≡ left_from flags (walk w.sums r w.entries true false) rs
  unfolding left_from
  batch_step e = rw e refl

  entry_step : get_or r 0 0 ≡ 54 → left_from flags w (r ∷ rs) ≡ entry_gives flags w r ++ left_from flags (entry_next flags w r) rs
  unfolding left_from
  entry_step e = rw e refl

  addendum_step : get_or r 0 0 ≡ 55 → left_from flags w (r ∷ rs) ≡ addendum_gives w r ++ left_from flags (addendum_next w) rs
  unfolding left_from
  addendum_step e = rw e refl

  control_step : get_or r 0 0 ≡ 56 → left_from flags w (r ∷ rs) ≡ control_gives w ++ left_from flags (control_next w) rs
  unfolding left_from
  control_step e = rw e refl

  entry_goes : get_or r 0 0 ≡ 54 → gone flags (w.entries + 1) ≡ true → left_from flags w (r ∷ rs) ≡ left_from flags (walk w.sums w.header (w.entries + 1) w.held false) rs
  entry_goes e g = entry_step e ∙ rw g refl

  entry_stays : get_or r 0 0 ≡ 54 → gone flags (w.entries + 1) ≡ false → left_from flags w (r ∷ rs) ≡ (opening w ++ (r ∷ [])) ++ left_from flags (entry_kept w r) rs
  entry_stays e g = entry_step e ∙ rw g refl

-- ---- the addenda of an entry

module _ (flags : List ℕ) (e : Entry) (h : List ℕ) (k : ℕ) (held : Bool) (more : List (List ℕ)) where
  addenda_stay : (s : Sums) (ts : List (List ℕ)) → left_from flags (walk s h k held true) (map (addendum_record e) ts ++ more) ≡ map (addendum_record e) ts ++ left_from flags (walk (after_addenda s ts) h k held true) more
  addenda_stay s [] = refl
  addenda_stay s (t ∷ ts) =
      addendum_step flags (walk s h k held true) (addendum_record e t) (map (addendum_record e) ts ++ more) (typed 55 _)
      ∙ ap (λ l. addendum_record e t ∷ l) (addenda_stay (add_addendum s) ts)

  addenda_go : (s : Sums) (ts : List (List ℕ)) → left_from flags (walk s h k held false) (map (addendum_record e) ts ++ more) ≡ left_from flags (walk s h k held false) more
  addenda_go s [] = refl
  addenda_go s (t ∷ ts) =
      addendum_step flags (walk s h k held false) (addendum_record e t) (map (addendum_record e) ts ++ more) (typed 55 _) ∙ addenda_go s ts

-- ---- entries up to their batch's control, and what is behind it

-- the walk behind a control: sums s, and k entries so far
abbrev closed_at : List ℕ → Sums → ℕ → Walk
closed_at h s k = walk s h k false false

-- the entries of a batch, of which the record 5 h stands already, and then its control
abbrev entries_then : Sums → List ℕ → List Entry → (Sums → List (List ℕ)) → List (List ℕ)
entries_then s h es rest = entries_records es ++ (batch_control_from (after_entries s es) h ∷ rest (add_record (after_entries s es)))

-- the same with its record 5, and nothing where no entry is left
abbrev batch_then : Sums → List ℕ → List Entry → (Sums → List (List ℕ)) → List (List ℕ)
batch_then s h [] rest = rest s
batch_then s h (e ∷ es) rest = h ∷ entries_then (add_batch s h) h (e ∷ es) rest

module _ (flags ns : List ℕ) (same : (k : ℕ) → gone flags k ≡ named k ns) (h c : List ℕ) (typed56 : get_or c 0 0 ≡ 56) (more : List (List ℕ)) where
  -- what is behind the control, by the sums, k entries into the file
  abbrev rest_at : ℕ → Sums → List (List ℕ)
  rest_at k s = left_from flags (closed_at h s k) more

  number_on : (k : ℕ) (es : List Entry) → k + 1 + length es ≡ k + suc (length es)
  number_on k es = omega arith

  -- an entry that goes leaves no trace, nor do its addenda
  pass_gone : (e : Entry) (s : Sums) (k : ℕ) (held y : Bool) (rest : List (List ℕ)) → named (k + 1) ns ≡ true
      → left_from flags (walk s h k held y) (entry_record e ∷ (map (addendum_record e) e.addenda ++ rest)) ≡ left_from flags (walk s h (k + 1) held false) rest
  pass_gone e s k held y rest g =
      entry_goes flags (walk s h k held y) (entry_record e) (map (addendum_record e) e.addenda ++ rest) refl (same (k + 1) ∙ g)
      ∙ addenda_go flags e h (k + 1) held rest s e.addenda

  -- one that stays stands behind the record 5 if that waits, and before what the entries behind it give
  pass_kept : (e : Entry) (es : List Entry) (s : Sums) (k : ℕ) (held y : Bool) (rest : List (List ℕ)) → named (k + 1) ns ≡ false
      → ((t : Sums) → left_from flags (walk t h (k + 1) false true) rest ≡ entries_then t h (entries_left ns (k + 1 + 1) es) (rest_at (k + 1 + length es)))
      → left_from flags (walk s h k held y) (entry_record e ∷ (map (addendum_record e) e.addenda ++ rest))
      ≡ opening (walk s h k held y) ++ entries_then (opened (walk s h k held y)) h (entries_left ns (k + 1) (e ∷ es)) (rest_at (k + length (e ∷ es)))
  pass_kept e es s k held y rest g on =
      let w = walk s h k held y in
      let r = entry_record e in
      let ts = map (addendum_record e) e.addenda in
      let left = entries_left ns (k + 1 + 1) es in
      entry_stays flags w r (ts ++ rest) refl (same (k + 1) ∙ g)
      ∙ append_assoc (opening w) (r ∷ []) _
      ∙ ap (λ l. opening w ++ (r ∷ l))
      (addenda_stay flags e h (k + 1) false rest (add_entry (opened w) r) e.addenda
      ∙ ap (λ l. ts ++ l) (on (after_entry (opened w) e) ∙ ap (λ n. entries_then (after_entry (opened w) e) h left (rest_at n)) (number_on k es))
      ∙ sym (append_assoc ts (entries_records left) _))
      ∙ ap (λ l. opening w ++ entries_then (opened w) h l (rest_at (k + length (e ∷ es)))) (sym (stay_step ns (k + 1) e es g))

  entries_on : (es : List Entry) (s : Sums) (k : ℕ) (y : Bool)
      → left_from flags (walk s h k false y) (entries_records es ++ (c ∷ more)) ≡ entries_then s h (entries_left ns (k + 1) es) (rest_at (k + length es))
  unfolding entries_left
  entries_on [] s k y =
      control_step flags (walk s h k false y) c more typed56 ∙ ap (λ n. batch_control_from s h ∷ rest_at n (add_record s)) (sym (add-zero k))
  entries_on (e ∷ es) s k y =
      let rest = entries_records es ++ (c ∷ more) in
      ap (λ l. left_from flags (walk s h k false y) (entry_record e ∷ l)) (append_assoc (map (addendum_record e) e.addenda) (entries_records es) (c ∷ more))
      ∙ by_named (k + 1) ns
      (λ g.
      pass_gone e s k false y rest g
      ∙ entries_on es s (k + 1) false
      ∙ ap (λ n. entries_then s h (entries_left ns (k + 1 + 1) es) (rest_at n)) (number_on k es)
      ∙ ap (λ l. entries_then s h l (rest_at (k + length (e ∷ es)))) (sym (gone_step ns (k + 1) e es g)))
      (λ g. pass_kept e es s k false y rest g (λ t. entries_on es t (k + 1) true))

  entries_held : (es : List Entry) (s : Sums) (k : ℕ) (y : Bool)
      → left_from flags (walk s h k true y) (entries_records es ++ (c ∷ more)) ≡ batch_then s h (entries_left ns (k + 1) es) (rest_at (k + length es))
  unfolding entries_left
  entries_held [] s k y =
      control_step flags (walk s h k true y) c more typed56 ∙ ap (λ n. rest_at n s) (sym (add-zero k))
  entries_held (e ∷ es) s k y =
      let rest = entries_records es ++ (c ∷ more) in
      ap (λ l. left_from flags (walk s h k true y) (entry_record e ∷ l)) (append_assoc (map (addendum_record e) e.addenda) (entries_records es) (c ∷ more))
      ∙ by_named (k + 1) ns
      (λ g.
      pass_gone e s k true y rest g
      ∙ entries_held es s (k + 1) false
      ∙ ap (λ n. batch_then s h (entries_left ns (k + 1 + 1) es) (rest_at n)) (number_on k es)
      ∙ ap (λ l. batch_then s h l (rest_at (k + length (e ∷ es)))) (sym (gone_step ns (k + 1) e es g)))
      (λ g.
      pass_kept e es s k true y rest g (λ t. entries_on es t (k + 1) true)
      ∙ ap (λ l. h ∷ entries_then (add_batch s h) h l (rest_at (k + length (e ∷ es)))) (stay_step ns (k + 1) e es g)
      ∙ ap (λ l. batch_then s h l (rest_at (k + length (e ∷ es)))) (sym (stay_step ns (k + 1) e es g)))

-- ---- batches

-- a batch that stays is the view's, its control too
batch_form : (s : Sums) (b : Batch) (bs : List Batch) → batch_record b ∷ entries_then (add_batch s (batch_record b)) (batch_record b) b.entries (λ t. behind_batches t bs) ≡ behind_batches s (b ∷ bs)
batch_form s b bs =
    let r = batch_record b in
    let inside = entries_records b.entries in
    let control = batch_control_record b in
    let rest = behind_batches (after_batch s b) bs in
    ap (λ x. r ∷ (inside ++ (x ∷ rest))) (control_same s b)
    ∙ ap (λ l. r ∷ l) (sym (append_assoc (inside ++ (control ∷ [])) (batches_records bs) _ ∙ append_assoc inside (control ∷ []) rest))

-- or it is dropped
batch_or_none : (s : Sums) (row : List ℕ) (es : List Entry) (bs : List Batch)
    → batch_then s (batch_record (record { row = row; entries = [] })) es (λ t. behind_batches t bs) ≡ behind_batches s (unless_empty row es bs)
batch_or_none s row [] bs = refl
batch_or_none s row (e ∷ es) bs = batch_form s (record { row = row; entries = e ∷ es }) bs

then_same : (s : Sums) (h : List ℕ) (es : List Entry) (f g : Sums → List (List ℕ)) → ((t : Sums) → f t ≡ g t) → batch_then s h es f ≡ batch_then s h es g
then_same s h [] f g e = e s
then_same s h (x ∷ es) f g e = ap (λ l. h ∷ (entries_records (x ∷ es) ++ (batch_control_from (after_entries (add_batch s h) (x ∷ es)) h ∷ l))) (e _)

module _ (flags ns : List ℕ) (same : (k : ℕ) → gone flags k ≡ named k ns) where
  batches_on : (bs : List Batch) (s : Sums) (h : List ℕ) (k : ℕ) → left_from flags (closed_at h s k) (batches_records bs) ≡ behind_batches s (batches_left ns (k + 1) bs)
  unfolding batches_left left_from
  batches_on [] s h k = refl
  batches_on (b ∷ bs) s h k =
      let r = batch_record b in
      let es = b.entries in
      let control = batch_control_record b in
      let left = entries_left ns (k + 1) es in
      let later = batches_left ns (k + length es + 1) bs in
      let number : k + length es + 1 ≡ k + 1 + length es = omega arith in
      ap (λ l. left_from flags (closed_at h s k) (r ∷ l)) (append_assoc (entries_records es) (control ∷ []) (batches_records bs))
      ∙ batch_step flags (closed_at h s k) r (entries_records es ++ (control ∷ batches_records bs)) (typed 53 _)
      ∙ entries_held flags ns same r control (typed 56 _) (batches_records bs) es s k false
      ∙ then_same s r left _ (λ t. behind_batches t later) (λ t. batches_on bs t r (k + length es))
      ∙ batch_or_none s b.row left later
      ∙ ap (λ n. behind_batches s (unless_empty b.row left (batches_left ns n bs))) number

  -- the whole file
  pub left_whole : (v : View) → left_from flags first_walk (body_of v) ≡ records_of (without v ns)
  left_whole v =
      let u = without v ns in
      file_step flags first_walk (file_record v) (batches_records v.batches) (typed 49 _)
      ∙ ap (λ l. file_record v ∷ l) (batches_on v.batches (add_record no_sums) first_walk.header 0)
      ∙ rw (file_control_same u, (file_sums u).records) refl
