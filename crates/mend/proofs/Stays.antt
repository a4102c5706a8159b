-- Mending leaves an accepted file as it is, and then has no change to list.
-- Assumes that the file is accepted.
use Rattle.std.specs.Prelude.{Ok}
use mathlib.Core.Path.{◌≡◌, refl, sym, ap, ap₂, ◌∙◌, subst}
use mathlib.Core.Bool.{Bool, true, false, ◌&&◌}
use mathlib.Core.List.{List, [], ◌∷◌, ◌++◌, map, append_assoc}
use Prim.Native.Nat.{ℕ, zero, suc, ◌+◌, ◌≤◌}
use native.Mathlib.Nat.{le_of_eq}
use native.Mathlib.Omega.{arith}
use borrow.Author.Tests.{eq-eqb}
use lib.Dec.{eqb, ltb}
use lib.ListN.{length, take, drop, replicate}
use lib.Seq.{take_all, take_at, drop_at}
use Rattle.text.specs.Decimal.{pick, render}
use Rattle.text.specs.Rows.{columns, joined}
use Rattle.text.specs.Widths.{AllLong}
use Rattle.text.proofs.DecimalLaws.{same_equal}
use Rattle.layout.specs.declared.Row.{Row}
use Rattle.layout.specs.declared.Way.{Way}
use Rattle.layout.specs.Ways.{end_of}
use Rattle.check_across.specs.declared.Sums.{Sums}
use Rattle.check_sums.specs.Sums.{start, no_sums, add_record, add_batch, add_entry, add_addendum, next_sums, next_header}
use Rattle.check_record.specs.Record.{raw_records, checked_of}
use Rattle.view.specs.View.{Entry, Batch, View, file_record, batch_record, entry_record, addendum_record, batch_control_record, file_control_record, fillers_after, filler_record, body_of, records_of, closed_by, view_of}
use Rattle.view.specs.Sized.{All, SizedEntry, SizedBatch, Sized}
use Rattle.view_laws.proofs.Formed.{file_fields, batch_fields, entry_fields, addendum_fields, batch_control_fields, file_control_fields}
use Rattle.view_laws.proofs.BridgeSums.{after_addenda, after_entry, after_entries, after_batch, after_batches, after_body, entries_records, batches_records, file_sums, control_same, file_control_same}
use Rattle.view_laws.proofs.Ways.{raw_closed}
use Rattle.view_laws.proofs.Reading.{records_long}
use Rattle.view_laws.proofs.Bridge.{accepted_view}
use Rattle.table_form.specs.Forms.{batch_control_from}
use Rattle.mend.specs.Mend.{type_of, line_by, refilled, mended_end, mended_from, mended_records, mended_file, nine_at, field_changes, changes_from, changes_between, changes_of}

-- ---- the records

module _ (way : Way) where
  -- mending leaves these records, from the one behind `last` on
  abbrev Stays : ℕ → Sums → List ℕ → List (List ℕ) → Type 0
  Stays last s h rs = mended_from way last s h (map (closed_by way) rs) ≡ map (closed_by way) rs

  -- a record r that has type b and these columns, and what stands behind it
  abbrev step_by : ℕ → Sums → List ℕ → List ℕ → ℕ → List ℕ → List (List ℕ) → List (List ℕ)
  step_by last s h r b text rs =
      pick (eqb b 57 && eqb last 56) (mended_end way s r)
      (pick (eqb b 56 && ltb 0 s.batches) (refilled (batch_control_from s h) r) r
      ∷ mended_from way b (next_sums s (line_by b) text) (next_header h (line_by b) text) rs)

  pub closed_type : (r : List ℕ) → length r ≡ 94 → type_of (closed_by way r) ≡ type_of r
  closed_type [] l = absurd (omega arith)
  closed_type (x ∷ xs) l = refl

  step : (b last : ℕ) (s : Sums) (h r : List ℕ) (rs : List (List ℕ)) → length r ≡ 94 → type_of r ≡ b
      → mended_from way last s h (closed_by way r ∷ rs) ≡ step_by last s h (closed_by way r) b r rs
  unfolding mended_from
  step b last s h r rs l t =
      ap₂ (λ x text. step_by last s h (closed_by way r) x text rs) (closed_type r l ∙ t) (take_at r (end_of way) 94 l)

  -- a control that is what the records call for
  refilled_same : (made c : List ℕ) → length c ≡ 94 → made ≡ c → refilled made (closed_by way c) ≡ closed_by way c
  refilled_same made c l e = ap₂ (λ x y. x ++ y) e (drop_at c (end_of way) 94 l)

  either : (t : Bool) (a b : List ℕ) → a ≡ b → pick t a b ≡ b
  either true a b e = e
  either false a b e = refl

  addenda_stay : (e : Entry) → length e.row ≡ 93 → (s : Sums) (h : List ℕ) (texts : List (List ℕ)) (rest : List (List ℕ)) → AllLong 80 texts
      → ((last : ℕ) → Stays last (after_addenda s texts) h rest) → (last : ℕ) → Stays last s h (map (addendum_record e) texts ++ rest)
  addenda_stay e l s h [] rest a k last = k last
  addenda_stay e l s h (t ∷ texts) rest a k last =
      let f = addendum_fields e t l a.0 in
      step 55 last s h (addendum_record e t) (map (closed_by way) (map (addendum_record e) texts ++ rest)) f.long f.type
      ∙ ap (λ x. closed_by way (addendum_record e t) ∷ x) (addenda_stay e l (add_addendum s) h texts rest a.1 k 55)

  entries_stay : (s : Sums) (h : List ℕ) (es : List Entry) (rest : List (List ℕ)) → All SizedEntry es
      → ((last : ℕ) → Stays last (after_entries s es) h rest) → (last : ℕ) → Stays last s h (entries_records es ++ rest)
  entries_stay s h [] rest a k last = k last
  entries_stay s h (e ∷ es) rest a k last =
      let l = a.0.long in
      let r = entry_record e in
      let texts = map (addendum_record e) e.addenda in
      let behind = addenda_stay e l (add_entry s r) h e.addenda (entries_records es ++ rest) a.0.texts (entries_stay (after_entry s e) h es rest a.1 k) 54 in
      subst (λ x. Stays last s h (r ∷ x)) (sym (append_assoc texts (entries_records es) rest))
      (step 54 last s h r (map (closed_by way) (texts ++ (entries_records es ++ rest))) (entry_fields e l).long refl
      ∙ ap (λ x. closed_by way r ∷ x) behind)

  -- a batch in front of others
  batch_stays : (s : Sums) (h : List ℕ) (b : Batch) (bs : List Batch) (rest : List (List ℕ)) → SizedBatch b
      → Stays 56 (after_batch s b) (batch_record b) (batches_records bs ++ rest) → (last : ℕ) → Stays last s h (batches_records (b ∷ bs) ++ rest)
  batch_stays s h b bs rest l k last =
      let r = batch_record b in
      let c = batch_control_record b in
      let es = entries_records b.entries in
      let more = batches_records bs ++ rest in
      let f = batch_fields b l.long in
      let g = batch_control_fields b l.long in
      let sums = after_entries (add_batch s r) b.entries in
      let control : (x : ℕ) → Stays x sums r (c ∷ more) =
      λ x.
      step 56 x sums r c (map (closed_by way) more) g.long g.type
      ∙ ap₂ (λ y ys. y ∷ ys) (either (ltb 0 sums.batches) _ (closed_by way c) (refilled_same (batch_control_from sums r) c g.long (control_same s b))) k in
      let inside = entries_stay (add_batch s r) r b.entries (c ∷ more) l.each control 53 in
      let raw = map (closed_by way) (es ++ (c ∷ more)) in
      subst (λ x. Stays last s h (r ∷ x)) (sym (append_assoc (es ++ (c ∷ [])) (batches_records bs) rest ∙ append_assoc es (c ∷ []) more))
      (step 53 last s h r raw f.long f.type
      ∙ ap (λ x. closed_by way r ∷ x) (ap (λ y. mended_from way 53 (add_batch s r) y raw) (take_all 94 r (le_of_eq f.long)) ∙ inside))

  -- batches behind one
  batches_stay : (s : Sums) (h : List ℕ) (bs : List Batch) (rest : List (List ℕ)) → All SizedBatch bs
      → ((h' : List ℕ) → Stays 56 (after_batches s bs) h' rest) → Stays 56 s h (batches_records bs ++ rest)
  batches_stay s h [] rest l k = k h
  batches_stay s h (b ∷ bs) rest l k =
      batch_stays s h b bs rest l.0 (batches_stay (after_batch s b) (batch_record b) bs rest l.1 k) 56

  first_stays : (last : ℕ) (s : Sums) (h : List ℕ) (bs : List Batch) (rest : List (List ℕ)) → 1 ≤ length bs → All SizedBatch bs
      → ((h' : List ℕ) → Stays 56 (after_batches s bs) h' rest) → Stays last s h (batches_records bs ++ rest)
  first_stays last s h [] rest n l k = absurd (omega arith)
  first_stays last s h (b ∷ bs) rest n l k =
      batch_stays s h b bs rest l.0 (batches_stay (after_batch s b) (batch_record b) bs rest l.1 k) last

  -- the 9 and the fillers
  fillers_closed : (n : ℕ) → map (closed_by way) (replicate n filler_record) ≡ replicate n (closed_by way filler_record)
  fillers_closed zero = refl
  fillers_closed (suc n) = ap (λ x. closed_by way filler_record ∷ x) (fillers_closed n)

  end_stays : (v : View) (h : List ℕ) → Stays 56 (after_body v) h (file_control_record v ∷ replicate (fillers_after (length (body_of v) + 1)) filler_record)
  end_stays v h =
      let c = file_control_record v in
      let f = file_control_fields v in
      let k = fillers_after (length (body_of v) + 1) in
      step 57 56 (after_body v) h c (map (closed_by way) (replicate k filler_record)) f.long f.type
      ∙ ap₂ (λ x xs. x ∷ xs) (refilled_same _ c f.long (file_control_same v))
      (ap (λ n. replicate (fillers_after (n + 1)) (closed_by way filler_record)) (file_sums v).records ∙ sym (fillers_closed k))

  view_stays : (v : View) → Sized v → 1 ≤ length v.batches → mended_records way (map (closed_by way) (records_of v)) ≡ map (closed_by way) (records_of v)
  view_stays v l n =
      let f = file_fields v l.long in
      let end = file_control_record v ∷ replicate (fillers_after (length (body_of v) + 1)) filler_record in
      step 49 0 start.sums start.header (file_record v) (map (closed_by way) (batches_records v.batches ++ end)) f.long f.type
      ∙ ap (λ x. closed_by way (file_record v) ∷ x)
      (first_stays 49 (add_record no_sums) start.header v.batches end n l.each (end_stays v))

  -- the records of an accepted file
  pub raw_accepted : (f : List ℕ) → (checked_of way f).answer ≡ Ok tt → raw_records way f ≡ map (closed_by way) (records_of (view_of way f))
  raw_accepted f e =
      let p = accepted_view way f e in
      let v = view_of way f in
      ap (raw_records way) p.form ∙ raw_closed way (records_of v) (records_long v p.sized)

  -- they stay
  pub accepted_stays : (f : List ℕ) → (checked_of way f).answer ≡ Ok tt → mended_records way (raw_records way f) ≡ raw_records way f
  accepted_stays f e =
      let p = accepted_view way f e in
      let raw = raw_accepted f e in
      ap (mended_records way) raw ∙ view_stays (view_of way f) p.sized p.keeps.nonempty ∙ sym raw

  -- so the mended file of an accepted file is that file
  pub mended_accepted : (f : List ℕ) → (checked_of way f).answer ≡ Ok tt → mended_file way f ≡ f
  mended_accepted f e = ap joined (accepted_stays f e ∙ raw_accepted f e) ∙ sym (accepted_view way f e).form

-- ---- the changes

-- a record has no change to itself
pub fields_same : (n k : ℕ) (table : List Row) (r : List ℕ) → field_changes n k table r r ≡ []
unfolding field_changes
fields_same n k [] r = refl
fields_same n k (row ∷ table) r =
    let text = columns row.first row.last r in
    rw ((same_equal text text).1 refl) (fields_same n (k + 1) table r)

pub either_none : (t : Bool) (rows : List (List ℕ)) → rows ≡ [] → pick t rows [] ≡ []
either_none true rows e = e
either_none false rows e = refl

-- nor have records to themselves
none_changed : (type : ℕ) (table : List Row) (n k : ℕ) (rs : List (List ℕ)) → changes_from type table n (take k rs) rs ≡ []
unfolding changes_from
none_changed type table n zero rs = refl
none_changed type table n (suc k) [] = refl
none_changed type table n (suc k) (r ∷ rs) =
    ap₂ (λ x y. x ++ y) (either_none (eqb (type_of r) type) _ (fields_same n 1 table r)) (none_changed type table (n + 1) k rs)

between_same : (n : ℕ) (rs : List (List ℕ)) → changes_between n rs rs ≡ replicate 21 48
unfolding render joined
between_same n rs =
    rw (none_changed _ _ 1 n rs, none_changed _ _ (n + 1) 1 (drop n rs), eq-eqb (length (drop (n + 1) rs)) (length (drop (n + 1) rs)) refl) refl

-- "No change is 21 zeros."
pub accepted_unchanged : (way : Way) (f : List ℕ) → (checked_of way f).answer ≡ Ok tt → changes_of way f ≡ replicate 21 48
accepted_unchanged way f e =
    ap (changes_between (nine_at (raw_records way f)) (raw_records way f)) (accepted_stays way f e) ∙ between_same (nine_at (raw_records way f)) (raw_records way f)
