-- Mending keeps every record that is neither a control nor a filler, where only nines stood behind the 9.
-- Assumes nothing but what a statement says.
use Rattle.std.specs.Prelude.{Ok}
use mathlib.Core.Path.{◌≡◌, refl, sym, ap, ap₂, ◌∙◌}
use mathlib.Core.Bool.{Bool, true, false, ◌&&◌, ◌||◌}
use mathlib.Core.List.{List, [], ◌∷◌, ◌++◌}
use Prim.Native.Nat.{ℕ, zero, suc, ◌+◌}
use borrow.Author.Tests.{eqb-true}
use lib.Dec.{eqb, ltb}
use lib.ListN.{get_or, take, replicate}
use Rattle.text.specs.Decimal.{pick}
use Rattle.text.specs.Same.{same_bytes}
use Rattle.text.proofs.DecimalLaws.{and_both, same_equal}
use Rattle.layout.specs.declared.Way.{Way}
use Rattle.check_across.specs.declared.Sums.{Sums}
use Rattle.check_sums.specs.Sums.{start}
use Rattle.check_record.specs.Record.{raw_records}
use Rattle.view.specs.View.{fillers_after, filler_record, closed_by}
use Rattle.view_laws.proofs.Answers.{demand_granted}
use Rattle.table_form.specs.Forms.{batch_control_from, file_control_from}
use Rattle.mend.specs.Mend.{type_of, sums_past, header_past, refilled, ends_file, mended_from, mended_file, nine_at, only_nines, behind_nine}
use Rattle.mend.specs.Kept.{unless_control, beside_controls}
use Rattle.mend.proofs.Again.{by_test, batch_type, file_type, raw_mended, at_nine, at_other, Behind, behind_nine_lem, behind_other}

-- a record by its type
abbrev sorted_by : List ℕ → ℕ → List (List ℕ)
sorted_by r b = pick (eqb b 56 || eqb b 57) [] (r ∷ [])

-- records of nines are none of those
nines_type : (r : List ℕ) → take 94 r ≡ filler_record → type_of r ≡ 57
nines_type [] e = ap (λ l. get_or l 0 0) e
nines_type (x ∷ xs) e = ap (λ l. get_or l 0 0) e

nines_none : (k : ℕ) (rs : List (List ℕ)) → only_nines k rs ≡ Ok tt → beside_controls rs ≡ []
unfolding only_nines beside_controls
nines_none k [] g = refl
nines_none k (r ∷ rs) g =
    let both = demand_granted (same_bytes (take 94 r) filler_record) _ (only_nines (k + 1) rs) g in
    let type = nines_type r ((same_equal (take 94 r) filler_record).0 both.0) in
    ap₂ (λ x y. x ++ y) (ap (sorted_by r) type) (nines_none (k + 1) rs both.1)

fillers_none : (way : Way) (n : ℕ) → beside_controls (replicate n (closed_by way filler_record)) ≡ []
unfolding beside_controls
fillers_none way zero = refl
fillers_none way (suc n) = fillers_none way n

-- a mended 8 is none, as the 8 was; any other record stays
record_kept : (s : Sums) (h r : List ℕ) (t : Bool) → (eqb (type_of r) 56 && ltb 0 s.batches) ≡ t
    → unless_control (pick t (refilled (batch_control_from s h) r) r) ≡ unless_control r
record_kept s h r false e = refl
record_kept s h r true e =
    let eight = eqb-true (type_of r) 56 (and_both (eqb (type_of r) 56) (ltb 0 s.batches) e).0 in
    ap (sorted_by (refilled (batch_control_from s h) r)) (batch_type s h r) ∙ sym (ap (sorted_by r) eight)

module _ (way : Way) where
  kept : (last : ℕ) (s : Sums) (h : List ℕ) (rs : List (List ℕ)) (k : ℕ) → Behind way last rs k ≡ Ok tt
      → beside_controls (mended_from way last s h rs) ≡ beside_controls rs
  unfolding mended_from beside_controls
  kept last s h [] k g = refl
  kept last s h (r ∷ rs) k g =
      by_test (ends_file last r)
      (λ e.
      let nine = eqb-true (type_of r) 57 (and_both (eqb (type_of r) 57) (eqb last 56) e).0 in
      let none = nines_none k rs (sym (behind_nine_lem way last r rs k e) ∙ g) in
      ap beside_controls (at_nine way last s h r rs e)
      ∙ ap₂ (λ x y. x ++ y) (ap (sorted_by (refilled (file_control_from s) r)) (file_type s r)) (fillers_none way (fillers_after (s.records + 1)))
      ∙ sym (ap₂ (λ x y. x ++ y) (ap (sorted_by r) nine) none))
      (λ e.
      ap beside_controls (at_other way last s h r rs e)
      ∙ ap₂ (λ x y. x ++ y) (record_kept s h r (eqb (type_of r) 56 && ltb 0 s.batches) refl)
      (kept (type_of r) (sums_past s r) (header_past h r) rs k (sym (behind_other way last r rs k e) ∙ g)))

  -- the records 1, 5, 6 and 7 of the lent file, and whatever else begins with neither 8 nor 9, are those of the mended file
  pub records_kept : (f : List ℕ) → behind_nine (raw_records way f) ≡ Ok tt
      → beside_controls (raw_records way (mended_file way f)) ≡ beside_controls (raw_records way f)
  records_kept f g =
      ap beside_controls (raw_mended way f) ∙ kept 0 start.sums start.header (raw_records way f) (nine_at (raw_records way f) + 2) g
