-- Record numbers: up to the 9 a record of the mended file has the number that it had in the lent file, and all but 8s are the same.
-- Assumes nothing but what a statement says.
use mathlib.Core.Path.{◌≡◌, refl, sym, ap, ◌∙◌}
use mathlib.Core.Bool.{true, false, ◌&&◌}
use mathlib.Core.List.{List, [], ◌∷◌}
use Prim.Native.Nat.{ℕ, zero, suc, ◌+◌, ◌<◌}
use native.Mathlib.Omega.{arith}
use lib.Dec.{eqb, ltb}
use lib.ListN.{get_or, replicate}
use Rattle.text.specs.Decimal.{pick}
use Rattle.layout.specs.declared.Way.{Way}
use Rattle.check_across.specs.declared.Sums.{Sums}
use Rattle.check_sums.specs.Sums.{start}
use Rattle.check_record.specs.Record.{raw_records}
use Rattle.view.specs.View.{fillers_after, filler_record, closed_by}
use Rattle.table_form.specs.Forms.{batch_control_from, file_control_from}
use Rattle.mend.specs.Mend.{type_of, sums_past, header_past, refilled, mended_record, ends_file, mended_from, mended_file, before_nine, nine_at}
use Rattle.mend.proofs.Again.{by_test, raw_mended, mended_type, at_nine, at_other, nine_again, other_again}

-- how many records stand before the 9: none, or one more than behind this one
pub nine_here : (last : ℕ) (r : List ℕ) (rs : List (List ℕ)) → ends_file last r ≡ true → before_nine last (r ∷ rs) ≡ 0
unfolding before_nine
nine_here last r rs e = rw e

pub nine_later : (last : ℕ) (r : List ℕ) (rs : List (List ℕ)) → ends_file last r ≡ false → before_nine last (r ∷ rs) ≡ 1 + before_nine (type_of r) rs
unfolding before_nine
nine_later last r rs e = rw e

-- a record that is no 8 stays
record_stays : (s : Sums) (h r : List ℕ) → eqb (type_of r) 56 ≡ false → mended_record s h r ≡ r
record_stays s h r e = ap (λ t. pick (t && ltb 0 s.batches) (refilled (batch_control_from s h) r) r) e

module _ (way : Way) where
  nine_from : (last : ℕ) (s : Sums) (h : List ℕ) (rs : List (List ℕ)) → before_nine last (mended_from way last s h rs) ≡ before_nine last rs
  unfolding mended_from
  nine_from last s h [] = refl
  nine_from last s h (r ∷ rs) =
      by_test (ends_file last r)
      (λ e.
      ap (before_nine last) (at_nine way last s h r rs e)
      ∙ nine_here last (refilled (file_control_from s) r) (replicate (fillers_after (s.records + 1)) (closed_by way filler_record)) (nine_again way last s r e)
      ∙ sym (nine_here last r rs e))
      (λ e.
      let m = mended_record s h r in
      let more = mended_from way (type_of r) (sums_past s r) (header_past h r) rs in
      ap (before_nine last) (at_other way last s h r rs e)
      ∙ nine_later last m more (other_again way last r m (mended_type way s h r) e)
      ∙ ap (λ b. 1 + before_nine b more) (mended_type way s h r)
      ∙ ap (λ n. 1 + n) (nine_from (type_of r) (sums_past s r) (header_past h r) rs)
      ∙ sym (nine_later last r rs e))

  -- the mended 9 has the number of the 9
  pub nine_stays : (f : List ℕ) → nine_at (raw_records way (mended_file way f)) ≡ nine_at (raw_records way f)
  nine_stays f = ap nine_at (raw_mended way f) ∙ nine_from 0 start.sums start.header (raw_records way f)

  same_from : (k last : ℕ) (s : Sums) (h : List ℕ) (rs : List (List ℕ)) → k < before_nine last rs → eqb (type_of (get_or rs k [])) 56 ≡ false
      → get_or (mended_from way last s h rs) k [] ≡ get_or rs k []
  unfolding before_nine
  same_from k last s h [] l t = absurd (omega arith)
  same_from zero last s h (r ∷ rs) l t =
      by_test (ends_file last r)
      (λ e. absurd (omega (arith, l, nine_here last r rs e)))
      (λ e. ap (λ x. get_or x 0 []) (at_other way last s h r rs e) ∙ record_stays s h r t)
  same_from (suc k) last s h (r ∷ rs) l t =
      by_test (ends_file last r)
      (λ e. absurd (omega (arith, l, nine_here last r rs e)))
      (λ e.
      ap (λ x. get_or x (suc k) []) (at_other way last s h r rs e)
      ∙ same_from k (type_of r) (sums_past s r) (header_past h r) rs (omega (arith, l, nine_later last r rs e)) t)

  -- and a record before it that begins with no 8 is the same, with the same number
  pub record_same : (f : List ℕ) (k : ℕ) → k < nine_at (raw_records way f) → eqb (type_of (get_or (raw_records way f) k [])) 56 ≡ false
      → get_or (raw_records way (mended_file way f)) k [] ≡ get_or (raw_records way f) k []
  record_same f k l t = ap (λ rs. get_or rs k []) (raw_mended way f) ∙ same_from k 0 start.sums start.header (raw_records way f) l t
