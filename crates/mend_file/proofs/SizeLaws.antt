-- How long the mended file is: the records before the 9, the 9, and fillers up to a whole block.
-- Assumes nothing but what a statement says.
use mathlib.Core.Path.{◌≡◌, refl, sym, ap, ◌∙◌}
use mathlib.Core.List.{List, [], ◌∷◌}
use Prim.Native.Nat.{ℕ, suc, ◌+◌, ◌*◌, ◌≤◌, ◌<◌}
use native.Mathlib.Omega.{arith}
use lib.ListN.{length, take}
use Rattle.text.proofs.RowLaws.{length_joined}
use Rattle.layout.specs.declared.Way.{Way}
use Rattle.layout.specs.Ways.{record_bytes}
use Rattle.check_across.specs.declared.Sums.{Sums}
use Rattle.check_sums.specs.Sums.{start}
use Rattle.check_sums.proofs.SumLaws.{records_next}
use Rattle.check_record.specs.Record.{raw_records}
use Rattle.view.specs.View.{fillers_after}
use Rattle.mend.specs.Mend.{type_of, line_by, sums_past, header_past, ends_file, mended_from, mended_records, mended_file, before_nine, nine_at}
use Rattle.mend.proofs.Again.{by_test, mended_long, raw_long}
use Rattle.mend.proofs.Numbers.{nine_here, nine_later}
use Rattle.mend.proofs.Running.{nine_length, other_length}
use Rattle.mend_file.specs.WorkJudging.{NineAt}
use Rattle.mend_file.proofs.WalkLaws.{nine_inside}

-- n records in all, of which a are passed and b stand before the 9
abbrev whole_block : ℕ → ℕ
whole_block n = n + 1 + fillers_after (n + 1)

at_the_nine : (a b l : ℕ) → b ≡ 0 → l ≡ suc (fillers_after (a + 1)) → a + l ≡ whole_block (a + b)
at_the_nine a b l e q = omega arith

one_passed : (a b c d l k : ℕ) → b ≡ 1 + c → d ≡ a + 1 → l ≡ suc k → d + k ≡ whole_block (d + c) → a + l ≡ whole_block (a + b)
one_passed a b c d l k e f g h =
    let begins : a + l ≡ d + k = omega (arith, f, g) in
    let same : d + c ≡ a + b = omega (arith, e, f) in
    begins ∙ h ∙ ap whole_block same

fewer : (b c l k : ℕ) → b ≡ 1 + c → l ≡ suc k → b < l → c < k
fewer b c l k e f h = omega arith

-- far below what a number of the code can be
pub size_few : (way : Way) (n k : ℕ) → n < 1000000 → k < 10 → record_bytes way * (n + 1 + k) < 18446744073709551616
size_few Way.Plain n k a b = omega arith
size_few Way.Lined n k a b = omega arith

module _ (way : Way) where
  mended_count : (last : ℕ) (s : Sums) (h : List ℕ) (rs : List (List ℕ)) → before_nine last rs < length rs
      → s.records + length (mended_from way last s h rs) ≡ whole_block (s.records + before_nine last rs)
  mended_count last s h [] k = absurd (omega arith)
  mended_count last s h (r ∷ rs) k =
      by_test (ends_file last r)
      (λ e. at_the_nine s.records (before_nine last (r ∷ rs)) (length (mended_from way last s h (r ∷ rs))) (nine_here last r rs e) (nine_length way last s h r rs e))
      (λ e.
      let later = nine_later last r rs e in
      let rest = mended_count (type_of r) (sums_past s r) (header_past h r) rs (fewer (before_nine last (r ∷ rs)) (before_nine (type_of r) rs) (length (r ∷ rs)) (length rs) later refl k) in
      one_passed s.records (before_nine last (r ∷ rs)) (before_nine (type_of r) rs) (sums_past s r).records (length (mended_from way last s h (r ∷ rs)))
      (length (mended_from way (type_of r) (sums_past s r) (header_past h r) rs)) later (records_next s (line_by (type_of r)) (take 94 r)) (other_length way last s h r rs e) rest)

  from_none : (l n : ℕ) → 0 + l ≡ whole_block (0 + n) → l ≡ whole_block n
  from_none l n e = let a : 0 + l ≡ l = omega arith in let b : 0 + n ≡ n = omega arith in sym a ∙ e ∙ ap whole_block b

  -- so many records it has
  pub mended_records_lem : (f : List ℕ) (n : ℕ) → NineAt way f n → length (mended_records way (raw_records way f)) ≡ n + 1 + fillers_after (n + 1)
  mended_records_lem f n a =
      let raw = raw_records way f in
      let in_file : nine_at raw < length raw = omega (arith, a.before, nine_inside way f n a) in
      from_none (length (mended_records way raw)) (nine_at raw) (mended_count 0 start.sums start.header raw in_file) ∙ ap whole_block (sym a.before)

  pub mended_size : (f : List ℕ) (n : ℕ) → NineAt way f n → length (mended_file way f) ≡ record_bytes way * (n + 1 + fillers_after (n + 1))
  mended_size f n a =
      length_joined (record_bytes way) (mended_records way (raw_records way f)) (mended_long way 0 start.sums start.header (raw_records way f) refl (raw_long way f))
      ∙ ap (λ k. record_bytes way * k) (mended_records_lem f n a)
