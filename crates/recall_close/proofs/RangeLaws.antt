-- The numbers of a range `a..=b`, in turn.
-- Assumes nothing.
use Prim.Native.Nat.{ℕ, suc, ◌+◌, ◌-◌}
use native.Mathlib.Omega.{arith}
use mathlib.Core.Path.{◌≡◌, refl, sym, ap, ap₂, ◌∙◌}
use mathlib.Core.Bool.{Bool, true, false}
use mathlib.Core.List.{List, ◌∷◌}
use Rattle.std.specs.Prelude.{Some, None}
use Rattle.std.specs.declared.ops.RangeInclusive.{RangeInclusive}
use Rattle.std.specs.Range.{range_inclusive_start, range_inclusive_end, range_inclusive_exhausted, range_inclusive_len}
use Rattle.std.specs.List.{range_with_len}
use Rattle.std.proofs.iter.runs.Sources.{nat_range_inclusive_steps}
use Rattle.std.proofs.lemmas.Iterator.{YieldsList}
use Rattle.std.proofs.lemmas.Iterator.Consumers.{YieldsList-from_shown}
use lib.ListN.{length}

-- how many are left
abbrev left : RangeInclusive ℕ → ℕ
left s = range_inclusive_len (λ x y. y - x) (range_inclusive_start s) (range_inclusive_end s) (range_inclusive_exhausted s)

abbrev shown : RangeInclusive ℕ → List ℕ
shown s = range_with_len (range_inclusive_start s) (left s)

none_shown : (s t : RangeInclusive ℕ) → nat_range_inclusive_steps s None t → length (shown s) ≡ 0
none_shown s t h = ap (λ n. length (range_with_len (range_inclusive_start s) n)) h.1.0

-- the first, and those behind it
one_shown : (s : RangeInclusive ℕ) (x : ℕ) (t : RangeInclusive ℕ) → nat_range_inclusive_steps s (Some x) t → shown s ≡ x ∷ shown t
one_shown s x t h =
    let one_less : left s ≡ suc (left t) = omega (arith, h.1.1) in
    ap (range_with_len (range_inclusive_start s)) one_less ∙ ap₂ ◌∷◌ (sym h.1.0) (behind (range_inclusive_exhausted t) refl)
  where
    behind : (b : Bool) → range_inclusive_exhausted t ≡ b → range_with_len (range_inclusive_start s + 1) (left t) ≡ shown t
    behind true e = rw e refl
    behind false e = ap (λ n. range_with_len n (left t)) (sym (h.1.2 e))

-- n numbers from a on
pub YieldsList-from_inclusive : (s : RangeInclusive ℕ) (a b n : ℕ) → range_inclusive_start s ≡ a → range_inclusive_end s ≡ b → range_inclusive_exhausted s ≡ false
    → b + 1 - a ≡ n → YieldsList nat_range_inclusive_steps (λ x. x) s (range_with_len a n)
YieldsList-from_inclusive s a b n p q r e =
    let all : left s ≡ n = ap (range_inclusive_len (λ x y. y - x) (range_inclusive_start s) (range_inclusive_end s)) r ∙ omega (arith, p, q, e) in
    let whole : shown s ≡ range_with_len a n = ap₂ range_with_len p all in
    rw whole at (YieldsList-from_shown nat_range_inclusive_steps (λ x. x) shown none_shown one_shown s)
