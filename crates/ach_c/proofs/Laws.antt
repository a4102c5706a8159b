-- What a question leaves in the lent numbers, and what is told of an outcome by way.
-- Assumes nothing.
use Prim.Native.Nat.{ℕ}
use mathlib.Core.Path.{◌≡◌, refl, subst}
use mathlib.Core.Bool.{Bool}
use mathlib.Core.List.{List, [], ◌∷◌}
use lib.Seq.{sets}
use Rattle.layout.specs.declared.Way.{Way}
use Rattle.text.specs.Decimal.{pick}
use Rattle.funds.specs.RunsOut.{RunsOut}
use Rattle.ach_c.specs.Tells.{row_numbers}

pub found_told : (r s : RunsOut) (lent : List ℕ) (b : Bool) → r ≡ s → r.found ≡ b
    → (◌≡◌ {A = ℕ} (pick b 1 0) (pick s.found 1 0)) × (sets lent 0 (r.rows ∷ r.record ∷ r.credits ∷ []) ≡ sets lent 0 (row_numbers s))
found_told r s lent b e f = rw (← e, f) (refl, refl)

-- what is told of the outcome f w of a way w holds of that of v, which is w
pub told_of : {O : Type 0} (Tells : O → Type 0) (f : Way → O) (w v : Way) → w ≡ v → Tells (f w) → Tells (f v)
told_of Tells f w v e t = subst (λ x. Tells (f x)) e t
