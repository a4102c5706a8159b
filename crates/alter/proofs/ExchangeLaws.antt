-- One amount exchanged for another, on one side.
-- Assumes nothing.
use Rattle.std.specs.Prelude.{Ok, Err}
use mathlib.Core.Path.{◌≡◌, refl, sym, ap, ◌∙◌}
use mathlib.Core.List.{List}
use Prim.Native.Nat.{ℕ, ◌+◌, ◌-◌}
use lib.IntN.{ℤ, pos, ◌-ℤ◌}
use Rattle.layout.specs.Answers.{Answer}
use Rattle.layout.specs.declared.Way.{Way}
use Rattle.layout.specs.Answers.{Altered}
use Rattle.layout.specs.declared.Refusal.{Refusal}
use Rattle.view.specs.Outcome.{Outcome, altered}
use Rattle.find_entry.specs.declared.find.Places.{Places}
use Rattle.alter.specs.declared.sides.Side.{Side}
use Rattle.alter.specs.WorkSides.{batch_total, side_answer, side_put, side_outcome}

-- what is given, and what is left
abbrev pub Comes : Answer → ℤ → List ℕ → Outcome Altered → Type 0
Comes a d f o = (◌≡◌ {A = Altered} (record { answer = a; difference = d }) o.gives) × (f ≡ o.leaves)

-- a grant gives the difference and leaves the result
pub comes_granted : (a : Answer) (d d' : ℤ) (f g result : List ℕ) → a ≡ Ok tt → d' ≡ d → g ≡ result → Comes (Ok tt) d' g (altered a d result f)
comes_granted a d d' f g result e h k = rw (e, h, k) (refl, refl)

-- a refusal leaves the file
pub comes_refused : (a : Answer) (d : ℤ) (f result : List ℕ) (r : Refusal) → a ≡ Err r → Comes (Err r) (pos 0) f (altered a d result f)
comes_refused a d f result r e = rw e (refl, refl)

-- the same outcome, said otherwise
pub comes_as : {o o' : Outcome Altered} {r : Altered} {g : List ℕ} → o ≡ o' → (r ≡ o.gives) × (g ≡ o.leaves) → (r ≡ o'.gives) × (g ≡ o'.leaves)
comes_as e c = (c.0 ∙ ap (λ x. x.gives) e, c.1 ∙ ap (λ x. x.leaves) e)

-- b is the batch's total that was read, and a the answer that was found
module _ (way : Way) (f : List ℕ) (p : Places) (s : Side) (total old amount b : ℕ) (a : Answer) (read : b ≡ batch_total way f p s)
    (answered : a ≡ side_answer p s (b - old + amount) (total - old + amount)) where
  limits_are : side_answer p s (batch_total way f p s - old + amount) (total - old + amount) ≡ a
  limits_are = ap (λ n. side_answer p s (n - old + amount) (total - old + amount)) (sym read) ∙ sym answered

  pub exchanged : (d : ℤ) (g : List ℕ) → a ≡ Ok tt → d ≡ pos amount -ℤ pos old
      → g ≡ side_put way f p s amount (b - old + amount) (total - old + amount) → Comes (Ok tt) d g (side_outcome way f p s total old amount)
  exchanged d g e h k =
      comes_granted _ (pos amount -ℤ pos old) d f g _ (limits_are ∙ e) h (k ∙ ap (λ n. side_put way f p s amount (n - old + amount) (total - old + amount)) read)

  pub not_exchanged : (r : Refusal) → a ≡ Err r → Comes (Err r) (pos 0) f (side_outcome way f p s total old amount)
  not_exchanged r e = comes_refused _ (pos amount -ℤ pos old) f _ r (limits_are ∙ e)
