-- A grant, taken apart: every test held, and nothing refused.
-- Assumes nothing.
use Rattle.std.specs.Prelude.{Ok, Err}
use mathlib.Core.Path.{◌≡◌}
use mathlib.Core.Bool.{Bool, true}
use Rattle.std.proofs.Common.{rules}
use Rattle.layout.specs.Answers.{Answer}
use Rattle.layout.specs.declared.Refusal.{Refusal}
use Rattle.view.specs.Outcome.{demand, and_then}

-- a refusal is no grant
pub not_granted : {A : Type 0} {r : Refusal} → ◌≡◌ {A = Answer} (Err r) (Ok tt) → A
not_granted e = cc

-- a test that was demanded held, and those after it
pub demand_granted : (t : Bool) (r : Refusal) (rest : Answer) → demand t (Err r) rest ≡ Ok tt → (t ≡ true) × (rest ≡ Ok tt)
demand_granted t r rest e = search rules

-- what came first was granted, and what came then
pub then_granted : (a b : Answer) → and_then a b ≡ Ok tt → (a ≡ Ok tt) × (b ≡ Ok tt)
then_granted a b e = search rules

-- what was refused first is the refusal
pub then_refused : (a b : Answer) (r : Refusal) → a ≡ Err r → and_then a b ≡ Err r
then_refused a b r e = rw e
