use borrow.Author.Tests.{eq-eqb, ne_eqb}
use mathlib.Core.Path.{refl}
use Rattle.ach.proofs.told.way_of.Goals as goal

pub returns-then-number-eq0 : goal.returns-then-number-eq0
returns-then-number-eq0 c = rw (eq-eqb _ _ c.if-number-eq0.true) refl

pub returns-else-number-eq0 : goal.returns-else-number-eq0
returns-else-number-eq0 c = rw (ne_eqb _ _ c.if-number-eq0.false) refl
