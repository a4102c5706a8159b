use mathlib.Core.Path.{refl}
use Rattle.ach.proofs.told.tell_checked.Goals as goal

pub returns-in-Ok : goal.returns-in-Ok
returns-in-Ok c = rw (c.in-Ok.is, c.copy_into.ensures) (refl, refl)
