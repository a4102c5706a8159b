use Rattle.ach.proofs.ToldLaws.{number_range}
use native.Mathlib.Omega.{arith}
use Rattle.ach.proofs.told.code_of.Goals as goal

pub packed-requires : goal.packed-requires
packed-requires c = omega (arith, c.number_of-number.ensures, (number_range c.in-Err.refusal.fault).1)
