use Rattle.ach.proofs.ToldLaws.{made_told}
use mathlib.Core.Path.{◌∙◌}
use Rattle.ach_c.proofs.ach_read.Goals as goal

pub returns : goal.returns
returns c = let e = (rw c.way_of.ensures at c.read-made.ensures.0) in (c.tell.ensures.0 ∙ (made_told _ _ c.args.length.now e).0, (rw c.way_of.ensures at c.read-made.ensures.1), c.tell.ensures.1 ∙ (made_told _ _ c.args.length.now e).1)
