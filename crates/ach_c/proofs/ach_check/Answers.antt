use Rattle.ach.proofs.ToldLaws.{checked_told}
use mathlib.Core.Path.{◌∙◌}
use Rattle.ach_c.proofs.ach_check.Goals as goal

pub returns : goal.returns
returns c = let e = (rw c.way_of.ensures at c.check-checked.ensures.0) in (c.tell_checked.ensures.0 ∙ (checked_told _ _ c.args.acceptance.now e).0, c.tell_checked.ensures.1 ∙ (checked_told _ _ c.args.acceptance.now e).1, (rw c.way_of.ensures at c.check-checked.ensures.1))
