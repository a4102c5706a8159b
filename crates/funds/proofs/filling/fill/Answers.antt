use Rattle.std.proofs.Common.{rules}
use Rattle.funds.proofs.WalkLaws.{filling_put, filled}
use Rattle.funds.proofs.filling.fill.Goals as goal

pub loop-row-preserved : goal.loop-row-preserved
loop-row-preserved c =
    (tt, tt, rw c.copy_into.ensures (filling_put c.requires.1 c.loop-row.invariant.2 c.in-Some.row _ (search rules) c.in-Some.ensures.steps))

pub returns : goal.returns
returns c = filled (rw c.in-None.ensures.steps at c.loop-row.invariant.2)
