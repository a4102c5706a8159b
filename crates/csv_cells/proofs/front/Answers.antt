use Rattle.std.proofs.Common.{refl, arith}
use Rattle.csv_cells.proofs.CellLaws.{walk_on, walk_stops, walk_ends}
use Rattle.csv_cells.proofs.front.Goals as goal

pub returns-in-Stuck : goal.returns-in-Stuck
returns-in-Stuck c = (walk_stops _ _ _ _ c.loop-i.invariant c.in-Stuck.ensures c.loop-i-test.true refl _ c.may_end.ensures, omega arith)

pub loop-i-preserved : goal.loop-i-preserved
loop-i-preserved c = walk_on _ _ _ _ c.loop-i.invariant c.go_on.ensures c.loop-i-test.true c.in_default.not-Stuck

pub returns : goal.returns
returns c = (walk_ends _ _ _ c.loop-i.invariant (omega arith) (omega arith) _ c.may_end-2.ensures, omega arith)
