use Rattle.std.proofs.Common.{arith}
use Rattle.csv_cells.proofs.CellLaws.{fill_on}
use Rattle.csv_cells.proofs.put_text.Goals as goal

pub loop-b-preserved : goal.loop-b-preserved
loop-b-preserved c = fill_on _ _ _ _ _ _ _ c.loop-b.invariant (omega arith) c.unwrap_or.ensures c.next.ensures.steps
