use Rattle.std.proofs.Common.{false}
use Rattle.csv_cells.specs.Cells.{undoubled}
use Rattle.csv_cells.proofs.CellLaws.{Filled}
use Rattle.csv_cells.proofs.put_text.Given as goal

abbrev pub invariant-loop-b : goal.invariant-loop-b
invariant-loop-b l = Filled l.to (undoubled false l.text.0.now) (undoubled false l.inner) l.b-index
