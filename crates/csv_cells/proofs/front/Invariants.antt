use Rattle.csv_cells.proofs.CellLaws.{Walked}
use Rattle.csv_cells.proofs.front.Given as goal

abbrev pub invariant-loop-i : goal.invariant-loop-i
invariant-loop-i l = Walked l.s l.i l.scan
