use Rattle.csv_cells.proofs.CellLaws.{Found}
use Rattle.csv_cells.proofs.six_fields.Given as goal

abbrev pub invariant-loop-k : goal.invariant-loop-k
invariant-loop-k l = Found l.s l.fields l.at l.k
