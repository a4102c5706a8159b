use Rattle.csv_cells.specs.Cells.{six_texts}
use Rattle.csv_entry.specs.Entries.{row_of_line}
use Rattle.csv_entry.proofs.EntryLaws.{Placing}
use Rattle.csv_entry.proofs.entries.placed.Given as goal

abbrev pub invariant-loop-i : goal.invariant-loop-i
invariant-loop-i l = Placing (six_texts l.fn.s) (row_of_line l.fn.bank l.fn.number l.fn.s) l.row l.i
