use Rattle.std.proofs.Common.{arith}
use Rattle.csv_cells.proofs.CellLaws.{text_plain, text_last}
use Rattle.csv_cells.proofs.TextIterator.next.Goals as goal

pub returns-in-len1-up-clause-steps : goal.returns-in-len1-up-clause-steps
returns-in-len1-up-clause-steps c = grind (arith, text_plain, text_last)

pub returns-in-len1-up-clause-goes : goal.returns-in-len1-up-clause-goes
returns-in-len1-up-clause-goes c = grind (arith, text_plain, text_last)
