use Rattle.std.proofs.Common.{false, inl, arith}
use Rattle.csv_cells.proofs.CellLaws.{text_short}
use Rattle.csv_cells.proofs.text_size.Goals as goal

pub count-requires-clause-fits : goal.count-requires-clause-fits
count-requires-clause-fits c = inl (omega (arith, text_short false c.args.inner.now))
