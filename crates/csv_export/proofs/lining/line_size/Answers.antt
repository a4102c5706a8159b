use Rattle.std.proofs.Common.{arith}
use Rattle.csv_export.proofs.LineLaws.{line_length, line_short}
use Rattle.csv_export.proofs.lining.line_size.Goals as goal

pub returns : goal.returns
returns c =
    let long = line_length c.args.row.now _ c.chunk.ensures in
    (omega arith, omega (arith, line_short c.args.row.now))
