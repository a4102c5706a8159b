use Rattle.layout.proofs.Tables.{part_columns}
use Rattle.check_field.proofs.field.field.Goals as goal

pub returns : goal.returns
returns c = rw (← c.row_of-row.ensures.0, ← part_columns c.row_of-row.result c.args.rec.now c.row_of-row.ensures.1, ← c.from-from.ensures, ← c.from-to.ensures) c.kind_check.ensures
