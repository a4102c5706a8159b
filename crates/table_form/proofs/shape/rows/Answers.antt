use Rattle.std.proofs.Common.{◌∙◌, refl}
use Rattle.table_form.proofs.ShapeLaws.{rows_part}
use Rattle.table_form.proofs.shape.rows.Goals as goal

pub returns : goal.returns
returns g c =
    c.as_chunks.ensures.front
    ∙ rows_part g.row.N c.args.count c.args.from c.args.table.now c.requires.0 c.requires.1 _ refl
