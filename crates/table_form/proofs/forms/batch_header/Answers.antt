use Rattle.table_form.proofs.FormLaws.{batch_formed}
use Rattle.table_form.proofs.forms.batch_header.Goals as goal

pub returns : goal.returns
returns c = rw (c.copy_into-2.ensures, c.copy_into.ensures) (batch_formed c.args.row.now c.told-row)
