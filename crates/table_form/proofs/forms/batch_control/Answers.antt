use Rattle.table_form.proofs.FormLaws.{batch_control_formed}
use Rattle.table_form.proofs.forms.batch_control.Goals as goal

pub returns : goal.returns
returns c = rw (c.copy_into-3.ensures, c.copy_into-2.ensures, c.put_number-4.ensures, c.put_number-3.ensures, c.put_number-2.ensures, c.put_number.ensures, c.copy_into.ensures) (batch_control_formed c.args.sums c.args.header.now c.told-header)
