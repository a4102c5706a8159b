use Rattle.table_form.proofs.FormLaws.{file_control_formed}
use Rattle.table_form.proofs.forms.file_control.Goals as goal

pub returns : goal.returns
returns c = rw (c.put_number-6.ensures, c.put_number-5.ensures, c.put_number-4.ensures, c.put_number-3.ensures, c.put_number-2.ensures, c.put_number.ensures) (file_control_formed c.args.sums)
