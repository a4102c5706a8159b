use Rattle.table_form.proofs.FormLaws.{file_formed}
use Rattle.table_form.proofs.forms.file_header.Goals as goal

pub returns : goal.returns
returns c = rw (c.copy_into-4.ensures, c.copy_into-3.ensures, c.copy_into-2.ensures, c.copy_into.ensures) (file_formed c.args.row.now c.told-row)
