use Rattle.table_form.proofs.FormLaws.{entry_formed}
use Rattle.table_form.proofs.forms.entry.Goals as goal

pub returns : goal.returns
returns c = rw c.copy_into.ensures (entry_formed c.args.row.now c.told-row)
