use Rattle.table_form.proofs.FormLaws.{addendum_formed}
use Rattle.table_form.proofs.forms.addendum.Goals as goal

pub returns : goal.returns
returns c = rw (c.copy_into-4.ensures, c.copy_into-3.ensures, c.copy_into-2.ensures, c.copy_into.ensures) (addendum_formed c.args.row.now c.args.words.now c.told-row c.told-words)
