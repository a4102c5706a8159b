use Rattle.mend_file.proofs.ListLaws.{control_none, control_eight}
use Rattle.mend_file.proofs.FieldLaws.{row_nothing}
use Rattle.table_read.proofs.Writing.{puts_none}
use Rattle.mend_file.proofs.put_control.Goals as goal

pub returns-then-old-ne56 : goal.returns-then-old-ne56
returns-then-old-ne56 c = puts_none (row_nothing _ (control_none c.args.number c.args.old.now c.args.new.now c.if-old-ne56.true))
