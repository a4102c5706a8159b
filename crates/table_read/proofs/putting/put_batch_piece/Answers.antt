use Rattle.table_read.proofs.Writing.{puts_both, batch_opens}
use Rattle.table_read.proofs.putting.put_batch_piece.Goals as goal

pub returns-in-53 : goal.returns-in-53
returns-in-53 c = rw (batch_opens c.args.rec.now c.args.count c.in-53.is) (puts_both c.put_part-behind.ensures c.put_part.ensures)
