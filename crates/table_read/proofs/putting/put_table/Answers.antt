use Rattle.table_read.proofs.Writing.{puts_both}
use Rattle.table_read.proofs.putting.put_table.Goals as goal

pub returns : goal.returns
returns c = rw c.chunk.ensures at (puts_both c.put_head-rows.ensures (puts_both c.put_batches-tail.ensures c.put_tail.ensures))
