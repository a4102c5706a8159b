use Rattle.table_read.proofs.Writing.{puts_both}
use Rattle.table_read.proofs.putting.put_head.Goals as goal

pub returns : goal.returns
returns c = puts_both c.put_count-front.ensures (puts_both c.put_part-back.ensures (puts_both c.put_part-count.ensures c.put_count.ensures))
