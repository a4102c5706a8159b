use Rattle.table_read.proofs.Writing.{puts_both}
use Rattle.table_read.proofs.putting.put_tail.Goals as goal

pub returns : goal.returns
returns c = puts_both c.put_count-rows.ensures (puts_both c.put_rows-count.ensures (puts_both c.put_count-texts.ensures c.put_rows.ensures))
