use Rattle.std.proofs.Common.{◌∙◌, rules}
use Rattle.table_read.proofs.Writing.{left_end, left_room, left_next}
use Rattle.csv_export.proofs.FieldLaws.{puts_into}
use Rattle.csv_export.proofs.LineLaws.{lines_next, lines_end}
use Rattle.csv_export.proofs.lining.put_lines.Goals as goal

pub put_line-requires : goal.put_line-requires
put_line-requires c =
    left_room c.loop-row.invariant.0 _ _ (lines_next c.rows-row-items.result.now c.loop-row.row-index c.loop-row-test.true) (rw c.rows-row-items.ensures c.requires.1)

pub loop-row-preserved : goal.loop-row-preserved
loop-row-preserved c =
    (left_next c.loop-row.invariant.0 _ _ _ _ (lines_next c.rows-row-items.result.now c.loop-row.row-index c.loop-row-test.true) c.put_line.ensures.puts, c.put_line.ensures.lent ∙ c.loop-row.invariant.1)

pub returns : goal.returns
returns c =
    rw (← c.rows-row-items.ensures)
    (puts_into (search rules) (left_end c.loop-row.invariant.0 (lines_end c.rows-row-items.result.now c.loop-row.row-index c.loop-row-test.false)))
