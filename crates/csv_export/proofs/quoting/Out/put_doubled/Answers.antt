use Rattle.std.proofs.Common.{◌∙◌}
use Rattle.table_read.proofs.Writing.{left_end, left_room, left_next}
use Rattle.csv_export.proofs.FieldLaws.{doubled_next, doubled_end}
use Rattle.csv_export.proofs.quoting.Out.put_doubled.Goals as goal

pub put_escaped-requires : goal.put_escaped-requires
put_escaped-requires c = left_room c.loop-b.invariant.0 _ _ (doubled_next c.args.text.now c.loop-b.b-index c.loop-b-test.true) c.requires

pub loop-b-preserved : goal.loop-b-preserved
loop-b-preserved c =
    (left_next c.loop-b.invariant.0 _ _ _ _ (doubled_next c.args.text.now c.loop-b.b-index c.loop-b-test.true) c.put_escaped.ensures.puts, c.put_escaped.ensures.lent ∙ c.loop-b.invariant.1)

pub returns-clause-puts : goal.returns-clause-puts
returns-clause-puts c = left_end c.loop-b.invariant.0 (doubled_end c.args.text.now c.loop-b.b-index c.loop-b-test.false)
