use native.Mathlib.Omega.{arith}
use Rattle.find_entry.proofs.Parts.{on}
use Rattle.recall_close.proofs.CloseLaws.{along_inside, along_room, along_next, along_end, old_few}
use Rattle.recall_close.proofs.close_up.Goals as goal

pub overflow_mul-record_bytes : goal.overflow_mul-record_bytes
overflow_mul-record_bytes c = rw c.record_bytes.ensures (record { fits = omega (arith, on c.args.way c.loop-i.i, along_inside c.args.way c.args.flags.now c.args.file.now c.args.count c.requires c.loop-i.file c.loop-i.walk c.loop-i.i c.loop-i.invariant c.loop-i-test.true) })

pub chunk-requires : goal.chunk-requires
chunk-requires c = rw c.record_bytes.ensures (omega arith, omega (arith, on c.args.way c.loop-i.i, along_inside c.args.way c.args.flags.now c.args.file.now c.args.count c.requires c.loop-i.file c.loop-i.walk c.loop-i.i c.loop-i.invariant c.loop-i-test.true))

pub pass_record-requires : goal.pass_record-requires
pass_record-requires c = (
  along_room c.args.way c.args.flags.now c.args.file.now c.args.count c.requires c.loop-i.file c.loop-i.walk c.loop-i.i c.loop-i.invariant c.loop-i-test.true,
  omega (arith, c.loop-i.invariant.entries, c.loop-i-test.true, old_few c.args.way c.args.flags.now c.args.file.now c.args.count c.requires),
)

pub loop-i-preserved : goal.loop-i-preserved
loop-i-preserved c = along_next c.args.way c.args.flags.now c.args.file.now c.args.count c.requires c.loop-i.file c.loop-i.walk c.loop-i.i c.loop-i.invariant c.loop-i-test.true c.chunk.result.now _ _ (rw c.record_bytes.ensures at c.chunk.ensures) c.pass_record.ensures

pub returns : goal.returns
returns c = along_end c.args.way c.args.flags.now c.args.file.now c.args.count c.requires c.loop-i.file c.loop-i.walk c.loop-i.i c.loop-i.invariant (omega arith) c.loop-i-test.false
