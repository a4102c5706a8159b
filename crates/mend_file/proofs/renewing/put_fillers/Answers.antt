use Rattle.std.proofs.Common.{length, ap, arith}
use lib.Seq.{length-sets}
use Rattle.mend_file.proofs.RecordLaws.{record_least}
use Rattle.mend_file.proofs.PutLaws.{filler_room, fillers_on, fillers_done}
use Rattle.mend_file.proofs.renewing.put_fillers.Goals as goal

pub copy_into-requires : goal.copy_into-requires
copy_into-requires c = let room = (filler_room c.args.way c.args.mended.now c.args.from c.args.count c.loop.invariant c.loop-test.true c.requires) in omega (arith, room, record_least c.args.way)

pub overflow_add-to : goal.overflow_add-to
overflow_add-to c = let room = (filler_room c.args.way c.args.mended.now c.args.from c.args.count c.loop.invariant c.loop-test.true c.requires) in record { fits = omega (arith, room, record_least c.args.way) }

pub end_line-requires : goal.end_line-requires
end_line-requires c = let room = (filler_room c.args.way c.args.mended.now c.args.from c.args.count c.loop.invariant c.loop-test.true c.requires) in omega (arith, room, ap length c.copy_into.ensures, length-sets c.loop.mended c.loop.to c.filler-filler.result)

pub overflow_add-to-in-loop : goal.overflow_add-to-in-loop
overflow_add-to-in-loop c = let room = (filler_room c.args.way c.args.mended.now c.args.from c.args.count c.loop.invariant c.loop-test.true c.requires) in record { fits = omega (arith, room, c.record_bytes-to.ensures) }

pub loop-preserved : goal.loop-preserved
loop-preserved c = rw c.record_bytes-to.ensures (fillers_on c.args.way c.args.mended.now c.args.from c.args.count c.loop.invariant c.loop-test.true c.filler-filler.result _ _ c.filler-filler.ensures c.copy_into.ensures c.end_line.ensures)

pub returns : goal.returns
returns c = fillers_done c.args.way c.args.mended.now c.args.from c.args.count c.loop-test.false c.loop.invariant
