use Rattle.std.proofs.Common.{◌+◌, ◌*◌, length, ap, ◌∙◌, arith}
use Rattle.std.proofs.lemmas.List.{length_push}
use lib.Seq.{sets}
use Rattle.layout.specs.Ways.{record_bytes}
use Rattle.mend.specs.Mend.{sums_past, header_past}
use Rattle.mend_file.proofs.RecordLaws.{at_long, record_least, nth_turn, nth_end}
use Rattle.mend_file.proofs.WalkLaws.{nine_inside, nine_few}
use Rattle.mend_file.proofs.PutLaws.{put_room, put_on, put_end}
use Rattle.mend_file.proofs.renewing.put_body.Goals as goal

pub put_record-requires : goal.put_record-requires
put_record-requires c =
    let turn = nth_turn c.args.way c.args.file.now c.args.before c.into_iter-i-iterator.result (cc) (cc c.record_bytes-wide.ensures) (cc) (cc) c.loop-i.yielded _ c.loop-i.yielded_by _ _ c.next.ensures.steps (c.in-Some.i, c.in-Some.raw) c.in-Some.is in
    let long = at_long c.args.way c.args.file.now (length c.loop-i.yielded) c.in-Some.raw.now turn.2 in
    (omega (arith, long, record_least c.args.way), rw (turn.0, c.record_bytes-wide.ensures) (put_room c.args.way c.args.file.now c.args.mended.now c.loop-i.passed.sums c.loop-i.passed.header c.loop-i.mended (length c.loop-i.yielded) c.loop-i.invariant c.in-Some.raw.now turn.2 (omega (arith, turn.1, c.requires.1.before)) c.requires.2))

pub chunk-requires : goal.chunk-requires
chunk-requires c =
    let turn = nth_turn c.args.way c.args.file.now c.args.before c.into_iter-i-iterator.result (cc) (cc c.record_bytes-wide.ensures) (cc) (cc) c.loop-i.yielded _ c.loop-i.yielded_by _ _ c.next.ensures.steps (c.in-Some.i, c.in-Some.raw) c.in-Some.is in
    let long = at_long c.args.way c.args.file.now (length c.loop-i.yielded) c.in-Some.raw.now turn.2 in
    (omega arith, omega (arith, long, record_least c.args.way))

pub pass-requires : goal.pass-requires
pass-requires c =
    let turn = nth_turn c.args.way c.args.file.now c.args.before c.into_iter-i-iterator.result (cc) (cc c.record_bytes-wide.ensures) (cc) (cc) c.loop-i.yielded _ c.loop-i.yielded_by _ _ c.next.ensures.steps (c.in-Some.i, c.in-Some.raw) c.in-Some.is in
    omega (arith, turn.1, c.loop-i.invariant.1.walk.count, nine_few c.args.way c.args.file.now c.args.before c.requires.0 c.requires.1)

pub loop-i-preserved : goal.loop-i-preserved
loop-i-preserved c =
    let turn = nth_turn c.args.way c.args.file.now c.args.before c.into_iter-i-iterator.result (cc) (cc c.record_bytes-wide.ensures) (cc) (cc) c.loop-i.yielded _ c.loop-i.yielded_by _ _ c.next.ensures.steps (c.in-Some.i, c.in-Some.raw) c.in-Some.is in
    rw (length_push c.loop-i.yielded (c.in-Some.i, c.in-Some.raw))
    (put_on c.args.way c.args.file.now c.args.mended.now c.loop-i.passed.sums c.loop-i.passed.header c.loop-i.mended (length c.loop-i.yielded) c.loop-i.invariant c.in-Some.raw.now turn.2 c.pass.new.self.sums c.pass.new.self.header c.put_record.new.mended (omega (arith, turn.1, c.requires.1.before)) (c.pass.ensures.0 ∙ ap (sums_past c.loop-i.passed.sums) c.chunk.ensures)
    (c.pass.ensures.1 ∙ ap (header_past c.loop-i.passed.header) c.chunk.ensures) (rw (turn.0, c.record_bytes-wide.ensures) at c.put_record.ensures))

pub returns : goal.returns
returns c =
    let all = nth_end c.args.way c.args.file.now c.args.before c.into_iter-i-iterator.result (cc) (cc c.record_bytes-wide.ensures) (cc) (cc) c.loop-i.yielded _ c.loop-i.yielded_by _ _ c.next.ensures.steps c.in-None.is (omega (arith, nine_inside c.args.way c.args.file.now c.args.before c.requires.1)) in
    put_end c.args.way c.args.file.now c.args.mended.now c.loop-i.passed.sums c.loop-i.passed.header c.loop-i.mended c.args.before (length c.loop-i.yielded) c.requires.1 c.loop-i.passed.small all c.loop-i.invariant
