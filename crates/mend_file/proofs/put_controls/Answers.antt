use Rattle.std.proofs.Common.{◌+◌, length, sym, ap, ◌∙◌, arith}
use Rattle.std.proofs.lemmas.List.{length_push}
use Rattle.layout.specs.Ways.{record_bytes}
use Rattle.check_record.specs.Record.{raw_records}
use Rattle.mend_file.proofs.RecordLaws.{at_long, record_least, pair_turn, pair_end}
use Rattle.mend_file.proofs.ListLaws.{control_room, controls_on, controls_done}
use Rattle.mend_file.proofs.put_controls.Goals as goal

pub put_control-to-requires : goal.put_control-to-requires
put_control-to-requires c =
    let turn = pair_turn c.args.way c.args.file.now c.args.mended.now c.args.before c.into_iter-i-iterator.result (cc) (cc c.record_bytes-wide.ensures) (cc) (cc) (cc c.record_bytes-wide.ensures) (cc) c.loop-i.yielded c.loop-i.i-iterator c.loop-i.yielded_by c.next.result c.next.new.self c.next.ensures.steps (c.in-Some.i, (c.in-Some.old, c.in-Some.new)) c.in-Some.is in
    let least = record_least c.args.way in (
      omega (arith, least, at_long c.args.way c.args.file.now (length c.loop-i.yielded) c.in-Some.old.now turn.2),
      omega (arith, least, at_long c.args.way c.args.mended.now (length c.loop-i.yielded) c.in-Some.new.now turn.3),
      rw turn.0 (control_room (raw_records c.args.way c.args.file.now) (raw_records c.args.way c.args.mended.now) c.args.before c.args.list.now c.args.start c.loop-i.invariant turn.1 c.in-Some.old.now c.in-Some.new.now turn.2 turn.3 c.requires.2),
    )

pub loop-i-preserved : goal.loop-i-preserved
loop-i-preserved c =
    let turn = pair_turn c.args.way c.args.file.now c.args.mended.now c.args.before c.into_iter-i-iterator.result (cc) (cc c.record_bytes-wide.ensures) (cc) (cc) (cc c.record_bytes-wide.ensures) (cc) c.loop-i.yielded c.loop-i.i-iterator c.loop-i.yielded_by c.next.result c.next.new.self c.next.ensures.steps (c.in-Some.i, (c.in-Some.old, c.in-Some.new)) c.in-Some.is in
    rw (length_push c.loop-i.yielded (c.in-Some.i, (c.in-Some.old, c.in-Some.new)))
    (controls_on (raw_records c.args.way c.args.file.now) (raw_records c.args.way c.args.mended.now) c.args.before c.args.list.now c.args.start c.loop-i.invariant turn.1 c.in-Some.old.now c.in-Some.new.now turn.2 turn.3 (rw turn.0 at c.put_control-to.ensures))

pub returns : goal.returns
returns c =
    let all = pair_end c.args.way c.args.file.now c.args.mended.now c.args.before c.into_iter-i-iterator.result (cc) (cc c.record_bytes-wide.ensures) (cc) (cc) (cc c.record_bytes-wide.ensures) (cc) c.loop-i.yielded c.loop-i.i-iterator c.loop-i.yielded_by c.next.result c.next.new.self c.next.ensures.steps c.in-None.is c.requires.0 c.requires.1 in
    controls_done (raw_records c.args.way c.args.file.now) (raw_records c.args.way c.args.mended.now) c.args.before c.args.list.now c.args.start (omega (arith, all)) c.loop-i.invariant
