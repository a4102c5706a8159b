use Rattle.std.proofs.Common.{arith}
use Rattle.mend_file.proofs.RecordLaws.{record_least}
use Rattle.mend_file.proofs.WalkLaws.{nine_inside}
use Rattle.mend_file.proofs.WholeLaws.{mended_room, mended_there, batches_room, ninth_room, fields_room, fillers_room, all_put}
use Rattle.mend_file.proofs.put.Goals as goal

pub put_controls-count-requires : goal.put_controls-count-requires
put_controls-count-requires c = (
  omega (arith, nine_inside c.args.way c.args.file.now c.args.before c.requires.1),
  omega (arith, (mended_there c.args.way c.args.file.now c.args.before c.requires.1 c.args.mended.now c.requires.2).inside),
  batches_room c.args.way c.args.file.now c.args.before c.requires.1 c.args.mended.now c.requires.2 c.args.counts c.requires.3 c.args.list.now c.requires.4 c.put_digits-rows.ensures,
)

pub put_digits-control-requires : goal.put_digits-control-requires
put_digits-control-requires c = ninth_room c.args.way c.args.file.now c.args.before c.requires.1 c.args.mended.now c.requires.2 c.args.counts c.requires.3 c.args.list.now c.requires.4 c.put_digits-rows.ensures c.put_controls-count.ensures

pub record-requires-2 : goal.record-requires-2
record-requires-2 c = mended_room c.args.way c.args.file.now c.args.before c.requires.1 c.args.mended.now c.requires.2

pub put-fillers-requires : goal.put-fillers-requires
put-fillers-requires c =
    let least = record_least c.args.way in (
      omega (arith, least, c.record.ensures.1),
      omega (arith, least, c.record-2.ensures.1),
      rw (c.record.ensures.0, c.record-2.ensures.0) (fields_room c.args.way c.args.file.now c.args.before c.requires.1 c.args.mended.now c.requires.2 c.args.counts c.requires.3 c.args.list.now c.requires.4 c.put_digits-rows.ensures c.put_controls-count.ensures c.put_digits-control.ensures),
    )

pub put_fillers-requires : goal.put_fillers-requires
put_fillers-requires c =
    rw (c.fillers_in.ensures, c.fillers.ensures.0)
    (fillers_room c.args.way c.args.file.now c.args.before c.requires.1 c.args.mended.now c.requires.2 c.args.counts c.requires.3 c.args.list.now c.requires.4 c.put_digits-rows.ensures c.put_controls-count.ensures c.put_digits-control.ensures (rw (c.record.ensures.0, c.record-2.ensures.0) at c.put-fillers.ensures))

pub returns : goal.returns
returns c =
    all_put c.args.way c.args.file.now c.args.before c.requires.1 c.args.mended.now c.requires.2 c.args.counts c.requires.3 c.args.list.now c.requires.4 c.put_digits-rows.ensures c.put_controls-count.ensures c.put_digits-control.ensures (rw (c.record.ensures.0, c.record-2.ensures.0) at c.put-fillers.ensures)
    (rw (c.fillers_in.ensures, c.fillers.ensures.0) at c.put_fillers.ensures)
