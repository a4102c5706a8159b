use Rattle.std.proofs.Common.{arith}
use Rattle.mend_file.proofs.RecordLaws.{record_least}
use Rattle.mend_file.proofs.PutLaws.{control_room, behind_room, put_done}
use Rattle.mend_file.proofs.renewing.put_mended.Goals as goal

pub put_refilled-requires : goal.put_refilled-requires
put_refilled-requires c = (omega (arith, c.record.ensures.1, record_least c.args.way), rw c.record_bytes-wide.ensures (control_room c.args.way c.args.file.now c.args.mended.now c.args.before c.requires.1 c.put_body-sums.result _ c.put_body-sums.ensures c.requires.2 c.record.result.now c.record.ensures.0))

pub put_fillers-requires : goal.put_fillers-requires
put_fillers-requires c = rw (c.record_bytes-wide.ensures, c.fillers.ensures.0) (behind_room c.args.way c.args.file.now c.args.mended.now c.args.before c.requires.1 c.put_body-sums.result _ c.put_body-sums.ensures c.requires.2 c.record.result.now c.record.ensures.0 _ (rw (c.record_bytes-wide.ensures, c.file_control-control.ensures) at c.put_refilled.ensures))

pub returns : goal.returns
returns c = put_done c.args.way c.args.file.now c.args.mended.now c.args.before c.requires.1 c.put_body-sums.result _ c.put_body-sums.ensures c.requires.2 c.record.result.now c.record.ensures.0 _ _ (rw (c.record_bytes-wide.ensures, c.file_control-control.ensures) at c.put_refilled.ensures) (rw (c.record_bytes-wide.ensures, c.fillers.ensures.0) at c.put_fillers.ensures)
