use Rattle.std.proofs.Common.{sym}
use Rattle.mend_file.proofs.MendLaws.{mends_granted}
use Rattle.mend_file.proofs.mend.Goals as goal

pub returns : goal.returns
returns c =
    let plan = c.in_ok-before.field-0 in
    let ready = c.in_ok-before.ensures.ready in
    mends_granted c.args.way c.args.file.now c.args.mended.now c.args.changes.now (sym c.in_ok-before.ensures.answer) plan.size plan.counts.bytes _ _ ready.size ready.counts.bytes c.put_mended.ensures c.put.ensures
