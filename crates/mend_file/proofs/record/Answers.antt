use Rattle.mend_file.proofs.RecordLaws.{record_cut}
use Rattle.mend_file.proofs.record.Goals as goal

pub returns : goal.returns
returns c = rw c.record_bytes-wide.ensures (record_cut c.args.way c.args.file.now c.args.before c.requires)
