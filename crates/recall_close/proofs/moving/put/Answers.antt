use Rattle.std.proofs.Common.{rules}
use Rattle.recall_close.proofs.PutLaws.{put_one}
use Rattle.recall_close.proofs.moving.put.Goals as goal

pub returns : goal.returns
returns c = (c.next_sums.ensures.0, c.next_sums.ensures.1, rw (c.end_line.ensures, c.copy_into.ensures, c.record_bytes.ensures) (put_one c.args.way c.args.file.now c.args.rec.now c.args.sums.records (search rules)))
