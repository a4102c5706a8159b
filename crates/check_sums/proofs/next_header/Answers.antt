use native.Mathlib.Omega.{arith}
use lib.Seq.{take_all}
use mathlib.Core.Path.{sym}
use Rattle.check_sums.proofs.next_header.Goals as goal

pub returns-in-BatchHeader : goal.returns-in-BatchHeader
returns-in-BatchHeader c = rw c.in-BatchHeader.is (sym (take_all 94 c.args.rec.now (omega arith)))
