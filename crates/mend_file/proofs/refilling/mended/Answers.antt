use Rattle.std.proofs.Common.{sym, ◌∙◌}
use native.Mathlib.Omega.{arith}
use Rattle.mend_file.proofs.RefillLaws.{eight}
use Rattle.mend_file.proofs.refilling.mended.Goals as goal

pub returns : goal.returns
returns c = c.batch_control.ensures ∙ sym (eight c.args.sums c.args.header.now c.args.rec.now c.told-rec (omega arith) (omega arith))
