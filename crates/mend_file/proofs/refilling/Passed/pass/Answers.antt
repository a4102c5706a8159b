use Rattle.std.proofs.Common.{arith, refl, ◌∙◌}
use lib.Seq.{take_all}
use Rattle.mend_file.proofs.refilling.Passed.pass.Goals as goal

pub returns : goal.returns
returns c =
    let line = c.line_by-line.ensures in
    let whole = take_all 94 c.args.rec.now (omega arith) in
    (c.next_sums-self.ensures.0 ∙ rw (line, whole) refl, c.next_header-self.ensures ∙ rw (line, whole) refl)
