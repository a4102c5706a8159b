use Rattle.std.proofs.Common.{arith, ap, ◌∙◌}
use Rattle.mend.specs.Mend.{mended_record}
use Rattle.mend_file.proofs.ListLaws.{control_listed}
use Rattle.mend_file.proofs.control_listed.Goals as goal

pub returns : goal.returns
returns c = (
  control_listed c.args.passed.now.sums c.args.passed.now.header c.args.raw.now c.mended-columns.result c.listed.result (omega arith) c.requires (omega arith)
      (c.mended-columns.ensures ∙ ap (mended_record c.args.passed.now.sums c.args.passed.now.header) c.chunk.ensures) c.listed.ensures.0,
  c.listed.ensures.1,
  c.listed.ensures.2,
)
