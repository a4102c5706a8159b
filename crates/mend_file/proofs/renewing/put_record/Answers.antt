use Rattle.std.proofs.Common.{ap, ◌∙◌}
use lib.Seq.{sets}
use Rattle.mend.specs.Mend.{refilled, mended_record}
use Rattle.mend_file.proofs.StepLaws.{mended_columns}
use Rattle.mend_file.proofs.renewing.put_record.Goals as goal

pub returns : goal.returns
returns c =
    let columns = c.mended-columns.ensures ∙ ap (mended_record c.args.passed.now.sums c.args.passed.now.header) c.chunk.ensures in
    c.put_refilled.ensures
    ∙ ap (sets c.args.mended.now c.args.at) (ap (λ x. refilled x c.args.raw.now) columns ∙ mended_columns c.args.passed.now.sums c.args.passed.now.header c.args.raw.now)
