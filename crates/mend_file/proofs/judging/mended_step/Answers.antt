use Rattle.std.proofs.Common.{ap, ◌∙◌}
use Rattle.check_record.specs.Record.{record_of, piece_of}
use Rattle.mend.specs.Mend.{refilled, mended_record}
use Rattle.mend_file.proofs.StepLaws.{mended_columns}
use Rattle.mend_file.proofs.judging.mended_step.Goals as goal

pub returns-clause-step : goal.returns-clause-step
returns-clause-step c =
    let columns = c.mended-columns.ensures ∙ ap (mended_record c.args.st.sums c.args.st.header) c.chunk.ensures in
    c.stepped.ensures.step
    ∙ ap (λ x. record_of c.args.st (piece_of c.args.way x)) (ap (λ x. refilled x c.args.raw.now) columns ∙ mended_columns c.args.st.sums c.args.st.header c.args.raw.now)
