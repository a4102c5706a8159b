use Rattle.std.proofs.Common.{sym, ◌∙◌}
use Rattle.mend_file.proofs.StepLaws.{refilled_stopped, refilled_tried}
use Rattle.mend_file.proofs.judging.stepped.Goals.{else-is_ok-via-then-is_ok+else-not-closed, else-is_ok-via-else-is_ok}
use Rattle.mend_file.proofs.judging.stepped.Goals as goal

pub returns-then-not-closed-clause-step : goal.returns-then-not-closed-clause-step
returns-then-not-closed-clause-step c = refilled_stopped c.args.way c.args.st c.args.columns.now c.args.raw.now c.told-columns c.check-tried.result c.check-tried.ensures.step (sym c.is_ok.ensures.value ∙ c.if-is_ok.true) (sym c.closed.ensures ∙ c.if-not-closed.true)

pub returns-clause-step : goal.returns-clause-step
returns-clause-step c =
    refilled_tried c.args.way c.args.st c.args.columns.now c.args.raw.now c.told-columns c.check-tried.result c.check-tried.ensures.step
    (elim c.else-is_ok.branch [ else-is_ok-via-then-is_ok+else-not-closed w ↦ λ o. sym w.closed.ensures ∙ w.if-not-closed.false | else-is_ok-via-else-is_ok w ↦ λ o. cc ])
