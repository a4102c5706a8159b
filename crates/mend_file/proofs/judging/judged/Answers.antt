use Rattle.std.proofs.Common.{◌≡◌, ◌+◌, length, refl, sym, ap, ◌∙◌, arith, rules, Ok, Err}
use Rattle.std.proofs.lemmas.Result.{err_from_is_err_and}
use Rattle.std.proofs.lemmas.List.{length_push}
use Rattle.layout.specs.Paper.{refusal}
use Rattle.mend_file.proofs.RecordLaws.{at_long, record_turn, record_end}
use Rattle.mend_file.proofs.WalkLaws.{records_few}
use Rattle.mend_file.proofs.TurnLaws.{wrong_is, right_is, begun, judged_failed, judged_on, judged_nine, judged_there, judged_short}
use Rattle.mend_file.proofs.judging.judged.Goals as goal

pub loop-i-init : goal.loop-i-init
loop-i-init c = begun c.args.way c.args.file.now c.start-st.result c.requires c.start-st.ensures.0 c.start-st.ensures.1

pub control_step-requires : goal.control_step-requires
control_step-requires c =
    let turn = record_turn c.args.way c.args.file.now c.into_iter-i-iterator.result (cc) (cc c.record_bytes.ensures) (cc) c.loop-i.yielded _ c.loop-i.yielded_by _ _ c.next.ensures.steps (c.in-Some.i, c.in-Some.raw) c.in-Some.is in
    (c.loop-i.invariant.fair, omega (arith, c.loop-i.invariant.walk.count, turn.1.inside, records_few c.args.way c.args.file.now c.requires), at_long c.args.way c.args.file.now (length c.loop-i.yielded) c.in-Some.raw.now turn.1)

pub returns-in_err-map_err-clause-answer : goal.returns-in_err-map_err-clause-answer
returns-in_err-map_err-clause-answer c =
    let turn = record_turn c.args.way c.args.file.now c.into_iter-i-iterator.result (cc) (cc c.record_bytes.ensures) (cc) c.loop-i.yielded _ c.loop-i.yielded_by _ _ c.next.ensures.steps (c.in-Some.i, c.in-Some.raw) c.in-Some.is in
    let told = err_from_is_err_and c.from_residual.result c.from_residual.ensures.1 in
    let wrong = wrong_is (c.in-Some.i + 1) (λ w r k. search rules) c.control_step.result c.map_err.result c.in_err-map_err.field-0.0 c.map_err.ensures.cases c.in_err-map_err.was in
    rw (told.1, told.2)
    (wrong.2 ∙ ap (λ n. refusal wrong.0.fault (n + 1) wrong.0.field) turn.0
    ∙ judged_nine c.args.way c.args.file.now c.loop-i.st c.loop-i.last (length c.loop-i.yielded) c.loop-i.invariant c.in-Some.raw.now turn.1 (Err wrong.0) c.loop-i.st (rw wrong.1 at c.control_step.ensures.step) (sym c.ends_file.ensures ∙ c.if-ends_file.true))

pub returns-then-ends_file-clause-answer : goal.returns-then-ends_file-clause-answer
returns-then-ends_file-clause-answer c =
    let turn = record_turn c.args.way c.args.file.now c.into_iter-i-iterator.result (cc) (cc c.record_bytes.ensures) (cc) c.loop-i.yielded _ c.loop-i.yielded_by _ _ c.next.ensures.steps (c.in-Some.i, c.in-Some.raw) c.in-Some.is in
    let passed = right_is _ c.control_step.result c.map_err.result c.in_ok-map_err.field-0 c.map_err.ensures.cases c.in_ok-map_err.was in
    judged_nine c.args.way c.args.file.now c.loop-i.st c.loop-i.last (length c.loop-i.yielded) c.loop-i.invariant c.in-Some.raw.now turn.1 (Ok tt) c.in_ok-map_err.field-0 (rw passed at c.control_step.ensures.step) (sym c.ends_file.ensures ∙ c.if-ends_file.true)

pub returns-then-ends_file-clause-before : goal.returns-then-ends_file-clause-before
returns-then-ends_file-clause-before c =
    let turn = record_turn c.args.way c.args.file.now c.into_iter-i-iterator.result (cc) (cc c.record_bytes.ensures) (cc) c.loop-i.yielded _ c.loop-i.yielded_by _ _ c.next.ensures.steps (c.in-Some.i, c.in-Some.raw) c.in-Some.is in
    rw turn.0 (judged_there c.args.way c.args.file.now c.loop-i.st c.loop-i.last (length c.loop-i.yielded) c.loop-i.invariant c.in-Some.raw.now turn.1 (sym c.ends_file.ensures ∙ c.if-ends_file.true))

pub mended_step-requires : goal.mended_step-requires
mended_step-requires c =
    let turn = record_turn c.args.way c.args.file.now c.into_iter-i-iterator.result (cc) (cc c.record_bytes.ensures) (cc) c.loop-i.yielded _ c.loop-i.yielded_by _ _ c.next.ensures.steps (c.in-Some.i, c.in-Some.raw) c.in-Some.is in
    (c.loop-i.invariant.fair, omega (arith, c.loop-i.invariant.walk.count, turn.1.inside, records_few c.args.way c.args.file.now c.requires), at_long c.args.way c.args.file.now (length c.loop-i.yielded) c.in-Some.raw.now turn.1)

pub returns-in-Err-clause-answer : goal.returns-in-Err-clause-answer
returns-in-Err-clause-answer c =
    let turn = record_turn c.args.way c.args.file.now c.into_iter-i-iterator.result (cc) (cc c.record_bytes.ensures) (cc) c.loop-i.yielded _ c.loop-i.yielded_by _ _ c.next.ensures.steps (c.in-Some.i, c.in-Some.raw) c.in-Some.is in
    let wrong = c.in-Err.wrong in
    let gave : Err c.refused.result ≡ refusal wrong.fault (c.in-Some.i + 1) wrong.field = search rules in
    gave ∙ ap (λ n. refusal wrong.fault (n + 1) wrong.field) turn.0
    ∙ judged_failed c.args.way c.args.file.now c.loop-i.st c.loop-i.last (length c.loop-i.yielded) c.loop-i.invariant c.in-Some.raw.now turn.1 wrong c.in-Err.ensures.step (sym c.ends_file.ensures ∙ c.if-ends_file.false)

pub loop-i-preserved : goal.loop-i-preserved
loop-i-preserved c =
    let turn = record_turn c.args.way c.args.file.now c.into_iter-i-iterator.result (cc) (cc c.record_bytes.ensures) (cc) c.loop-i.yielded _ c.loop-i.yielded_by _ _ c.next.ensures.steps (c.in-Some.i, c.in-Some.raw) c.in-Some.is in
    rw (length_push c.loop-i.yielded (c.in-Some.i, c.in-Some.raw))
    (judged_on c.args.way c.args.file.now c.loop-i.st c.loop-i.last (length c.loop-i.yielded) c.loop-i.invariant c.in-Some.raw.now turn.1 c.in-Ok.next c.in-Ok.ensures.step (sym c.ends_file.ensures ∙ c.if-ends_file.false) c.in-Ok.ensures.fair)

pub returns-clause-answer : goal.returns-clause-answer
returns-clause-answer c =
    let all = record_end c.args.way c.args.file.now c.into_iter-i-iterator.result (cc) (cc c.record_bytes.ensures) (cc) c.loop-i.yielded _ c.loop-i.yielded_by _ _ c.next.ensures.steps c.in-None.is in
    c.at.ensures ∙ judged_short c.args.way c.args.file.now c.loop-i.st c.loop-i.last (length c.loop-i.yielded) c.loop-i.invariant (omega (arith, all))
