use Rattle.std.specs.Prelude.{Ok, Err}
use Rattle.std.proofs.Common.{◌≡◌, ◌+◌, rules, sym, ◌∙◌, ap, arith}
use Rattle.std.proofs.lemmas.Result.{err_from_is_err_and, IfOk-at_ok}
use Rattle.layout.specs.Answers.{Checked}
use Rattle.layout.specs.Paper.{refusal}
use Rattle.check_sums.specs.WorkFair.{Fair}
use Rattle.table_write.proofs.PassLaws.{step_by_lem, run_refused, run_granted, begun, walking_on, mapped_ok, mapped_err, passed, failed}
use Rattle.table_write.proofs.passing.judged.Goals as goal

pub loop-groups-init : goal.loop-groups-init
loop-groups-init c =
    let b = begun c.args.table.now c.opened-c.result c.start-st.result c.requires.0 c.requires.1 c.opened-c.ensures c.start-st.ensures.0 in
    record { walking = b.walking; fair = c.start-st.ensures.1; run = b.run }

pub returns-in_err-next : goal.returns-in_err-next
returns-in_err-next c =
    let q = err_from_is_err_and c.from_residual.result c.from_residual.ensures.1 in
    let m = mapped_err _ c.check-tried.result c.map_err.result c.in_err-next.field-0.0 c.map_err.ensures.cases c.in_err-next.was in
    let told : Err c.in_err-next.field-0.0 ≡ refusal m.0.fault (c.loop-groups.st.sums.records + 1) m.0.field = search rules in
    let wrong = failed c.loop-groups.st c.form-rec.result c.check-tried.result m.0 m.1 c.check-tried.ensures.step in
    q.1 ∙ ap Err q.2 ∙ told
    ∙ ap (λ (x : Checked). x.answer) (sym (run_refused c.args.table.now c.loop-groups.c c.loop-groups.st c.loop-groups.invariant.walking.header (sym c.complete.ensures ∙ c.loop-groups-test.true) c.loop-groups.invariant.walking.inside c.form-rec.result m.0.fault m.0.field c.form-rec.ensures wrong) ∙ c.loop-groups.invariant.run)

pub loop-groups-smaller : goal.loop-groups-smaller
loop-groups-smaller c =
    let ok : c.check-tried.result ≡ Ok c.in_ok-next.next = mapped_ok _ _ _ _ c.map_err.ensures.cases c.in_ok-next.was in
    let p = passed c.loop-groups.st c.in_ok-next.next c.form-rec.result c.check-tried.result ok c.check-tried.ensures.step in
    let s = step_by_lem c.args.table.now c.loop-groups.c c.loop-groups.st c.loop-groups.invariant.walking.header (sym c.complete.ensures ∙ c.loop-groups-test.true) c.loop-groups.invariant.walking.inside c.form-rec.result c.in_ok-next.next c.advance-c.result c.form-rec.ensures p.0 p.1 c.advance-c.ensures in
    omega (arith, s.fewer)

pub loop-groups-preserved : goal.loop-groups-preserved
loop-groups-preserved c =
    let ok : c.check-tried.result ≡ Ok c.in_ok-next.next = mapped_ok _ _ _ _ c.map_err.ensures.cases c.in_ok-next.was in
    let p = passed c.loop-groups.st c.in_ok-next.next c.form-rec.result c.check-tried.result ok c.check-tried.ensures.step in
    let s = step_by_lem c.args.table.now c.loop-groups.c c.loop-groups.st c.loop-groups.invariant.walking.header (sym c.complete.ensures ∙ c.loop-groups-test.true) c.loop-groups.invariant.walking.inside c.form-rec.result c.in_ok-next.next c.advance-c.result c.form-rec.ensures p.0 p.1 c.advance-c.ensures in
    record {
      walking = walking_on c.loop-groups.invariant.walking s;
      fair = IfOk-at_ok Fair ok c.check-tried.ensures.fair;
      run = sym s.run ∙ c.loop-groups.invariant.run;
    }

pub returns : goal.returns
returns c = sym (run_granted c.args.table.now c.loop-groups.c c.loop-groups.st (sym c.complete.ensures ∙ c.loop-groups-test.false)) ∙ ap (λ (x : Checked). x.answer) c.loop-groups.invariant.run
