use Rattle.std.specs.Prelude.{Err}
use Rattle.std.proofs.Common.{◌≡◌, ◌+◌, ◌≤◌, rules, sym, ◌∙◌, ap, arith, length}
use Rattle.std.proofs.lemmas.Result.{err_from_is_err_and}
use Rattle.layout.specs.Answers.{answer_of}
use Rattle.layout.specs.Paper.{refusal}
use Rattle.check_record.specs.Verdict.{verdict_of}
use Rattle.table_write.proofs.PassLaws.{mapped_ok, mapped_err}
use Rattle.csv_import.proofs.WalkLaws.{counted_fewer, counted_wrong, counted_next, counted_end}
use Rattle.csv_import.proofs.listing.listed.Goals as goal

pub overflow_add-count : goal.overflow_add-count
overflow_add-count c =
    let some : 1 ≤ length c.loop-rest.rest.now = search rules in
    record { fits = omega (arith, counted_fewer c.loop-rest.invariant some) }

pub returns-in_err-size-clause-answer : goal.returns-in_err-size-clause-answer
returns-in_err-size-clause-answer c =
    let q = err_from_is_err_and c.from_residual.result c.from_residual.ensures.1 in
    let m = mapped_err _ c.tried-tried.result c.map_err.result c.in_err-size.field-0.0 c.map_err.ensures.cases c.in_err-size.was in
    let told : Err c.in_err-size.field-0.0 ≡ refusal m.0.fault (c.loop-rest.count + 1) m.0.field = search rules in
    let some : 1 ≤ length c.loop-rest.rest.now = search rules in
    ap answer_of (q.1 ∙ ap Err q.2) ∙ told ∙ counted_wrong c.loop-rest.invariant some m.0 (sym c.tried-tried.ensures.verdict ∙ ap verdict_of m.1)

pub slice_bounds-rest-count : goal.slice_bounds-rest-count
slice_bounds-rest-count c =
    let some : 1 ≤ length c.loop-rest.rest.now = search rules in
    (counted_next c.loop-rest.invariant some c.in_ok-size.size c.tried-tried.result (mapped_ok _ _ _ _ c.map_err.ensures.cases c.in_ok-size.was) c.tried-tried.ensures.verdict c.tried-tried.ensures.size).inside.1

pub slice_bounds-rest-start : goal.slice_bounds-rest-start
slice_bounds-rest-start c =
    let some : 1 ≤ length c.loop-rest.rest.now = search rules in
    (counted_next c.loop-rest.invariant some c.in_ok-size.size c.tried-tried.result (mapped_ok _ _ _ _ c.map_err.ensures.cases c.in_ok-size.was) c.tried-tried.ensures.verdict c.tried-tried.ensures.size).inside.1

pub loop-rest-smaller : goal.loop-rest-smaller
loop-rest-smaller c =
    let some : 1 ≤ length c.loop-rest.rest.now = search rules in
    (counted_next c.loop-rest.invariant some c.in_ok-size.size c.tried-tried.result (mapped_ok _ _ _ _ c.map_err.ensures.cases c.in_ok-size.was) c.tried-tried.ensures.verdict c.tried-tried.ensures.size).fewer

pub loop-rest-preserved : goal.loop-rest-preserved
loop-rest-preserved c =
    let some : 1 ≤ length c.loop-rest.rest.now = search rules in
    (counted_next c.loop-rest.invariant some c.in_ok-size.size c.tried-tried.result (mapped_ok _ _ _ _ c.map_err.ensures.cases c.in_ok-size.was) c.tried-tried.ensures.verdict c.tried-tried.ensures.size).counted

pub invariant_of-result : goal.invariant_of-result
invariant_of-result c =
    let none : length c.loop-rest.rest.now ≤ 0 = search rules in
    let e = counted_end c.loop-rest.invariant none in
    record { right = sym e.0; counted = e.1 }

pub returns-clause-answer : goal.returns-clause-answer
returns-clause-answer c =
    let none : length c.loop-rest.rest.now ≤ 0 = search rules in
    (counted_end c.loop-rest.invariant none).0
