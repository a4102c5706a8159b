use Rattle.std.specs.Prelude.{Err}
use Rattle.std.proofs.Common.{◌≤◌, sym, ◌∙◌, ap, arith, length}
use Rattle.std.proofs.lemmas.Result.{err_from_is_err_and}
use Rattle.csv_cells.specs.Cells.{lines_in}
use Rattle.csv_entry.specs.Import.{bank_in}
use Rattle.csv_import.proofs.TableLaws.{plain_rows}
use Rattle.csv_import.proofs.Steps.{entries_as, step_refused, batch_step, entry_step, control_step, last_step, filler_at, filler_step, granted_at}
use Rattle.csv_import.proofs.Judging.{file_refused, file_passed}
use Rattle.csv_import.proofs.judge.judged.Goals as goal

pub returns-in_err-opened : goal.returns-in_err-opened
returns-in_err-opened c =
    let q = err_from_is_err_and c.from_residual.result c.from_residual.ensures.1 in
    let few : length (lines_in c.args.list.bytes.now) ≤ 999996 = omega (arith, c.requires, c.args.list.counted) in
    q.1 ∙ ap Err q.2
    ∙ file_refused c.args.filerow.now c.args.batchrow.now c.args.list.bytes.now c.told-filerow c.told-batchrow c.args.list.right (omega (arith, few)) few c.start.result c.start.ensures.0 c.start.ensures.1 c.file_header.result c.in_err-opened.field-0.0 c.file_header.ensures c.in_err-opened.ensures.refused

pub behind-requires-2 : goal.behind-requires-2
behind-requires-2 c =
    let few : length (lines_in c.args.list.bytes.now) ≤ 999996 = omega (arith, c.requires, c.args.list.counted) in
    let o = file_passed c.args.filerow.now c.args.batchrow.now c.args.list.bytes.now c.told-filerow c.told-batchrow c.args.list.right (omega (arith, few)) few c.start.result c.start.ensures.0 c.start.ensures.1 c.file_header.result c.in_ok-opened.opened c.file_header.ensures c.in_ok-opened.ensures.passed in
    (o.at.fair, omega (arith, o.at.few))

pub returns-in_err-st : goal.returns-in_err-st
returns-in_err-st c =
    let q = err_from_is_err_and c.from_residual-in_err-st.result c.from_residual-in_err-st.ensures.1 in
    let few : length (lines_in c.args.list.bytes.now) ≤ 999996 = omega (arith, c.requires, c.args.list.counted) in
    let o = file_passed c.args.filerow.now c.args.batchrow.now c.args.list.bytes.now c.told-filerow c.told-batchrow c.args.list.right (omega (arith, few)) few c.start.result c.start.ensures.0 c.start.ensures.1 c.file_header.result c.in_ok-opened.opened c.file_header.ensures c.in_ok-opened.ensures.passed in
    q.1 ∙ ap Err q.2 ∙ step_refused o.at c.batch_header.result c.in_err-st.field-0.0 c.batch_header.ensures c.in_err-st.ensures.refused

pub loop-row-init : goal.loop-row-init
loop-row-init c =
    let few : length (lines_in c.args.list.bytes.now) ≤ 999996 = omega (arith, c.requires, c.args.list.counted) in
    let o = file_passed c.args.filerow.now c.args.batchrow.now c.args.list.bytes.now c.told-filerow c.told-batchrow c.args.list.right (omega (arith, few)) few c.start.result c.start.ensures.0 c.start.ensures.1 c.file_header.result c.in_ok-opened.opened c.file_header.ensures c.in_ok-opened.ensures.passed in
    let e = batch_step c.batch_header.result c.told-batchrow (plain_rows (bank_in c.args.batchrow.now) 1 (lines_in c.args.list.bytes.now) c.args.list.right) o c.batch_header.ensures c.in_ok-st.ensures.passed in
    rw (c.into_iter-row-iterator.ensures.into_iter_gives, c.rows-row-items.ensures.rest, c.rows-row-items.ensures.bank, c.rows-row-items.ensures.first, c.chunk.ensures) e

pub loop-row-preserved : goal.loop-row-preserved
loop-row-preserved c = entry_step c.entry.result (entries_as c.in-Some.ensures.steps c.loop-row.invariant) c.entry.ensures c.in_ok-st-2.ensures.passed

pub behind-requires-4 : goal.behind-requires-4
behind-requires-4 c =
    let b = control_step c.batch_control.result (entries_as c.in-None.ensures.steps.0 c.loop-row.invariant) c.batch_control.ensures c.in_ok-st-3.ensures.passed in
    (b.at.fair, omega (arith, b.at.few))

pub returns-in_err-st-4 : goal.returns-in_err-st-4
returns-in_err-st-4 c =
    let q = err_from_is_err_and c.from_residual-in_err-st-4.result c.from_residual-in_err-st-4.ensures.1 in
    let b = control_step c.batch_control.result (entries_as c.in-None.ensures.steps.0 c.loop-row.invariant) c.batch_control.ensures c.in_ok-st-3.ensures.passed in
    q.1 ∙ ap Err q.2 ∙ step_refused b.at c.file_control.result c.in_err-st-4.field-0.0 c.file_control.ensures c.in_err-st-4.ensures.refused

pub loop-groups-init : goal.loop-groups-init
loop-groups-init c =
    let b = control_step c.batch_control.result (entries_as c.in-None.ensures.steps.0 c.loop-row.invariant) c.batch_control.ensures c.in_ok-st-3.ensures.passed in
    last_step c.file_control.result b c.file_control.ensures c.in_ok-st-4.ensures.passed

pub behind-requires-in-loop-groups : goal.behind-requires-in-loop-groups
behind-requires-in-loop-groups c =
    let a = filler_at c.loop-groups.invariant (sym c.complete.ensures ∙ c.loop-groups-test.true) in
    (a.fair, omega (arith, a.few))

pub returns-in_err-st-5 : goal.returns-in_err-st-5
returns-in_err-st-5 c =
    let q = err_from_is_err_and c.from_residual-in_err-st-5.result c.from_residual-in_err-st-5.ensures.1 in
    q.1 ∙ ap Err q.2 ∙ step_refused (filler_at c.loop-groups.invariant (sym c.complete.ensures ∙ c.loop-groups-test.true)) c.filler.result c.in_err-st-5.field-0.0 c.filler.ensures c.in_err-st-5.ensures.refused

pub loop-groups-smaller : goal.loop-groups-smaller
loop-groups-smaller c =
    let a = filler_at c.loop-groups.invariant (sym c.complete.ensures ∙ c.loop-groups-test.true) in
    let s = filler_step c.loop-groups.invariant c.filler.result (sym c.complete.ensures ∙ c.loop-groups-test.true) c.filler.ensures c.in_ok-st-5.ensures.passed in
    omega (arith, a.few, s.1)

pub loop-groups-preserved : goal.loop-groups-preserved
loop-groups-preserved c =
    (filler_step c.loop-groups.invariant c.filler.result (sym c.complete.ensures ∙ c.loop-groups-test.true) c.filler.ensures c.in_ok-st-5.ensures.passed).0

pub returns : goal.returns
returns c = granted_at c.loop-groups.invariant (sym c.complete.ensures ∙ c.loop-groups-test.false)
