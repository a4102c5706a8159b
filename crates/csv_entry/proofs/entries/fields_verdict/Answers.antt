use Rattle.std.proofs.Common.{arith, sym}
use Rattle.std.proofs.lemmas.Result.{err_from_is_err_and}
use Rattle.csv_entry.proofs.EntryLaws.{tested_first, tested_wrong, tested_on, tested_all}
use Rattle.csv_entry.proofs.entries.fields_verdict.Goals as goal

pub loop-i-init : goal.loop-i-init
loop-i-init c = tested_first c.args.fields.now

pub returns-in_err-field_verdict : goal.returns-in_err-field_verdict
returns-in_err-field_verdict c =
    let p = err_from_is_err_and c.from_residual.result c.from_residual.ensures.1 in
    rw (p.1, p.2) (tested_wrong _ _ _ c.loop-i.invariant (omega (arith, c.told-fields)) _ c.in_err-field_verdict.ensures)

pub loop-i-preserved : goal.loop-i-preserved
loop-i-preserved c = tested_on _ _ _ c.loop-i.invariant (omega (arith, c.told-fields)) (sym c.in_ok-field_verdict.ensures)

pub returns : goal.returns
returns c = tested_all _ _ c.loop-i.invariant (omega (arith, c.told-fields))
