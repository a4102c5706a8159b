use Rattle.check_record.proofs.Laws.{fields_right_lem, fields_wrong, fields_end, right_is, wrong_is}
use Rattle.layout.specs.Fields.{first_field}
use Rattle.check_record.specs.Verdict.{wrong_of}
use Rattle.std.proofs.Common.{ℕ, Err, rules, is_ok}
use Rattle.std.proofs.lemmas.Result.{err_from_is_err_and}
use native.Mathlib.Omega.{arith}
use Prim.Native.Nat.{◌+◌}
use mathlib.Core.Path.{sym, ◌∙◌, ap}
use Rattle.check_record.proofs.step.fields.Goals as goal

pub returns-in_err-map_err : goal.returns-in_err-map_err
returns-in_err-map_err c =
    let p = err_from_is_err_and c.from_residual.result c.from_residual.ensures.1 in
    let q = wrong_is c.field.result c.map_err.result c.in_err-map_err.field-0.0 (c.first_field.result + c.loop-k.k) (λ f d e. search rules) c.map_err.ensures.cases c.in_err-map_err.was in
    let e = q.2 ∙ ap (λ (n : ℕ). wrong_of q.0 (n + c.loop-k.k)) c.first_field.ensures in
    rw (p.1, p.2) (ap Err e ∙ sym (fields_wrong c.args.line c.loop-k.k c.args.sums c.args.header.now c.args.rec.now q.0 (omega arith) (sym c.field.ensures ∙ q.1)) ∙ c.loop-k.invariant)

pub loop-k-preserved : goal.loop-k-preserved
loop-k-preserved c = sym (fields_right_lem c.args.line c.loop-k.k c.args.sums c.args.header.now c.args.rec.now (omega arith) (sym c.field.ensures ∙ right_is c.field.result (sym c.map_err.ensures.variant ∙ ap is_ok c.in_ok-map_err.was))) ∙ c.loop-k.invariant

pub returns : goal.returns
returns c = sym (fields_end c.args.line c.loop-k.k (first_field c.args.line + c.loop-k.k) c.args.sums c.args.header.now c.args.rec.now (omega arith)) ∙ c.loop-k.invariant
