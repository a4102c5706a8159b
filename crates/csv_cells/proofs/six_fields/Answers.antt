use Rattle.std.proofs.Common.{sym, ap, ◌∙◌, arith}
use Rattle.std.specs.Prelude.{is_some}
use Rattle.std.proofs.lemmas.Grind.{common_steps}
use Rattle.csv_cells.proofs.CellLaws.{found_open, found_apart, found_on, found_stands, found_size, found_texts}
use Rattle.csv_cells.proofs.six_fields.Goals as goal

pub returns-in_err-text-clause-stands : goal.returns-in_err-text-clause-stands
returns-in_err-text-clause-stands c = ap is_some c.from_residual.ensures ∙ found_open _ _ _ _ c.loop-k.invariant c.in_err-text.ensures.whole

pub returns-then-not-starts_with-clause-stands : goal.returns-then-not-starts_with-clause-stands
returns-then-not-starts_with-clause-stands c =
    found_apart _ _ _ _ c.loop-k.invariant _ c.in_ok-text.ensures.stop.0 c.loop-k-test.true (sym c.starts_with.ensures.value ∙ c.if-not-starts_with.true)

pub loop-k-preserved : goal.loop-k-preserved
loop-k-preserved c =
    found_on _ _ _ _ c.loop-k.invariant _ c.in_ok-text.ensures.stop.0 c.loop-k-test.true (sym c.starts_with.ensures.value ∙ c.if-not-starts_with.false)
    c.in_ok-text.ensures.whole (grind (arith, common_steps)) _ c.in_ok-text.ensures.text

pub returns-in_err-text-2-clause-stands : goal.returns-in_err-text-2-clause-stands
returns-in_err-text-2-clause-stands c = ap is_some c.from_residual-in_err-text-2.ensures ∙ found_open _ _ _ _ c.loop-k.invariant c.in_err-text-2.ensures.whole

pub returns-in_err-size-clause-stands : goal.returns-in_err-size-clause-stands
returns-in_err-size-clause-stands c =
    ap is_some c.from_residual-in_err-size.ensures
    ∙ c.in_err-size.ensures.stands
    ∙ found_stands _ _ _ _ c.loop-k.invariant _ c.in_ok-text-2.ensures.stop.0 (omega arith) c.in_ok-text-2.ensures.whole

pub returns-clause-stands : goal.returns-clause-stands
returns-clause-stands c =
    c.in_ok-size.ensures.stands
    ∙ found_stands _ _ _ _ c.loop-k.invariant _ c.in_ok-text-2.ensures.stop.0 (omega arith) c.in_ok-text-2.ensures.whole

pub returns-clause-size : goal.returns-clause-size
returns-clause-size c = c.in_ok-size.ensures.size ∙ found_size _ _ _ _ c.loop-k.invariant _ c.in_ok-text-2.ensures.stop.0 (omega arith)

pub returns-clause-texts : goal.returns-clause-texts
returns-clause-texts c = found_texts _ _ _ _ c.loop-k.invariant (omega arith) _ c.in_ok-text-2.ensures.text
