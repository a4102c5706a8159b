use Rattle.std.proofs.Common.{sym, ◌∙◌, arith}
use Rattle.csv_entry.proofs.AmountLaws.{Parted, parted}
use Rattle.csv_entry.proofs.entries.amount.Goals as goal
use Rattle.csv_entry.proofs.entries.amount.Goals.{After-number}

parts : (c : After-number) → Parted c.args.p.now c.in_ok-point.dollars.now c.in_ok-front.cents.now c.capped-dollars.result
parts c =
    let front = c.in_ok-front.ensures.cases in
    parted _ _ _ _ _ _ front.0 front.1 front.2 c.in_ok-point.ensures.cases.0 c.if-point-ne46.false (sym c.is_empty.ensures ∙ c.if-is_empty.false)
    (sym c.digits.ensures ∙ c.if-not-digits.false) (sym c.digits-else-not-digits.ensures ∙ c.if-not-digits-2.false) c.capped-dollars.ensures
    c.if-dollars-gt99999999.false

pub overflow_add-result : goal.overflow_add-result
overflow_add-result c = record { fits = omega (arith, (parts c).small, c.number.ensures) }

pub returns-clause-right : goal.returns-clause-right
returns-clause-right c = (parts c).right

pub returns-clause-cents : goal.returns-clause-cents
returns-clause-cents c = rw c.number.ensures ((parts c).sum, (parts c).small)
