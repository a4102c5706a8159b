use Rattle.std.proofs.Common.{rules}
use Rattle.funds.proofs.WalkLaws.{none_left, inside, sum_fits, number_fits, walked_on, row_left, fewer_left}
use Rattle.funds.proofs.filling.RowsIterator.next.Goals as goal

pub returns-then-i-self-clause-steps : goal.returns-then-i-self-clause-steps
returns-then-i-self-clause-steps c = none_left c.args.self.now.walked c.nth-i.result c.nth-i.ensures (rw c.record_bytes.ensures at c.if-i-self.true)

pub control_credit-requires : goal.control_credit-requires
control_credit-requires c = inside c.args.self.now.walked c.nth-i.result c.nth-i.ensures (rw c.record_bytes.ensures at c.if-i-self.false)

pub overflow_add-self : goal.overflow_add-self
overflow_add-self c = rw c.control_credit.ensures (record { fits = sum_fits c.args.self.now.walked c.nth-i.result c.nth-i.ensures (rw c.record_bytes.ensures at c.if-i-self.false) })

pub overflow_add-self-2 : goal.overflow_add-self-2
overflow_add-self-2 c = record { fits = number_fits c.args.self.now.walked c.nth-i.result c.nth-i.ensures (rw c.record_bytes.ensures at c.if-i-self.false) }

pub invariant_of-self : goal.invariant_of-self
invariant_of-self c = record { walked = rw c.control_credit.ensures (walked_on c.args.self.now.walked c.nth-i.result c.nth-i.ensures (rw c.record_bytes.ensures at c.if-i-self.false)) }

pub returns-clause-steps : goal.returns-clause-steps
returns-clause-steps c = rw c.control_credit.ensures (row_left c.args.self.now.walked c.nth-i.result c.nth-i.ensures (rw c.record_bytes.ensures at c.if-i-self.false))

pub returns-clause-goes : goal.returns-clause-goes
returns-clause-goes c =
    let fewer = rw (← c.control_credit.ensures) at (fewer_left c.args.self.now.walked c.nth-i.result c.nth-i.ensures (rw c.record_bytes.ensures at c.if-i-self.false)) in
    search rules
