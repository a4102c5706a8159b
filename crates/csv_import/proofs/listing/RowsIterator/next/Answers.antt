use Rattle.std.proofs.Common.{◌≤◌, rules, arith, length}
use Rattle.csv_import.proofs.WalkLaws.{next_passed, line_ahead, rows_none}
use Rattle.csv_import.proofs.listing.RowsIterator.next.Goals as goal

pub returns-then-is_empty-clause-steps : goal.returns-then-is_empty-clause-steps
returns-then-is_empty-clause-steps c =
    let none : length c.args.self.now.rest.now ≤ 0 = search rules in
    let e = rows_none c.args.self.now.bank.now c.args.self.now.rest.now c.args.self.now.number none in
    (e, e)

pub placed-line-requires : goal.placed-line-requires
placed-line-requires c =
    let some : 1 ≤ length c.args.self.now.rest.now = search rules in
    next_passed c.args.self.now.rest.now some c.args.self.now.number c.args.self.now.right

pub slice_bounds-self-count : goal.slice_bounds-self-count
slice_bounds-self-count c =
    let some : 1 ≤ length c.args.self.now.rest.now = search rules in
    (line_ahead c.args.self.now.rest.now some c.args.self.now.bank.now c.args.self.now.number c.placed-line.result.size c.args.self.now.right c.placed-line.ensures.1).inside.1

pub slice_bounds-self-start : goal.slice_bounds-self-start
slice_bounds-self-start c =
    let some : 1 ≤ length c.args.self.now.rest.now = search rules in
    (line_ahead c.args.self.now.rest.now some c.args.self.now.bank.now c.args.self.now.number c.placed-line.result.size c.args.self.now.right c.placed-line.ensures.1).inside.1

pub invariant_of-self : goal.invariant_of-self
invariant_of-self c =
    let some : 1 ≤ length c.args.self.now.rest.now = search rules in
    let a = line_ahead c.args.self.now.rest.now some c.args.self.now.bank.now c.args.self.now.number c.placed-line.result.size c.args.self.now.right c.placed-line.ensures.1 in
    record { right = a.right; few = omega (arith, a.inside.0, a.rest, c.args.self.now.few) }

pub returns-clause-steps : goal.returns-clause-steps
returns-clause-steps c =
    let some : 1 ≤ length c.args.self.now.rest.now = search rules in
    let a = line_ahead c.args.self.now.rest.now some c.args.self.now.bank.now c.args.self.now.number c.placed-line.result.size c.args.self.now.right c.placed-line.ensures.1 in
    rw c.placed-line.ensures.0 a.rows

pub returns-clause-goes : goal.returns-clause-goes
returns-clause-goes c =
    let some : 1 ≤ length c.args.self.now.rest.now = search rules in
    let a = line_ahead c.args.self.now.rest.now some c.args.self.now.bank.now c.args.self.now.number c.placed-line.result.size c.args.self.now.right c.placed-line.ensures.1 in
    search rules
