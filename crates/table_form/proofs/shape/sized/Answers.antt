use Rattle.std.proofs.Common.{arith}
use Rattle.table_form.proofs.ShapeLaws.{entries_count, counted_by, then_sized}
use Rattle.table_form.proofs.shape.sized.Goals as goal

pub returns-in_err-addenda : goal.returns-in_err-addenda
returns-in_err-addenda c =
    rw c.from_residual-in_err-addenda.ensures (λ e. omega (arith, e, c.in_err-addenda.ensures, c.in_ok-batches.ensures.0, entries_count c.args.table.now c.in_ok-batches.batches c.in_ok-entries.entries c.in_ok-batches.ensures.0 c.in_ok-entries.ensures.0))

pub returns : goal.returns
returns c = rw c.then_some.ensures (then_sized c.args.table.now _ (counted_by c.args.table.now c.in_ok-batches.batches c.in_ok-entries.entries c.in_ok-addenda.addenda (c.in_ok-batches.ensures.0, c.in_ok-batches.ensures.1) (c.in_ok-entries.ensures.0, c.in_ok-entries.ensures.1) (c.in_ok-addenda.ensures.0, c.in_ok-addenda.ensures.1)))
