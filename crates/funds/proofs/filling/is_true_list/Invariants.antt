use Rattle.std.proofs.Common.{◌≡◌}
use Rattle.funds.specs.Funds.{begins_with, true_list}
use Rattle.funds.specs.WorkRows.{left_of}
use Rattle.funds.proofs.filling.is_true_list.Given as goal

abbrev pub invariant-loop-row : goal.invariant-loop-row
invariant-loop-row l =
    (goal.iterator-loop-row).can_next l.row-iterator × (goal.iterator-loop-row).is_finite l.row-iterator
    × (begins_with (left_of l.row-iterator.way l.row-iterator.file.now l.row-iterator.seen l.row-iterator.credits) l.held ≡ true_list l.fn.way l.fn.file l.fn.rows)
