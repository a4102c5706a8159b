use Rattle.view.specs.View.{view_of}
use Rattle.funds.specs.Funds.{rows_of}
use Rattle.funds.specs.WorkRows.{left_of}
use Rattle.funds.proofs.WalkLaws.{Filling}
use Rattle.funds.proofs.filling.fill.Given as goal

abbrev pub invariant-loop-row : goal.invariant-loop-row
invariant-loop-row l =
    (goal.iterator-loop-row).can_next l.row-iterator × (goal.iterator-loop-row).is_finite l.row-iterator
    × Filling (rows_of (view_of l.fn.way l.fn.file)) l.initial.rows (left_of l.row-iterator.way l.row-iterator.file.now l.row-iterator.seen l.row-iterator.credits) l.put l.rows
