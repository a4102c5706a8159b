use Rattle.recall_close.proofs.CloseLaws.{Filling}
use Rattle.view.specs.View.{fillers_after, filler_record}
use mathlib.Core.Path.{◌≡◌}
use Rattle.recall_close.proofs.end_file.Given as goal

abbrev pub invariant-loop-so_far : goal.invariant-loop-so_far
invariant-loop-so_far l = Filling l.way l.initial.file l.initial.so_far l.file l.so_far × (l.filler ≡ filler_record)

abbrev pub decreases-loop-so_far : goal.decreases-loop-so_far
decreases-loop-so_far l = fillers_after l.so_far.records
