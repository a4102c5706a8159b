use Rattle.recall_close.proofs.MarkLaws.{Marking}
use Rattle.recall_close.proofs.marking.mark.Given as goal

abbrev pub invariant-loop-n : goal.invariant-loop-n
invariant-loop-n l = Marking l.numbers l.count l.flags l.n-index
