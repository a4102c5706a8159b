use Rattle.recall_close.proofs.CloseLaws.{Along}
use Rattle.recall_close.proofs.close_up.Given as goal

abbrev pub invariant-loop-i : goal.invariant-loop-i
invariant-loop-i l = Along l.way l.flags l.initial.file l.file l.walk l.i
