use Rattle.std.proofs.Common.{length}
use Rattle.mend_file.proofs.TurnLaws.{Judging}
use Rattle.mend_file.proofs.judging.judged.Given as goal

abbrev pub invariant-loop-i : goal.invariant-loop-i
invariant-loop-i l = Judging l.way l.file l.st l.last (length l.yielded)
