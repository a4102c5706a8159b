use Rattle.mend_file.proofs.PutLaws.{FillersLeft}
use Rattle.mend_file.proofs.renewing.put_fillers.Given as goal

abbrev pub invariant-loop : goal.invariant-loop
invariant-loop l = FillersLeft l.way l.initial.mended l.fn.from l.fn.count l.mended l.to l.counter
