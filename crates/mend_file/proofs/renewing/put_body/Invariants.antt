use Rattle.std.proofs.Common.{length}
use Rattle.mend_file.proofs.PutLaws.{Put}
use Rattle.mend_file.proofs.renewing.put_body.Given as goal

abbrev pub invariant-loop-i : goal.invariant-loop-i
invariant-loop-i l = Put l.fn.way l.file l.initial.mended l.passed.sums l.passed.header l.mended (length l.yielded)
