use Rattle.std.proofs.Common.{length}
use Rattle.mend_file.proofs.ListLaws.{Sizing}
use Rattle.mend_file.proofs.walked.Given as goal

abbrev pub invariant-loop-raw : goal.invariant-loop-raw
invariant-loop-raw l = Sizing l.fn.way l.file l.passed.sums l.passed.header (length l.yielded) l.listed.rows l.listed.bytes
