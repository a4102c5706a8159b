use Rattle.std.proofs.Common.{◌+◌, length}
use Rattle.check_record.specs.Record.{raw_records}
use Rattle.mend_file.proofs.JudgeLaws.{Nines}
use Rattle.mend_file.proofs.judging.behind.Given as goal

abbrev pub invariant-loop-i : goal.invariant-loop-i
invariant-loop-i l = Nines (raw_records l.fn.way l.fn.file) (l.fn.before + 1) (length l.yielded)
