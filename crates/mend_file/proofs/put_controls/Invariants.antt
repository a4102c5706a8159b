use Rattle.std.proofs.Common.{length}
use Rattle.check_record.specs.Record.{raw_records}
use Rattle.mend_file.proofs.ListLaws.{ControlsLeft}
use Rattle.mend_file.proofs.put_controls.Given as goal

abbrev pub invariant-loop-i : goal.invariant-loop-i
invariant-loop-i l = ControlsLeft (raw_records l.fn.way l.file) (raw_records l.fn.way l.mended) l.before l.initial.list l.start l.list l.to (length l.yielded)
