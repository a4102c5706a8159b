use Rattle.std.proofs.Common.{arith}
use Rattle.mend_file.proofs.FillerLaws.{none_bytes, some_bytes}
use Rattle.mend_file.proofs.fillers_listed.Goals as goal

pub returns-then-old-new : goal.returns-then-old-new
returns-then-old-new c = (none_bytes c.args.old c.args.new c.if-old-new.true, omega arith)

pub returns-else-old-new : goal.returns-else-old-new
returns-else-old-new c = (some_bytes c.args.old c.args.new c.if-old-new.false, omega arith)
