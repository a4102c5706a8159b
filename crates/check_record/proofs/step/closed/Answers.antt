use Rattle.check_record.proofs.Ways.{closed_plain, closed_lined}
use mathlib.Core.Path.{◌∙◌}
use Rattle.check_record.proofs.step.closed.Goals as goal

pub returns-in-Plain : goal.returns-in-Plain
returns-in-Plain c = closed_plain c.args.way c.args.rec.now c.in-Plain.is c.requires

pub returns-in-Lined : goal.returns-in-Lined
returns-in-Lined c = c.ends_with.ensures.value ∙ closed_lined c.args.way c.args.rec.now c.in-Lined.is c.requires
