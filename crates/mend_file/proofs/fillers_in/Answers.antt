use Rattle.std.proofs.Common.{◌∙◌, ap, ◌/◌, ◌-◌, length}
use Rattle.mend_file.proofs.WholeLaws.{fillers_many}
use Rattle.mend_file.proofs.fillers_in.Goals as goal

pub returns : goal.returns
returns c = ap (λ w. length c.args.file.now / w - c.args.before - 1) c.record_bytes.ensures ∙ fillers_many c.args.way c.args.file.now c.args.before c.requires
