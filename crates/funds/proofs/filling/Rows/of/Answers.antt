use Rattle.funds.proofs.WalkLaws.{left_first}
use Rattle.funds.proofs.filling.Rows.of.Goals as goal

pub returns : goal.returns
returns c = left_first c.args.way c.args.file.now c.requires
