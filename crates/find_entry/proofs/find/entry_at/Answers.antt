use Rattle.find_entry.proofs.Accepted.{entry_at_lem}
use Rattle.find_entry.proofs.find.entry_at.Goals as goal

pub returns : goal.returns
returns c = entry_at_lem c.args.way c.args.file.now c.args.k (c.requires) c.nth.result c.nth.ensures
