use Rattle.find_entry.proofs.Accepted.{found}
use Rattle.find_entry.proofs.find.locate.Goals as goal

pub returns : goal.returns
returns c = found c.args.way c.args.file.now c.args.k (c.requires) (record { entry = c.entry_at-entry.result; control = c.nth-control.result; last = c.nth-last.result }) c.entry_at-entry.ensures c.nth-control.ensures c.nth-last.ensures
