use Rattle.csv_entry.proofs.EntryLaws.{width_is}
use Rattle.csv_entry.proofs.entries.width.Goals as goal

pub returns : goal.returns
returns c = width_is c.args.k c.requires.0 c.requires.1
