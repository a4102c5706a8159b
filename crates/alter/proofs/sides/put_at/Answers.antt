use Rattle.find_entry.proofs.Parts.{put_there}
use Rattle.alter.proofs.sides.put_at.Goals as goal

pub returns : goal.returns
returns c = put_there c.args.file.now c.args.at c.args.width c.args.n c.put_number.new.s (c.requires) c.put_number.ensures
