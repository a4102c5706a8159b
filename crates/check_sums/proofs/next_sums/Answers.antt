use Rattle.check_sums.proofs.SumLaws.{said_small}
use Rattle.check_sums.proofs.next_sums.Goals as goal

pub add_entry-requires : goal.add_entry-requires
add_entry-requires c = let small = said_small c.args.rec.now c.args.said c.requires.2 in (c.requires.0, c.requires.1, small.0, small.1)
