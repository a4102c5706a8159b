use mathlib.Core.Path.{refl}
use lib.ListN.{length-set}
use Rattle.recall_close.proofs.BitLaws.{set_flag}
use Rattle.recall_close.proofs.bits.set.Goals as goal

pub returns-clause-long : goal.returns-clause-long
returns-clause-long c = rw length-set refl

pub returns-clause-set : goal.returns-clause-set
returns-clause-set c = set_flag c.args.flags.now c.args.k c.requires
