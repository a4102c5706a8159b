use Rattle.recall_close.specs.WorkBits.{flag_at}
use mathlib.Core.Path.{refl}
use Rattle.recall_close.proofs.bits.is_set.Goals as goal

pub returns : goal.returns
unfolding flag_at
returns c = refl
