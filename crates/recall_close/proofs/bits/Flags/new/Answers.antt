use Rattle.recall_close.proofs.BitLaws.{no_flag}
use Rattle.recall_close.proofs.bits.Flags.new.Goals as goal

pub returns : goal.returns
returns c = no_flag 125000
