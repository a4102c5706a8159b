use Rattle.std.proofs.Common.{refl}
use Rattle.text.specs.Decimal.{value_from}
use Rattle.csv_entry.proofs.entries.capped.Goals as goal

pub loop-b-init : goal.loop-b-init
unfolding value_from
loop-b-init c = refl
