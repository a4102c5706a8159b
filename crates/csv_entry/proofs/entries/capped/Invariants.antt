use Rattle.std.proofs.Common.{◌≡◌, ◌-◌, ◌^◌, take, min}
use Rattle.text.specs.Decimal.{value}
use Rattle.csv_entry.proofs.entries.capped.Given as goal

abbrev pub invariant-loop-b : goal.invariant-loop-b
invariant-loop-b l = l.n ≡ min (value (take l.b-index l.digits)) (2 ^ 64 - 1)
