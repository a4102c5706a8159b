use Rattle.std.proofs.Common.{◌≡◌, take}
use Rattle.text.specs.Decimal.{value}
use Rattle.text.proofs.number.Given as goal

abbrev pub invariant-loop-b : goal.invariant-loop-b
invariant-loop-b l = l.n ≡ value (take l.b-index l.s)
