use Rattle.std.proofs.Common.{◌≡◌, ◌++◌, length, drop}
use Rattle.text.specs.Decimal.{render}
use Rattle.text.proofs.put_number.Given as goal

abbrev pub invariant-loop-i : goal.invariant-loop-i
invariant-loop-i l = render l.i l.left ++ drop l.i l.s ≡ render (length l.initial.s) l.n
