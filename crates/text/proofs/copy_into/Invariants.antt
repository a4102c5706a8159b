use Rattle.std.proofs.Common.{◌≡◌, ◌+◌, length, drop}
use Rattle.std.proofs.lemmas.List.Edits.{sets}
use Rattle.text.proofs.copy_into.Given as goal

abbrev pub invariant-loop-i : goal.invariant-loop-i
invariant-loop-i g l = (length l.to ≡ length l.initial.to) × (sets l.to (l.at + l.i) (drop l.i l.from) ≡ sets l.initial.to l.at l.from)
