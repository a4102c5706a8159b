use Rattle.std.proofs.Common.{◌≡◌, length}
use Rattle.csv_export.specs.Quoting.{trimmed}
use Rattle.csv_export.proofs.quoting.trimmed.Given as goal

abbrev pub invariant-loop-rest : goal.invariant-loop-rest
invariant-loop-rest l = trimmed l.rest ≡ trimmed l.field

abbrev pub decreases-loop-rest : goal.decreases-loop-rest
decreases-loop-rest l = length l.rest
