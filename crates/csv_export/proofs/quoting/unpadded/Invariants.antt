use Rattle.std.proofs.Common.{◌≡◌, length}
use Rattle.csv_export.specs.Quoting.{unpadded}
use Rattle.csv_export.proofs.quoting.unpadded.Given as goal

abbrev pub invariant-loop-rest : goal.invariant-loop-rest
invariant-loop-rest l = unpadded l.rest ≡ unpadded l.dollars

abbrev pub decreases-loop-rest : goal.decreases-loop-rest
decreases-loop-rest l = length l.rest
