use lib.ListN.{length}
use Rattle.csv_import.proofs.WalkLaws.{Counted}
use Rattle.csv_import.proofs.listing.listed.Given as goal

abbrev pub invariant-loop-rest : goal.invariant-loop-rest
invariant-loop-rest l = Counted l.lines l.rest l.count

abbrev pub decreases-loop-rest : goal.decreases-loop-rest
decreases-loop-rest l = length l.rest
