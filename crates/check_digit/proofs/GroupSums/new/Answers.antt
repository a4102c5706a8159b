use Rattle.check_digit.specs.CheckDigit.{group_sum, sums_from, group_sums}
use mathlib.Core.Path.{refl}
use Rattle.check_digit.proofs.GroupSums.new.Goals as goal

pub invariant_of-result : goal.invariant_of-result
unfolding group_sum sums_from group_sums
invariant_of-result c = record { right = refl }
