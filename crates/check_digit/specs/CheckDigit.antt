-- The check digit, by the paper's weights and by groups of three digits. A group is the number that its digits write.
use Rattle.std.specs.Prelude.{ℕ, zero, suc, ◌+◌, ◌-◌, ◌*◌, ◌/◌, ◌%◌, Bool, List, [], ◌∷◌, eqb}
use Rattle.text.specs.Decimal.{digit_of}

-- "Check digit (ABA): weights 3, 7, 1, 3, 7, 1, 3, 7 on the eight digits; the digit that brings the sum to a multiple of ten."
abbrev pub weights : List ℕ
weights = 3 ∷ 7 ∷ 1 ∷ 3 ∷ 7 ∷ 1 ∷ 3 ∷ 7 ∷ []

unfoldable pub weighed : List ℕ → List ℕ → ℕ
weighed [] bs = 0
weighed (w ∷ ws) [] = 0
weighed (w ∷ ws) (b ∷ bs) = w * digit_of b + weighed ws bs

abbrev pub check_digit : List ℕ → ℕ
check_digit bs = (10 - weighed weights bs % 10) % 10

-- "each 3 times the first digit plus 7 times the second plus the third, remainder by ten"
unfoldable pub group_sum : ℕ → ℕ
group_sum k = (3 * (k / 100) + 7 * (k / 10 % 10) + k % 10) % 10

unfoldable pub sums_from : ℕ → ℕ → List ℕ
sums_from k zero = []
sums_from k (suc n) = group_sum k ∷ sums_from (suc k) n

-- "one table of a thousand entries"
unfoldable pub group_sums : List ℕ
group_sums = sums_from 0 1000

-- "The three groups of a good number sum to a multiple of ten", of a number with nine digits
abbrev pub balanced : ℕ → Bool
balanced n = eqb ((group_sum (n / 1000000) + group_sum (n / 1000 % 1000) + group_sum (n % 1000)) % 10) 0
