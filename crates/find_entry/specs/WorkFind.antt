-- Records by their first byte.
use Rattle.std.specs.Prelude.{ℕ, ◌+◌, ◌-◌, List, [], ◌∷◌, eqb, get_or}
use Rattle.text.specs.Decimal.{pick}

-- how many records begin with byte b
unfoldable pub count_of : ℕ → List (List ℕ) → ℕ
count_of b [] = 0
count_of b (r ∷ rs) = pick (eqb (get_or r 0 0) b) 1 0 + count_of b rs

-- the index of record number k among those, both from 0; the number of all where there is none
unfoldable pub nth_of : ℕ → ℕ → List (List ℕ) → ℕ
nth_of b k [] = 0
nth_of b k (r ∷ rs) = pick (eqb (get_or r 0 0) b) (pick (eqb k 0) 0 (1 + nth_of b (k - 1) rs)) (1 + nth_of b k rs)
