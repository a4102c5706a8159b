-- Numbers written in decimal digits. A byte is a number below 256; '0' to '9' are 48 to 57. Nothing here knows of payment files.
use Rattle.std.specs.Prelude.{ℕ, zero, suc, ◌+◌, ◌-◌, ◌*◌, ◌/◌, ◌%◌, Bool, true, false, ◌&&◌, List, [], ◌∷◌, ◌++◌, leb}

-- the one where the test holds, else the other
abbrev pub pick {ℓ} : {A : Type ℓ} → Bool → A → A → A
pick true a b = a
pick false a b = b

-- every byte passes the test
unfoldable pub every : (ℕ → Bool) → List ℕ → Bool
every p [] = true
every p (b ∷ bs) = p b && every p bs

-- '0' to '9'
abbrev pub is_digit : ℕ → Bool
is_digit b = leb 48 b && leb b 57

abbrev pub digits : List ℕ → Bool
digits bs = every is_digit bs

-- what a digit counts; any other byte counts 0
abbrev pub digit_of : ℕ → ℕ
digit_of b = pick (is_digit b) (b - 48) 0

-- the number that digits write, after a number n that stands before them
unfoldable pub value_from : ℕ → List ℕ → ℕ
value_from n [] = n
value_from n (b ∷ bs) = value_from (n * 10 + digit_of b) bs

abbrev pub value : List ℕ → ℕ
value bs = value_from 0 bs

-- the last w digits of n, with zeros in front: n in w columns, cut at the left
unfoldable pub render : ℕ → ℕ → List ℕ
render zero n = []
render (suc w) n = render w (n / 10) ++ ((48 + n % 10) ∷ [])
