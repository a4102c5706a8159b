-- Flags held as bits: byte n has those of 8 n to 8 n + 7, the first of them in its lowest bit.
use Rattle.std.specs.Prelude.{ℕ, ◌/◌, ◌%◌, ◌^◌, Bool, List, eqb, get_or}

-- the flag of number k is set
unfoldable pub flag_at : List ℕ → ℕ → Bool
flag_at flags k = eqb (get_or flags (k / 8) 0 / 2 ^ (k % 8) % 2) 1
