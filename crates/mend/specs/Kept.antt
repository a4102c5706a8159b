-- What mending has no say in: the records that are neither controls nor fillers.
use Rattle.std.specs.Prelude.{ℕ, ◌||◌, List, [], ◌∷◌, ◌++◌, eqb}
use Rattle.text.specs.Decimal.{pick}
use Rattle.mend.specs.Mend.{type_of}

-- a record that begins with 8 or 9 is none of them
abbrev pub unless_control : List ℕ → List (List ℕ)
unless_control r = pick (eqb (type_of r) 56 || eqb (type_of r) 57) [] (r ∷ [])

-- all of them, in their order
unfoldable pub beside_controls : List (List ℕ) → List (List ℕ)
beside_controls [] = []
beside_controls (r ∷ rs) = unless_control r ++ beside_controls rs
