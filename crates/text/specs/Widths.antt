-- Widths of rows and fields.
use Rattle.std.specs.Prelude.{ℕ, ◌+◌, ◌≡◌, List, [], ◌∷◌, length}

-- every row has w bytes
abbrev pub AllLong : ℕ → List (List ℕ) → Type 0
AllLong w [] = Unit {0}
AllLong w (r ∷ rs) = (length r ≡ w) × AllLong w rs

-- all widths together
abbrev pub total : List ℕ → ℕ
total [] = 0
total (w ∷ ws) = w + total ws

-- as many fields as widths, and each of its own width
abbrev pub Wide : List ℕ → List (List ℕ) → Type 0
Wide [] [] = Unit {0}
Wide [] (f ∷ fs) = ⊥
Wide (w ∷ ws) [] = ⊥
Wide (w ∷ ws) (f ∷ fs) = (length f ≡ w) × Wide ws fs
