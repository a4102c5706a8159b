-- Two entry rows and their lines, byte by byte.
-- Assumes nothing.
use Prim.Native.Nat.{ℕ}
use mathlib.Core.Path.{◌≡◌, refl}
use mathlib.Core.List.{List, [], ◌∷◌}
use Rattle.csv_export.specs.Quoting.{trimmed, doubled, unpadded}
use Rattle.csv_export.specs.Lining.{comma_line, line_of_row}

-- "22","061000104","ACCOUNT","2000.00","ID","NAME"
abbrev plain_row : List ℕ
plain_row = 50 ∷ 50 ∷ 48 ∷ 54 ∷ 49 ∷ 48 ∷ 48 ∷ 48 ∷ 49 ∷ 48 ∷ 52 ∷ 65 ∷ 67 ∷ 67 ∷ 79 ∷ 85 ∷ 78 ∷ 84 ∷ 32 ∷ 32 ∷ 32 ∷ 32
    ∷ 32 ∷ 32 ∷ 32 ∷ 32 ∷ 32 ∷ 32 ∷ 48 ∷ 48 ∷ 48 ∷ 48 ∷ 50 ∷ 48 ∷ 48 ∷ 48 ∷ 48 ∷ 48 ∷ 73 ∷ 68 ∷ 32 ∷ 32 ∷ 32 ∷ 32
    ∷ 32 ∷ 32 ∷ 32 ∷ 32 ∷ 32 ∷ 32 ∷ 32 ∷ 32 ∷ 32 ∷ 78 ∷ 65 ∷ 77 ∷ 69 ∷ 32 ∷ 32 ∷ 32 ∷ 32 ∷ 32 ∷ 32 ∷ 32 ∷ 32 ∷ 32
    ∷ 32 ∷ 32 ∷ 32 ∷ 32 ∷ 32 ∷ 32 ∷ 32 ∷ 32 ∷ 32 ∷ 32 ∷ 32 ∷ 48 ∷ 48 ∷ 54 ∷ 49 ∷ 48 ∷ 48 ∷ 48 ∷ 49 ∷ 48 ∷ 48 ∷ 48
    ∷ 48 ∷ 48 ∷ 48 ∷ 48 ∷ 49 ∷ []

plain_line : line_of_row plain_row ≡ 34 ∷ 50 ∷ 50 ∷ 34 ∷ 44 ∷ 34 ∷ 48 ∷ 54 ∷ 49 ∷ 48 ∷ 48 ∷ 48 ∷ 49 ∷ 48 ∷ 52 ∷ 34 ∷ 44 ∷ 34 ∷ 65 ∷ 67 ∷ 67 ∷ 79
    ∷ 85 ∷ 78 ∷ 84 ∷ 34 ∷ 44 ∷ 34 ∷ 50 ∷ 48 ∷ 48 ∷ 48 ∷ 46 ∷ 48 ∷ 48 ∷ 34 ∷ 44 ∷ 34 ∷ 73 ∷ 68 ∷ 34 ∷ 44 ∷ 34 ∷ 78
    ∷ 65 ∷ 77 ∷ 69 ∷ 34 ∷ 13 ∷ 10 ∷ []
unfolding trimmed doubled unpadded comma_line
plain_line = refl

-- "32","061000104","12 3-4","0.07","","PAT ""P"", INC"
abbrev quoting_row : List ℕ
quoting_row = 51 ∷ 50 ∷ 48 ∷ 54 ∷ 49 ∷ 48 ∷ 48 ∷ 48 ∷ 49 ∷ 48 ∷ 52 ∷ 49 ∷ 50 ∷ 32 ∷ 51 ∷ 45 ∷ 52 ∷ 32 ∷ 32 ∷ 32 ∷ 32 ∷ 32
    ∷ 32 ∷ 32 ∷ 32 ∷ 32 ∷ 32 ∷ 32 ∷ 48 ∷ 48 ∷ 48 ∷ 48 ∷ 48 ∷ 48 ∷ 48 ∷ 48 ∷ 48 ∷ 55 ∷ 32 ∷ 32 ∷ 32 ∷ 32 ∷ 32 ∷ 32
    ∷ 32 ∷ 32 ∷ 32 ∷ 32 ∷ 32 ∷ 32 ∷ 32 ∷ 32 ∷ 32 ∷ 80 ∷ 65 ∷ 84 ∷ 32 ∷ 34 ∷ 80 ∷ 34 ∷ 44 ∷ 32 ∷ 73 ∷ 78 ∷ 67 ∷ 32
    ∷ 32 ∷ 32 ∷ 32 ∷ 32 ∷ 32 ∷ 32 ∷ 32 ∷ 32 ∷ 32 ∷ 32 ∷ 32 ∷ 48 ∷ 48 ∷ 54 ∷ 49 ∷ 48 ∷ 48 ∷ 48 ∷ 49 ∷ 48 ∷ 48 ∷ 48
    ∷ 48 ∷ 48 ∷ 48 ∷ 48 ∷ 49 ∷ []

quoting_line : line_of_row quoting_row ≡ 34 ∷ 51 ∷ 50 ∷ 34 ∷ 44 ∷ 34 ∷ 48 ∷ 54 ∷ 49 ∷ 48 ∷ 48 ∷ 48 ∷ 49 ∷ 48 ∷ 52 ∷ 34 ∷ 44 ∷ 34 ∷ 49 ∷ 50 ∷ 32 ∷ 51
    ∷ 45 ∷ 52 ∷ 34 ∷ 44 ∷ 34 ∷ 48 ∷ 46 ∷ 48 ∷ 55 ∷ 34 ∷ 44 ∷ 34 ∷ 34 ∷ 44 ∷ 34 ∷ 80 ∷ 65 ∷ 84 ∷ 32 ∷ 34 ∷ 34 ∷ 80
    ∷ 34 ∷ 34 ∷ 44 ∷ 32 ∷ 73 ∷ 78 ∷ 67 ∷ 34 ∷ 13 ∷ 10 ∷ []
unfolding trimmed doubled unpadded comma_line
quoting_line = refl
