-- Lists of rows: one behind the other, and cut apart again. Nothing here knows of payment files.
use Rattle.std.specs.Prelude.{ℕ, zero, suc, ◌+◌, ◌-◌, List, [], ◌∷◌, ◌++◌, length, take, drop}
use Rattle.text.specs.Decimal.{render}

-- columns a to b of a record, counted from 1, both included
abbrev pub columns : ℕ → ℕ → List ℕ → List ℕ
columns a b r = take (b + 1 - a) (drop (a - 1) r)

-- the rows one behind the other, with nothing between them
unfoldable pub joined : List (List ℕ) → List ℕ
joined [] = []
joined (r ∷ rs) = r ++ joined rs

-- the first k rows of w bytes each
unfoldable pub rows : ℕ → ℕ → List ℕ → List (List ℕ)
rows w zero xs = []
rows w (suc k) xs = take w xs ∷ rows w k (drop w xs)

-- fields of these widths, from the left
unfoldable pub cut : List ℕ → List ℕ → List (List ℕ)
cut [] xs = []
cut (w ∷ ws) xs = take w xs ∷ cut ws (drop w xs)

-- rows behind their count, which is written in c digits
abbrev pub section : ℕ → List (List ℕ) → List ℕ
section c rs = render c (length rs) ++ joined rs
