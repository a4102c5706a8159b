-- A field table read at a place: inside it the row that stands there, behind it `no_row`; and every row fits.
use Prim.Native.Nat.{ℕ, zero, suc, ◌+◌, ◌-◌, ◌≤◌}
use native.Mathlib.Omega.{arith}
use mathlib.Core.Path.{◌≡◌, refl}
use mathlib.Core.Bool.{Bool, true, false, ◌&&◌}
use mathlib.Core.List.{List, [], ◌∷◌}
use borrow.Author.Tests.{leb-true}
use lib.Dec.{leb}
use lib.ListN.{length, get_or, take, drop, length-take, length-drop}
use Rattle.text.specs.Rows.{columns}
use Rattle.layout.specs.declared.Row.{Row}
use Rattle.layout.specs.declared.Line.{Line}
use Rattle.layout.specs.Fields.{rows_of, no_row}
use Rattle.layout.specs.WorkFits.{row_fits, kind_fits}

-- every row of a table fits: computed once for each table
abbrev pub all_fit : List Row → Bool
all_fit [] = true
all_fit (r ∷ rs) = row_fits r && all_fit rs

and_left : (a b : Bool) → a && b ≡ true → a ≡ true
and_left true b e = refl
and_left false b e = e

and_right : (a b : Bool) → a && b ≡ true → b ≡ true
and_right true b e = e
and_right false b e = absurd (mathlib.Core.Bool.false≢true e)

fits_at : (rs : List Row) (k : ℕ) → all_fit rs ≡ true → row_fits (get_or rs k no_row) ≡ true
fits_at [] k e = refl
fits_at (r ∷ rs) zero e = and_left (row_fits r) (all_fit rs) e
fits_at (r ∷ rs) (suc k) e = fits_at rs k (and_right (row_fits r) (all_fit rs) e)

tables_fit : (line : Line) → all_fit (rows_of line) ≡ true
tables_fit Line.FileHeader = refl
tables_fit Line.BatchHeader = refl
tables_fit Line.Entry = refl
tables_fit Line.Addendum = refl
tables_fit Line.BatchControl = refl
tables_fit Line.FileControl = refl
tables_fit Line.Filler = refl
tables_fit Line.Past = refl
tables_fit Line.Other = refl

-- the row at a place of a table, or `no_row` behind its end
pub row_right : (line : Line) (k : ℕ) → row_fits (get_or (rows_of line) k no_row) ≡ true
row_right line k = fits_at (rows_of line) k (tables_fit line)

-- what a row that fits says, part by part
pub row_in : (r : Row) → row_fits r ≡ true
    → (1 ≤ r.first) × (r.first ≤ r.last) × (r.last ≤ 94) × (kind_fits r.kind (r.last + 1 - r.first) ≡ true)
row_in r e =
    let third = and_left (leb 1 r.first && leb r.first r.last && leb r.last 94) (kind_fits r.kind (r.last + 1 - r.first)) e in
    let second = and_left (leb 1 r.first && leb r.first r.last) (leb r.last 94) third in (
      leb-true _ _ (and_left (leb 1 r.first) (leb r.first r.last) second),
      leb-true _ _ (and_right (leb 1 r.first) (leb r.first r.last) second),
      leb-true _ _ (and_right (leb 1 r.first && leb r.first r.last) (leb r.last 94) third),
      and_right (leb 1 r.first && leb r.first r.last && leb r.last 94) (kind_fits r.kind (r.last + 1 - r.first)) e,
    )

-- a row's part of a record, as the code cuts it out, is its columns
pub part_columns : (r : Row) (xs : List ℕ) → row_fits r ≡ true
    → take (r.last - (r.first - 1)) (drop (r.first - 1) xs) ≡ columns r.first r.last xs
part_columns r xs e =
    let h = (row_in r e).0 in
    let same : r.last - (r.first - 1) ≡ r.last + 1 - r.first = omega arith in
    rw same refl

-- and has the width that its kind is read at
pub part_fits : (r : Row) (xs : List ℕ) → row_fits r ≡ true → length xs ≡ 94
    → kind_fits r.kind (length (take (r.last - (r.first - 1)) (drop (r.first - 1) xs))) ≡ true
part_fits r xs e n =
    let b = row_in r e in
    let wide : length (take (r.last - (r.first - 1)) (drop (r.first - 1) xs)) ≡ r.last + 1 - r.first =
    simp (length-take, length-drop) (omega arith) in
    rw wide b.3
