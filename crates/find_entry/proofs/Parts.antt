-- Parts of a list that the code cuts out or writes over, and parts of records.
-- Assumes nothing.
use mathlib.Core.Path.{◌≡◌, sym, ap, ◌∙◌}
use mathlib.Core.List.{List, [], ◌++◌, append_assoc}
use Prim.Native.Nat.{ℕ, ◌+◌, ◌-◌, ◌*◌, ◌/◌, ◌≤◌, ◌<◌}
use native.Mathlib.Omega.{arith}
use lib.ListN.{length, take, drop, get_or, length-drop, get_or-map}
use lib.Seq.{sets, sets-eq, drop-drop, take-take, take-add, drop_at, length-take-le, get_or-take, get_or-drop}
use Rattle.text.specs.Decimal.{render}
use Rattle.text.proofs.DecimalLaws.{length_render}
use Rattle.text.proofs.RowLaws.{get_d_rows}
use Rattle.layout.specs.declared.Way.{Way}
use Rattle.layout.specs.Ways.{record_bytes}
use Rattle.check_record.specs.Record.{raw_records, columns_in}

-- m elements from a on, as the code cuts them out
pub cut_out_lem : (f : List ℕ) (a m : ℕ) → take (a + m - a) (drop a f) ≡ take m (drop a f)
cut_out_lem f a m =
    let size : a + m - a ≡ m = omega arith in
    rw size

-- a number written over such a part
pub put_there : (f : List ℕ) (a m n : ℕ) (ys : List ℕ) → a + m ≤ length f → ys ≡ render (length (take (a + m - a) (drop a f))) n
    → take a f ++ (ys ++ drop (a + m - a) (drop a f)) ≡ sets f a (render m n)
put_there f a m n ys h e =
    let size : a + m - a ≡ m = omega arith in
    let long : length (take m (drop a f)) ≡ m = length-take-le m (drop a f) (rw length-drop (omega arith)) in
    let vs = render m n in
    rw (e, size, long, drop-drop m a f) (sym (sets-eq vs f a (rw length_render h) ∙ rw length_render (append_assoc (take a f) vs (drop (a + m) f))))

-- ---- record i of a file

-- it stands in the file, and what follows it too
pub stands : (way : Way) (n i : ℕ) → i < n / record_bytes way → record_bytes way * i + 94 ≤ n
stands Way.Plain n i h = omega arith
stands Way.Lined n i h = omega arith

pub starts : (way : Way) (n i : ℕ) → i ≤ n / record_bytes way → record_bytes way * i ≤ n
starts Way.Plain n i h = omega arith
starts Way.Lined n i h = omega arith

pub once : (way : Way) (i : ℕ) → i ≤ record_bytes way * i
once Way.Plain i = omega arith
once Way.Lined i = omega arith

pub counted : (way : Way) (n i : ℕ) → record_bytes way * i ≤ n → i ≤ n / record_bytes way
counted Way.Plain n i h = omega arith
counted Way.Lined n i h = omega arith

pub on : (way : Way) (i : ℕ) → record_bytes way * i + record_bytes way ≡ record_bytes way * (i + 1)
on Way.Plain i = omega arith
on Way.Lined i = omega arith

-- the columns of record i
columns_are : (way : Way) (f : List ℕ) (i : ℕ) → i < length f / record_bytes way → get_or (columns_in way f) i [] ≡ take 94 (drop (record_bytes way * i) f)
columns_are way f i h =
    let w = record_bytes way in
    let n = length f / w in
    let head : get_or (columns_in way f) i (take 94 []) ≡ take 94 (get_or (raw_records way f) i []) = get_or-map (take 94) (raw_records way f) i [] in
    head ∙ ap (take 94) (get_d_rows w n f i h) ∙ take-take 94 w (drop (w * i) f) (omega arith)

-- as the code cuts them out
pub record_cut : (way : Way) (f : List ℕ) (i w : ℕ) → w ≡ record_bytes way → record_bytes way * (i + 1) ≤ length f → take 94 (drop (w * i) f) ≡ get_or (columns_in way f) i []
record_cut way f i w e h =
    let inside : i < length f / record_bytes way = omega (arith, counted way (length f) (i + 1) h) in
    rw e (sym (columns_are way f i inside))

-- a byte of it, and n bytes of it from o on
module _ (way : Way) (f : List ℕ) (i : ℕ) (h : i < length f / record_bytes way) where
  pub record_byte : (j : ℕ) → j < 94 → get_or (get_or (columns_in way f) i []) j 0 ≡ get_or f (record_bytes way * i + j) 0
  record_byte j g = rw (columns_are way f i h) (get_or-take 94 (drop (record_bytes way * i) f) j 0 g ∙ get_or-drop (record_bytes way * i) f j 0)

  pub record_part : (o n : ℕ) → o + n ≤ 94 → take n (drop o (get_or (columns_in way f) i [])) ≡ take n (drop (record_bytes way * i + o) f)
  record_part o n g =
      let rest = drop (record_bytes way * i) f in
      let size : 94 ≡ o + (94 - o) = omega arith in
      let front : length (take o rest) ≡ o = length-take-le o rest (rw length-drop (omega (arith, stands way (length f) i h))) in
      rw (columns_are way f i h, ← drop-drop o (record_bytes way * i) f)
      (ap (λ w. take n (drop o (take w rest))) size
      ∙ rw (take-add o (94 - o) rest, drop_at (take o rest) (take (94 - o) (drop o rest)) o front) (take-take n (94 - o) (drop o rest) (omega arith)))
