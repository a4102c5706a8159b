-- Laws of fields and rows: joined, cut apart again, and counted.
-- Assumes nothing.
use mathlib.Core.Path.{◌≡◌, refl, sym, ap, ◌∙◌}
use mathlib.Core.List.{List, [], ◌∷◌, ◌++◌, append_assoc, append-nil}
use Prim.Native.Nat.{ℕ, zero, suc, ◌+◌, ◌-◌, ◌*◌, ◌^◌, ◌≤◌, ◌<◌}
use native.Mathlib.Nat.{mul-zero, mul-suc, add_comm, le_of_suc-le-suc}
use native.Mathlib.Numerals.{add-one}
use native.Mathlib.Omega.{arith}
use lib.ListN.{length, take, drop, get_or, replicate, length-append, length-take, length-drop, length-replicate}
use lib.Seq.{take_at, drop_at, take-add, drop-drop, length-take-le, get_or-take, get_or-drop}
use Rattle.text.specs.Decimal.{value, render}
use Rattle.text.specs.Rows.{columns, joined, rows, cut, section}
use Rattle.text.specs.Widths.{AllLong, Wide, total}
use Rattle.text.proofs.DecimalLaws.{length_render, value_render_lt}

-- ---- columns

-- as many bytes as columns from a to b
pub length_columns : (a b : ℕ) (r : List ℕ) → 1 ≤ a → b ≤ length r → length (columns a b r) ≡ b + 1 - a
length_columns a b r h g = rw (length-take, length-drop) (omega arith)

-- the byte in column a + k
pub get_d_columns : (a b : ℕ) (r : List ℕ) (k : ℕ) → a + k ≤ b → get_or (columns a b r) k 0 ≡ get_or r (a - 1 + k) 0
get_d_columns a b r k h = get_or-take (b + 1 - a) (drop (a - 1) r) k 0 (omega arith) ∙ get_or-drop (a - 1) r k 0

-- ---- fields

-- rows behind rows
pub joined_append : (rs ss : List (List ℕ)) → joined (rs ++ ss) ≡ joined rs ++ joined ss
unfolding joined
joined_append [] ss = refl
joined_append (r ∷ rs) ss = rw (joined_append rs ss) (sym (append_assoc r (joined rs) (joined ss)))

-- fields of these widths have all of them together
pub length_wide : (ws : List ℕ) (fs : List (List ℕ)) → Wide ws fs → length (joined fs) ≡ total ws
unfolding joined
length_wide [] [] h = refl
length_wide [] (f ∷ fs) h = absurd h
length_wide (w ∷ ws) [] h = absurd h
length_wide (w ∷ ws) (f ∷ fs) h = rw (length-append, h.0, length_wide ws fs h.1)

-- fields that were joined are found again, whatever follows
pub cut_joined_rest : (ws : List ℕ) (fs : List (List ℕ)) (rest : List ℕ) → Wide ws fs → cut ws (joined fs ++ rest) ≡ fs
unfolding joined cut
cut_joined_rest [] [] rest h = refl
cut_joined_rest [] (f ∷ fs) rest h = absurd h
cut_joined_rest (w ∷ ws) [] rest h = absurd h
cut_joined_rest (w ∷ ws) (f ∷ fs) rest h =
    rw (append_assoc f (joined fs) rest, take_at f (joined fs ++ rest) w h.0, drop_at f (joined fs ++ rest) w h.0, cut_joined_rest ws fs rest h.1)

-- the same where nothing follows
pub cut_joined : (ws : List ℕ) (fs : List (List ℕ)) → Wide ws fs → cut ws (joined fs) ≡ fs
cut_joined ws fs h = rw append-nil at (cut_joined_rest ws fs [] h)

-- and what was cut is joined again
pub joined_cut : (ws xs : List ℕ) → joined (cut ws xs) ≡ take (total ws) xs
unfolding joined cut
joined_cut [] xs = refl
joined_cut (w ∷ ws) xs = rw (joined_cut ws (drop w xs)) (sym (take-add w (total ws) xs))

-- the fields have their widths if there are bytes enough
pub cut_wide : (ws xs : List ℕ) → total ws ≤ length xs → Wide ws (cut ws xs)
unfolding cut
cut_wide [] xs h = tt
cut_wide (w ∷ ws) xs h = (length-take-le w xs (omega arith), cut_wide ws (drop w xs) (rw length-drop (omega arith)))

-- as many fields as widths
pub length_cut : (ws xs : List ℕ) → length (cut ws xs) ≡ length ws
unfolding cut
length_cut [] xs = refl
length_cut (w ∷ ws) xs = ap suc (length_cut ws (drop w xs))

-- a field begins where those before it end
pub get_d_cut : (ws xs : List ℕ) (j : ℕ) → j < length ws → get_or (cut ws xs) j [] ≡ take (get_or ws j 0) (drop (total (take j ws)) xs)
unfolding cut
get_d_cut [] xs j h = absurd (omega arith)
get_d_cut (w ∷ ws) xs zero h = refl
get_d_cut (w ∷ ws) xs (suc j) h = get_d_cut ws (drop w xs) j (le_of_suc-le-suc h) ∙ rw drop-drop

-- ---- rows: fields of one width

rows_cut : (w k : ℕ) (xs : List ℕ) → rows w k xs ≡ cut (replicate k w) xs
unfolding rows cut
rows_cut w zero xs = refl
rows_cut w (suc k) xs = ap (λ rs. take w xs ∷ rs) (rows_cut w k (drop w xs))

total_replicate : (k w : ℕ) → total (replicate k w) ≡ w * k
total_replicate zero w = sym (mul-zero w)
total_replicate (suc k) w = rw (total_replicate k w, mul-suc) (add_comm w (w * k))

long_wide : (w : ℕ) (rs : List (List ℕ)) → AllLong w rs → Wide (replicate (length rs) w) rs
long_wide w [] h = tt
long_wide w (r ∷ rs) h = (h.0, long_wide w rs h.1)

wide_long : (w k : ℕ) (rs : List (List ℕ)) → Wide (replicate k w) rs → AllLong w rs
wide_long w zero [] h = tt
wide_long w zero (r ∷ rs) h = absurd h
wide_long w (suc k) [] h = absurd h
wide_long w (suc k) (r ∷ rs) h = (h.0, wide_long w k rs h.1)

-- rows of w bytes behind rows of w bytes
pub long_append : (w : ℕ) (rs ss : List (List ℕ)) → AllLong w rs → AllLong w ss → AllLong w (rs ++ ss)
long_append w [] ss h g = g
long_append w (r ∷ rs) ss h g = (h.0, long_append w rs ss h.1 g)

-- each row, by its place
pub long_at : (w : ℕ) (rs : List (List ℕ)) (k : ℕ) → AllLong w rs → k < length rs → length (get_or rs k []) ≡ w
long_at w [] k h g = absurd (omega arith)
long_at w (r ∷ rs) zero h g = h.0
long_at w (r ∷ rs) (suc k) h g = long_at w rs k h.1 (le_of_suc-le-suc g)

-- rows of w bytes, one behind the other
pub length_joined : (w : ℕ) (rs : List (List ℕ)) → AllLong w rs → length (joined rs) ≡ w * length rs
length_joined w rs h = length_wide (replicate (length rs) w) rs (long_wide w rs h) ∙ total_replicate (length rs) w

-- rows that were joined are found again, whatever follows
pub rows_joined_rest : (w : ℕ) (rs : List (List ℕ)) (rest : List ℕ) → AllLong w rs → rows w (length rs) (joined rs ++ rest) ≡ rs
rows_joined_rest w rs rest h =
    rows_cut w (length rs) (joined rs ++ rest) ∙ cut_joined_rest (replicate (length rs) w) rs rest (long_wide w rs h)

-- the same where nothing follows
pub rows_joined : (w : ℕ) (rs : List (List ℕ)) → AllLong w rs → rows w (length rs) (joined rs) ≡ rs
rows_joined w rs h = rw append-nil at (rows_joined_rest w rs [] h)

-- what was cut into rows is joined again
pub joined_rows : (w k : ℕ) (xs : List ℕ) → joined (rows w k xs) ≡ take (w * k) xs
joined_rows w k xs = rw (rows_cut, joined_cut, total_replicate)

-- the rows have w bytes if there are enough
pub rows_long : (w k : ℕ) (xs : List ℕ) → w * k ≤ length xs → AllLong w (rows w k xs)
rows_long w k xs h = rw rows_cut (wide_long w k (cut (replicate k w) xs) (cut_wide (replicate k w) xs (rw total_replicate h)))

-- as many rows as asked for
pub length_rows : (w k : ℕ) (xs : List ℕ) → length (rows w k xs) ≡ k
length_rows w k xs = rw (rows_cut, length_cut, length-replicate)

-- row j begins behind j rows
pub get_d_rows : (w k : ℕ) (xs : List ℕ) (j : ℕ) → j < k → get_or (rows w k xs) j [] ≡ take w (drop (w * j) xs)
unfolding rows
get_d_rows w zero xs j h = absurd (omega arith)
get_d_rows w (suc k) xs zero h = rw mul-zero
get_d_rows w (suc k) xs (suc j) h = get_d_rows w k (drop w xs) j (le_of_suc-le-suc h) ∙ rw (drop-drop, mul-suc, add_comm w (w * j))

-- a loop over n rows: row i, and those behind it
pub rows_next : (w n i : ℕ) (xs : List ℕ) → i < n
    → rows w (n - i) (drop (w * i) xs) ≡ take w (drop (w * i) xs) ∷ rows w (n - (i + 1)) (drop (w * (i + 1)) xs)
unfolding rows
rows_next w n i xs h =
    let e : n - i ≡ suc (n - (i + 1)) = omega arith in
    rw (e, drop-drop, add-one, mul-suc)

-- ---- a section: its count, its rows, and what follows

-- the count stands in front, if it fits its digits
pub section_count : (c : ℕ) (rs : List (List ℕ)) (rest : List ℕ) → length rs < 10 ^ c → value (take c (section c rs ++ rest)) ≡ length rs
section_count c rs rest h =
    let n = render c (length rs) in
    rw (append_assoc n (joined rs) rest, take_at n (joined rs ++ rest) c (length_render c (length rs))) (value_render_lt c (length rs) h)

-- then come the rows
pub section_rows : (c w : ℕ) (rs : List (List ℕ)) (rest : List ℕ) → AllLong w rs → rows w (length rs) (drop c (section c rs ++ rest)) ≡ rs
section_rows c w rs rest h =
    let n = render c (length rs) in
    rw (append_assoc n (joined rs) rest, drop_at n (joined rs ++ rest) c (length_render c (length rs))) (rows_joined_rest w rs rest h)

-- the count and the rows together
pub length_section : (c w : ℕ) (rs : List (List ℕ)) → AllLong w rs → length (section c rs) ≡ c + w * length rs
length_section c w rs h = rw (length-append, length_render, length_joined w rs h)

-- and then what follows
pub section_rest : (c w : ℕ) (rs : List (List ℕ)) (rest : List ℕ) → AllLong w rs → drop (c + w * length rs) (section c rs ++ rest) ≡ rest
section_rest c w rs rest h = drop_at (section c rs) rest (c + w * length rs) (length_section c w rs h)
