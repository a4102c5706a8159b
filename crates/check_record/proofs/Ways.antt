-- A record and its line end, in either way.
-- Assumes nothing.
use Prim.Native.Nat.{ℕ, suc, ◌+◌, ◌-◌, ◌*◌, ◌/◌, ◌%◌, ◌<◌, ◌≤◌}
use native.Mathlib.Omega.{arith}
use mathlib.Core.Path.{◌≡◌, refl, ap, ◌∙◌}
use mathlib.Core.Bool.{true}
use mathlib.Core.List.{List, [], ◌∷◌, ◌++◌}
use lib.Dec.{eqb}
use lib.ListN.{length, take, drop, length-take, length-drop, length-append, drop_of_length-le}
use lib.Seq.{drop-cons, drop-drop, take-take, take-append_seam, drop-append_seam}
use Rattle.std.proofs.lemmas.Bool.Decides.{nat_tests}
use Rattle.std.specs.List.{ends_with}
use Rattle.text.specs.Rows.{rows}
use Rattle.text.specs.Same.{same_bytes}
use Rattle.layout.specs.declared.Way.{Way}
use Rattle.layout.specs.Ways.{end_of, record_bytes}
use Rattle.check_record.specs.Record.{raw_records}

-- what the code sees of a line end
pub closed_plain : (way : Way) (r : List ℕ) → way ≡ Way.Plain → length r ≡ record_bytes way → true ≡ same_bytes (drop 94 r) (end_of way)
unfolding same_bytes
closed_plain way r e l =
    let long : length r ≡ 94 = l ∙ ap record_bytes e in
    let most : length r ≤ 94 = omega arith in
    rw (drop_of_length-le r most, e) refl

eqb_swap : (a b : ℕ) → eqb a b ≡ eqb b a
eqb_swap a b = grind (arith, nat_tests)

pub closed_lined : (way : Way) (r : List ℕ) → way ≡ Way.Lined → length r ≡ record_bytes way → ends_with eqb r (13 ∷ 10 ∷ []) ≡ same_bytes (drop 94 r) (end_of way)
unfolding same_bytes
closed_lined way r e l =
    let long : length r ≡ 96 = l ∙ ap record_bytes e in
    let most : length r ≤ 96 = omega arith in
    rw (e, long, drop-cons r 94 0 (omega arith), drop-cons r 95 0 (omega arith), drop_of_length-le r most, eqb_swap 13, eqb_swap 10) refl

-- a file's records by its length
pub some_bytes : (way : Way) → 0 < record_bytes way
some_bytes Way.Plain = omega arith
some_bytes Way.Lined = omega arith

pub bytes_few : (way : Way) → record_bytes way ≤ 96
bytes_few Way.Plain = omega arith
bytes_few Way.Lined = omega arith

pub rows_inside : (way : Way) (n : ℕ) → record_bytes way * (n / record_bytes way) ≤ n
rows_inside Way.Plain n = omega arith
rows_inside Way.Lined n = omega arith

pub rows_whole : (way : Way) (n : ℕ) → n % record_bytes way ≡ 0 → n ≤ record_bytes way * (n / record_bytes way)
rows_whole Way.Plain n h = omega arith
rows_whole Way.Lined n h = omega arith

pub rows_few : (way : Way) (n : ℕ) → n ≤ record_bytes way * 1000000 → n / record_bytes way ≤ 1000000
rows_few Way.Plain n h = omega arith
rows_few Way.Lined n h = omega arith

pub rows_many : (way : Way) (n : ℕ) → 1000000 < n → record_bytes way * 1000000 < record_bytes way * n
rows_many Way.Plain n h = omega arith
rows_many Way.Lined n h = omega arith

-- ---- the walk along a file, chunk by chunk: its first record, and what stands behind it

one_chunk : (way : Way) (n m : ℕ) → n ≡ record_bytes way → (n + m) / record_bytes way ≡ suc (m / record_bytes way)
one_chunk Way.Plain n m h = omega arith
one_chunk Way.Lined n m h = omega arith

first_row : (k : ℕ) (x rest : List ℕ) → rows (length x) (suc k) (x ++ rest) ≡ x ∷ rows (length x) k rest
unfolding rows
first_row k x rest = rw (take-append_seam x rest, drop-append_seam x rest) refl

pub raw_chunk : (way : Way) (x rest : List ℕ) → length x ≡ record_bytes way → raw_records way (x ++ rest) ≡ x ∷ raw_records way rest
raw_chunk way x rest h =
    rw (length-append x rest, one_chunk way (length x) (length rest) h)
    (rw h at (first_row (length rest / record_bytes way) x rest))

no_chunk : (way : Way) (n : ℕ) → n < record_bytes way → n / record_bytes way ≡ 0
no_chunk Way.Plain n h = omega arith
no_chunk Way.Lined n h = omega arith

pub raw_none : (way : Way) (rest : List ℕ) → length rest < record_bytes way → raw_records way rest ≡ []
unfolding rows
raw_none way rest h = rw (no_chunk way (length rest) h) refl

-- ---- the walk along a file: what stands from byte `at` on

abbrev pub raw_from : Way → List ℕ → ℕ → List (List ℕ)
raw_from way f at = rows (record_bytes way) ((length f - at) / record_bytes way) (drop at f)

-- the record there, with its line end and without, as the code cuts them out
abbrev pub raw_at : Way → List ℕ → ℕ → List ℕ
raw_at way f at = take (at + record_bytes way - at) (drop at f)

abbrev pub columns_at : List ℕ → ℕ → List ℕ
columns_at f at = take (at + 94 - at) (drop at f)

one_more : (way : Way) (n at : ℕ) → at + record_bytes way ≤ n → (n - at) / record_bytes way ≡ suc ((n - (at + record_bytes way)) / record_bytes way)
one_more Way.Plain n at h = omega arith
one_more Way.Lined n at h = omega arith

none_left : (way : Way) (n at : ℕ) → n ≤ at → (n - at) / record_bytes way ≡ 0
none_left Way.Plain n at h = omega arith
none_left Way.Lined n at h = omega arith

pub raw_next : (way : Way) (f : List ℕ) (at : ℕ) → at + record_bytes way ≤ length f → raw_from way f at ≡ raw_at way f at ∷ raw_from way f (at + record_bytes way)
unfolding rows
raw_next way f at h =
    let wide : at + record_bytes way - at ≡ record_bytes way = omega arith in
    rw (one_more way (length f) at h, wide, drop-drop (record_bytes way) at f) refl

pub raw_end : (way : Way) (f : List ℕ) (at : ℕ) → length f ≤ at → raw_from way f at ≡ []
unfolding rows
raw_end way f at h = rw (none_left way (length f) at h) refl

pub raw_whole : (way : Way) (f : List ℕ) → raw_from way f 0 ≡ raw_records way f
raw_whole way f = let whole : length f - 0 ≡ length f = omega arith in rw whole refl

pub raw_long : (way : Way) (f : List ℕ) (at : ℕ) → at + record_bytes way ≤ length f → length (raw_at way f at) ≡ record_bytes way
raw_long way f at h = simp (length-take, length-drop) (omega arith)

pub columns_long : (way : Way) (f : List ℕ) (at : ℕ) → at + record_bytes way ≤ length f → length (columns_at f at) ≡ 94
columns_long way f at h = simp (length-take, length-drop) (omega arith)

pub columns_of_lem : (way : Way) (f : List ℕ) (at : ℕ) → take 94 (raw_at way f at) ≡ columns_at f at
columns_of_lem way f at =
    let wide : at + record_bytes way - at ≡ record_bytes way = omega arith in
    let narrow : at + 94 - at ≡ 94 = omega arith in
    rw (wide, narrow) (take-take 94 (record_bytes way) (drop at f) (omega arith))

-- before the end a whole record stands, and behind it the next one
pub room_for : (way : Way) (n at : ℕ) → n % record_bytes way ≡ 0 → at % record_bytes way ≡ 0 → at < n → at + record_bytes way ≤ n
room_for Way.Plain n at a b c = omega arith
room_for Way.Lined n at a b c = omega arith

pub even_none : (way : Way) → 0 % record_bytes way ≡ 0
even_none Way.Plain = refl
even_none Way.Lined = refl

pub even_on : (way : Way) (at : ℕ) → at % record_bytes way ≡ 0 → (at + record_bytes way) % record_bytes way ≡ 0
even_on Way.Plain at h = omega arith
even_on Way.Lined at h = omega arith
