-- A record that passes its table is the one that the view forms: of each record type, the fields that leave no choice are those that
-- `file_of` writes.
-- Assumes nothing.
use Rattle.std.specs.Prelude.{Ok}
use mathlib.Core.Path.{◌≡◌, refl, sym, ap, ◌∙◌}
use mathlib.Core.Bool.{Bool, true, ◌&&◌}
use mathlib.Core.List.{List, [], ◌∷◌, ◌++◌}
use Prim.Native.Nat.{ℕ, zero, suc, ◌+◌, ◌-◌, ◌≤◌, ◌<◌}
use native.Mathlib.Nat.{le_of_suc-le-suc, le_of_eq}
use Rattle.std.proofs.Common.{rules}
use native.Mathlib.Omega.{arith}
use lib.Dec.{eqb, leb, lit<, lit≤}
use lib.ListN.{length, take, drop, get_or, take-append-drop, drop_of_length-le}
use lib.Seq.{drop-drop, take_all, take_at, drop_at}
use borrow.Author.Tests.{eqb-true, leb-true}
use Rattle.text.specs.Decimal.{render}
use Rattle.text.specs.Rows.{columns, joined, cut}
use Rattle.text.specs.Widths.{total}
use Rattle.text.proofs.DecimalLaws.{and_both}
use Rattle.text.proofs.RowLaws.{joined_cut, length_columns}
use Rattle.layout.specs.declared.Row.{Row}
use Rattle.layout.specs.Fields.{no_row, part, file_header, batch_header, entry, addendum, batch_control, file_control, filler}
use Rattle.check_across.specs.declared.Sums.{Sums}
use Rattle.check_across.specs.Across.{entry_trace_rule}
use Rattle.check_field.specs.Field.{field_of}
use Rattle.view.specs.View.{Entry, Batch, file_record, batch_record, entry_record, addendum_record, filler_record}
use Rattle.view.specs.Keeps.{Right}
use Rattle.view_laws.proofs.BridgeFields.{need_right, number_same, decides, decided, field_decided}

-- field j of a right record, from 0
pub right_at : (rows : List Row) (s : Sums) (h r : List ℕ) (j : ℕ) → j < length rows → Right rows s h r → field_of s h r (get_or rows j no_row) ≡ Ok tt
right_at [] s h r j g e = absurd (omega arith)
right_at (row ∷ rows) s h r zero g e = e.0
right_at (row ∷ rows) s h r (suc j) g e = right_at rows s h r j (le_of_suc-le-suc g) e.1

-- its bytes, where its kind leaves no choice
bytes_at : (rows : List Row) (s : Sums) (h r : List ℕ) (j : ℕ) → j < length rows → decides (get_or rows j no_row).kind ≡ true
    → 1 ≤ (get_or rows j no_row).first → (get_or rows j no_row).last ≤ length r → Right rows s h r
    → columns (get_or rows j no_row).first (get_or rows j no_row).last r
    ≡ decided s h ((get_or rows j no_row).last + 1 - (get_or rows j no_row).first) (get_or rows j no_row).kind
bytes_at rows s h r j g d a b e = field_decided s h r (get_or rows j no_row) d a b (right_at rows s h r j g e)

-- a record by its first byte
pub typed : (b : ℕ) (r : List ℕ) → 1 ≤ length r → get_or r 0 0 ≡ b → r ≡ b ∷ drop 1 r
typed b r g e = search rules

-- ---- tables in which every row but the first leaves no choice

-- the rows stand one behind the other from column c on, and fill n columns
abbrev tiles : ℕ → ℕ → List Row → Bool
tiles n c [] = eqb c (n + 1)
tiles n c (row ∷ rows) =
    eqb row.first c && (leb c row.last && (leb row.last n && (decides row.kind && tiles n (row.last + 1) rows)))

-- what such rows say stands in their columns
abbrev pub texts : Sums → List ℕ → List Row → List (List ℕ)
texts s h [] = []
texts s h (row ∷ rows) = decided s h (row.last + 1 - row.first) row.kind ∷ texts s h rows

-- what stands from column a on: columns a to b, and the rest
front_back : (a b : ℕ) (r xs ys : List ℕ) → 1 ≤ a → a ≤ b → columns a b r ≡ xs → drop (b + 1 - 1) r ≡ ys → drop (a - 1) r ≡ xs ++ ys
front_back a b r xs ys g h p q =
    let e : a - 1 + (b + 1 - a) ≡ b + 1 - 1 = omega arith in
    sym (take-append-drop (b + 1 - a) (drop (a - 1) r)) ∙ rw (p, drop-drop (b + 1 - a) (a - 1) r, e, q)

-- right rows of that form give what stands from column c on
tiled : (n c : ℕ) (rows : List Row) (s : Sums) (h r : List ℕ) → tiles n c rows ≡ true → 1 ≤ c → length r ≡ n → Right rows s h r
    → drop (c - 1) r ≡ joined (texts s h rows)
unfolding joined
tiled n c [] s h r t g l e = let last = eqb-true c (n + 1) t in drop_of_length-le r {i = c - 1} (omega arith)
tiled n c (row ∷ rows) s h r t g l e =
    let one = and_both (eqb row.first c) _ t in
    let two = and_both (leb c row.last) _ one.1 in
    let three = and_both (leb row.last n) _ two.1 in
    let four = and_both (decides row.kind) (tiles n (row.last + 1) rows) three.1 in
    let from = eqb-true row.first c one.0 in
    let to = leb-true c row.last two.0 in
    let in-record = leb-true row.last n three.0 in
    let here = field_decided s h r row four.0 (omega arith) (omega arith) e.0 in
    let rest = tiled n (row.last + 1) rows s h r four.1 (omega arith) l e.1 in
    rw (← from) (front_back row.first row.last r _ _ (omega arith) (omega arith) here rest)

-- record 8, by the sums of its batch and the record 5
abbrev pub batch_control_by : Sums → List ℕ → List ℕ
batch_control_by s h = joined ((56 ∷ []) ∷ texts s h (drop 1 batch_control))

-- a right record 8 is that one
pub batch_control_formed : (s : Sums) (h r : List ℕ) → length r ≡ 94 → get_or r 0 0 ≡ 56 → Right batch_control s h r → r ≡ batch_control_by s h
unfolding joined
batch_control_formed s h r l b e =
    typed 56 r (omega arith) b ∙ ap (λ xs. 56 ∷ xs) (tiled 94 2 (drop 1 batch_control) s h r refl (lit≤ tt) l e.1)

-- record 9, by the sums of the file
abbrev pub file_control_by : Sums → List ℕ
file_control_by s = joined ((57 ∷ []) ∷ texts s [] (drop 1 file_control))

-- a right record 9 is that one
pub file_control_formed : (s : Sums) (h r : List ℕ) → length r ≡ 94 → get_or r 0 0 ≡ 57 → Right file_control s h r → r ≡ file_control_by s
unfolding joined
file_control_formed s h r l b e =
    typed 57 r (omega arith) b ∙ ap (λ xs. 57 ∷ xs) (tiled 94 2 (drop 1 file_control) s h r refl (lit≤ tt) l e.1)

-- a right filler
pub filler_formed : (s : Sums) (h r : List ℕ) → length r ≡ 94 → Right filler s h r → r ≡ filler_record
unfolding joined
filler_formed s h r l e = tiled 94 1 filler s h r refl (lit≤ tt) l e

-- ---- records of which the view has a part

-- a record is its fields, one behind the other
abbrev spans : ℕ → List ℕ → List ℕ → List (List ℕ)
spans c [] r = []
spans c (w ∷ ws) r = take w (drop c r) ∷ spans (c + w) ws r

spans_cut : (c : ℕ) (ws r : List ℕ) → cut ws (drop c r) ≡ spans c ws r
unfolding cut
spans_cut c [] r = refl
spans_cut c (w ∷ ws) r = ap (λ l. take w (drop c r) ∷ l) (ap (cut ws) (drop-drop w c r) ∙ spans_cut (c + w) ws r)

fields_joined : (ws : List ℕ) (fs : List (List ℕ)) (r : List ℕ) → length r ≡ total ws → spans 0 ws r ≡ fs → r ≡ joined fs
fields_joined ws fs r l e =
    sym (take_all (total ws) r (le_of_eq l)) ∙ sym (joined_cut ws r) ∙ ap joined (spans_cut 0 ws r ∙ e)

first_column : (b : ℕ) (r : List ℕ) → 1 ≤ length r → get_or r 0 0 ≡ b → take 1 r ≡ b ∷ []
first_column b r g e = search rules

-- a right record 1
pub file_formed : (s : Sums) (h r : List ℕ) (bs : List Batch) → length r ≡ 94 → get_or r 0 0 ≡ 49 → Right file_header s h r
    → r ≡ file_record (record { row = columns 4 34 r ++ columns 41 94 r; batches = bs })
file_formed s h r bs l b e =
    let front : length (columns 4 34 r) ≡ 31 = length_columns 4 34 r (lit≤ tt) (omega arith) in
    let at = bytes_at file_header s h r in
    let type = first_column 49 r (omega arith) b in
    let two : take 2 (drop 1 r) ≡ render 2 1 = at 1 (lit< tt) refl (lit≤ tt) (omega arith) e in
    let eight : take 3 (drop 34 r) ≡ render 3 94 = at 7 (lit< tt) refl (lit≤ tt) (omega arith) e in
    let nine : take 2 (drop 37 r) ≡ render 2 10 = at 8 (lit< tt) refl (lit≤ tt) (omega arith) e in
    let ten : take 1 (drop 39 r) ≡ render 1 1 = at 9 (lit< tt) refl (lit≤ tt) (omega arith) e in
    fields_joined (1 ∷ 2 ∷ 31 ∷ 3 ∷ 2 ∷ 1 ∷ 54 ∷ []) _ r l
    (rw (take_at (columns 4 34 r) (columns 41 94 r) 31 front, drop_at (columns 4 34 r) (columns 41 94 r) 31 front)
    (rw (type, two, eight, nine, ten)))

-- a right record 5
pub batch_formed : (s : Sums) (h r : List ℕ) (es : List Entry) → length r ≡ 94 → get_or r 0 0 ≡ 53 → Right batch_header s h r
    → r ≡ batch_record (record { row = columns 2 75 r ++ columns 80 94 r; entries = es })
batch_formed s h r es l b e =
    let front : length (columns 2 75 r) ≡ 74 = length_columns 2 75 r (lit≤ tt) (omega arith) in
    let at = bytes_at batch_header s h r in
    let type = first_column 53 r (omega arith) b in
    let ten : take 3 (drop 75 r) ≡ 32 ∷ 32 ∷ 32 ∷ [] = at 9 (lit< tt) refl (lit≤ tt) (omega arith) e in
    let eleven : take 1 (drop 78 r) ≡ render 1 1 = at 10 (lit< tt) refl (lit≤ tt) (omega arith) e in
    fields_joined (1 ∷ 74 ∷ 3 ∷ 1 ∷ 15 ∷ []) _ r l
    (rw (take_at (columns 2 75 r) (columns 80 94 r) 74 front, drop_at (columns 2 75 r) (columns 80 94 r) 74 front)
    (rw (type, ten, eleven)))

-- "digits, the last seven of the entry's trace"
trace_digits : (s : Sums) (p : List ℕ) → entry_trace_rule s p ≡ Ok tt → p ≡ render (length p) s.trace
trace_digits s p e = let one = need_right _ _ _ e in number_same _ p one.0 (need_right _ _ _ one.1).0

-- a right record 7, behind the record of entry e
pub addendum_formed : (s : Sums) (h r : List ℕ) (e : Entry) → length r ≡ 94 → get_or r 0 0 ≡ 55 → Right addendum s h r
    → columns 9 15 (part entry 11 (entry_record e)) ≡ render 7 s.trace → r ≡ addendum_record e (columns 4 83 r)
addendum_formed s h r e l b g t =
    let at = bytes_at addendum s h r in
    let type = first_column 55 r (omega arith) b in
    let two : take 2 (drop 1 r) ≡ render 2 5 = at 1 (lit< tt) refl (lit≤ tt) (omega arith) g in
    let four : take 4 (drop 83 r) ≡ render 4 1 = at 3 (lit< tt) refl (lit≤ tt) (omega arith) g in
    let five : take 7 (drop 87 r) ≡ render 7 s.trace =
    trace_digits s (columns 88 94 r) (right_at addendum s h r 4 (lit< tt) g) ∙ ap (λ w. render w s.trace) (length_columns 88 94 r (lit≤ tt) (omega arith)) in
    fields_joined (1 ∷ 2 ∷ 80 ∷ 4 ∷ 7 ∷ []) _ r l (rw t (rw (type, two, four, five)))
