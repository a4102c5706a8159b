-- Where the sections of a table stand by bytes, and its rows one by one.
-- Assumes nothing.
use Prim.Native.Nat.{ℕ, zero, suc, ◌+◌, ◌-◌, ◌*◌, ◌/◌, ◌<◌, ◌≤◌, zero-le, suc-le-suc}
use native.Mathlib.Nat.{mul-suc, mul-div_cancel_left}
use native.Mathlib.Numerals.{sub-one}
use native.Mathlib.Omega.{arith}
use mathlib.Core.Path.{◌≡◌, refl, sym, ap, ◌∙◌}
use mathlib.Core.Bool.{Bool, true, false, ◌&&◌}
use mathlib.Core.List.{List, [], ◌∷◌}
use borrow.Author.Tests.{eq-eqb, eqb-true}
use lib.Dec.{eqb, lit≤}
use lib.ListN.{length, get_or, take, drop, length-take, length-drop}
use lib.Seq.{drop-drop, take-take, take_all}
use Rattle.std.specs.Simd.{first_chunks}
use Rattle.std.specs.List.{sum_by, list_all}
use Rattle.std.specs.Bool.{then_some}
use Rattle.std.specs.Option.{MatchOption}
use Rattle.std.proofs.lemmas.Bool.{false≢true}
use Rattle.std.proofs.lemmas.List.Sums.{sum_by-cons}
use Rattle.text.specs.Decimal.{pick, digits, value}
use Rattle.text.specs.Rows.{rows}
use Rattle.text.proofs.DecimalLaws.{and_both}
use Rattle.text.proofs.RowLaws.{get_d_columns}
use Rattle.text.proofs.SetLaws.{drop_take}
use Rattle.view.specs.View.{sum_over}
use Rattle.view.specs.Table.{batch_part, entry_part, addendum_part, count_of, rows_in, every_row, entries_due, addenda_due, shaped}
use Rattle.table_form.specs.declared.Sections.{Sections}
use Rattle.table_form.specs.WorkSections.{count_at, size_by, Counted}

-- ---- sections, by bytes from the table's start

entries_at : (t : List ℕ) → entry_part t ≡ drop (97 + 95 * count_at t 91) t
entries_at t =
    let e : 91 + (6 + 95 * count_at t 91) ≡ 97 + 95 * count_at t 91 = omega arith in
    drop-drop (6 + 95 * count_at t 91) 91 t ∙ ap (λ k. drop k t) e

addenda_at : (t : List ℕ) → addendum_part t ≡ drop (103 + 95 * count_at t 91 + 93 * count_of (entry_part t)) t
addenda_at t =
    let b = count_at t 91 in
    let n = count_of (entry_part t) in
    let e : 97 + 95 * b + (6 + 93 * n) ≡ 103 + 95 * b + 93 * n = omega arith in
    ap (drop (6 + 93 * n)) (entries_at t) ∙ drop-drop (6 + 93 * n) (97 + 95 * b) t ∙ ap (λ k. drop k t) e

-- their rows
pub batch_rows_at : (t : List ℕ) → rows_in 95 (batch_part t) ≡ rows 95 (count_of (batch_part t)) (drop 97 t)
batch_rows_at t = ap (rows 95 (count_of (batch_part t))) (drop-drop 6 91 t)

pub entry_rows_at : (t : List ℕ) → rows_in 93 (entry_part t) ≡ rows 93 (count_of (entry_part t)) (drop (103 + 95 * count_at t 91) t)
entry_rows_at t =
    let e : 97 + 95 * count_at t 91 + 6 ≡ 103 + 95 * count_at t 91 = omega arith in
    ap (λ l. rows 93 (count_of (entry_part t)) l) (ap (drop 6) (entries_at t) ∙ drop-drop 6 (97 + 95 * count_at t 91) t ∙ ap (λ k. drop k t) e)

pub addendum_rows_at : (t : List ℕ)
    → rows_in 80 (addendum_part t) ≡ rows 80 (count_of (addendum_part t)) (drop (109 + 95 * count_at t 91 + 93 * count_of (entry_part t)) t)
addendum_rows_at t =
    let at = 103 + 95 * count_at t 91 + 93 * count_of (entry_part t) in
    let e : at + 6 ≡ 109 + 95 * count_at t 91 + 93 * count_of (entry_part t) = omega arith in
    ap (λ l. rows 80 (count_of (addendum_part t)) l) (ap (drop 6) (addenda_at t) ∙ drop-drop 6 at t ∙ ap (λ k. drop k t) e)

-- a count, read where the counts before it put it
module _ (t : List ℕ) (b n : ℕ) (e : b ≡ count_at t 91) (f : n ≡ count_at t (97 + 95 * b)) where
  pub entries_count : n ≡ count_of (entry_part t)
  entries_count = f ∙ ap (λ k. count_at t (97 + 95 * k)) e ∙ sym (ap count_of (entries_at t))

  pub addenda_count : (m : ℕ) → m ≡ count_at t (103 + 95 * b + 93 * n) → m ≡ count_of (addendum_part t)
  addenda_count m g =
      g ∙ ap (λ k. count_at t (103 + 95 * k + 93 * n)) e ∙ ap (λ k. count_at t (103 + 95 * count_at t 91 + 93 * k)) entries_count ∙ sym (ap count_of (addenda_at t))

-- ---- rows, one by one

pub rows_first : (w n at : ℕ) (t : List ℕ) → 0 < n → rows w n (drop at t) ≡ take w (drop at t) ∷ rows w (n - 1) (drop (at + w) t)
unfolding rows
rows_first w zero at t h = absurd (omega arith)
rows_first w (suc n) at t h = rw (drop-drop w at t, sub-one)

pub rows_none : (w n at : ℕ) (t : List ℕ) → n ≤ 0 → rows w n (drop at t) ≡ []
unfolding rows
rows_none w zero at t h = refl
rows_none w (suc n) at t h = absurd (omega arith)

-- the number of entries at the end of a batch's row
pub number_at : (t : List ℕ) (at : ℕ) → drop 89 (take 95 (drop at t)) ≡ take 6 (drop (at + 89) t)
number_at t at = drop_take 89 6 (drop at t) ∙ ap (take 6) (drop-drop 89 at t)

-- ---- rows as a slice of arrays

-- chunks are rows
chunks_rows : (w k : ℕ) (xs : List ℕ) → first_chunks w k xs ≡ rows w k xs
unfolding rows
chunks_rows w zero xs = refl
chunks_rows w (suc k) xs = ap (λ rs. take w xs ∷ rs) (chunks_rows w k (drop w xs))

-- what follows the rows plays no part
rows_take : (w k n : ℕ) (xs : List ℕ) → n ≡ w * k → rows w k (take n xs) ≡ rows w k xs
unfolding rows
rows_take w zero n xs e = refl
rows_take w (suc k) n xs e =
    let f : n ≡ w + w * k = omega (arith, mul-suc w k) in
    rw (f, take-take w (w + w * k) xs (omega arith), drop_take w (w * k) xs)
    (ap (λ rs. take w xs ∷ rs) (rows_take w k (w * k) (drop w xs) refl))

-- a part of a table, cut into arrays
pub rows_part : (w k from : ℕ) (t : List ℕ) → 0 < w → from + w * k ≤ length t
    → (part : List ℕ) → part ≡ take (from + w * k - from) (drop from t) → first_chunks w (length part / w) part ≡ rows w k (drop from t)
rows_part w k from t h room part e =
    let n : from + w * k - from ≡ w * k = omega arith in
    let long : length (take (w * k) (drop from t)) ≡ w * k = simp (length-take, length-drop) (omega arith) in
    rw (e, n, long, mul-div_cancel_left k h) (chunks_rows w k (take (w * k) (drop from t)) ∙ rows_take w k (w * k) (drop from t) refl)

-- each row is w bytes long
abbrev pub Long : ℕ → List (List ℕ) → Type 0
Long w rs = (i : ℕ) → i < length rs → length (get_or rs i []) ≡ w

long_tail : (w : ℕ) (r : List ℕ) (rs : List (List ℕ)) → Long w (r ∷ rs) → Long w rs
long_tail w r rs long i h = long (suc i) (suc-le-suc h)

-- a test and a sum that say the same of a row that is w bytes long
pub test_rows : (w : ℕ) (p q : List ℕ → Bool) (rs : List (List ℕ)) → ((r : List ℕ) → length r ≡ w → p r ≡ q r) → Long w rs
    → list_all p rs ≡ every_row q rs
unfolding every_row
test_rows w p q [] same long = refl
test_rows w p q (r ∷ rs) same long =
    rw (same r (long zero (suc-le-suc zero-le)), test_rows w p q rs same (long_tail w r rs long))

pub sum_rows : (w : ℕ) (f g : List ℕ → ℕ) (rs : List (List ℕ)) → ((r : List ℕ) → length r ≡ w → f r ≡ g r) → Long w rs
    → sum_by f rs ≡ sum_over g rs
unfolding sum_over
sum_rows w f g [] same long = refl
sum_rows w f g (r ∷ rs) same long =
    sum_by-cons f r rs ∙ rw (same r (long zero (suc-le-suc zero-le)), sum_rows w f g rs same (long_tail w r rs long))

-- ---- a loop over rows

module _ (f : List ℕ → ℕ) where
  pub sum_first : (w n at : ℕ) (t : List ℕ) → 0 < n
      → sum_over f (rows w n (drop at t)) ≡ f (take w (drop at t)) + sum_over f (rows w (n - 1) (drop (at + w) t))
  unfolding sum_over
  sum_first w n at t h = rw (rows_first w n at t h) refl

-- a batch's row ends with its number of entries
pub number_ends : (row : List ℕ) → length row ≡ 95 → take 6 (drop 89 row) ≡ drop 89 row
number_ends row long = take_all 6 (drop 89 row) (rw length-drop (omega arith))

-- column 79 of an entry's record stands in its row
pub flag_in : (row : List ℕ) → pick (eqb (get_or row 77 0) 49) 1 0 ≡ addenda_due row
flag_in row = ap (λ b. pick (eqb b 49) 1 0) (sym (get_d_columns 79 79 (54 ∷ row) 0 (lit≤ tt)))

-- what one row adds
pub entries_in_lem : (t : List ℕ) (at : ℕ) → entries_due (take 95 (drop at t)) ≡ count_at t (at + 89)
entries_in_lem t at = ap value (number_at t at)

-- ---- the whole shape

-- a test behind another, which is made where the first one passes
pub next_test : {a b v : Bool} → a ≡ true → v ≡ b → v ≡ (a && b)
next_test e f = rw e f

pub stop_test : {a v : Bool} (b : Bool) → a ≡ false → v ≡ a → v ≡ (a && b)
stop_test b e f = rw e (f ∙ e)

-- the shape's six tests, by bytes from the table's start
abbrev pub plain_by : List ℕ → Sections → Bool
plain_by t s =
    digits (take 6 t) && digits (take 6 (drop 91 t)) && digits (take 6 (drop (97 + 95 * s.batches) t))
    && digits (take 6 (drop (103 + 95 * s.batches + 93 * s.entries) t))

abbrev pub numbers_by : List ℕ → Sections → Bool
numbers_by t s = every_row (λ row. digits (drop 89 row)) (rows 95 s.batches (drop 97 t))

abbrev pub taken_by : List ℕ → Sections → Bool
taken_by t s = eqb (sum_over entries_due (rows 95 s.batches (drop 97 t))) s.entries

abbrev pub due_by : List ℕ → Sections → Bool
due_by t s = eqb (sum_over addenda_due (rows 93 s.entries (drop s.entryrows t))) s.addenda

abbrev shaped_by : List ℕ → Sections → Bool
shaped_by t s = plain_by t s && numbers_by t s && eqb (count_at t 0) 1 && eqb (length t) (size_by t) && taken_by t s && due_by t s

module _ (t : List ℕ) (s : Sections) (c : Counted t s) where
  shape_by : shaped t ≡ shaped_by t s
  shape_by =
      let b = count_of (batch_part t) in
      let n = count_of (entry_part t) in
      rw (c.entryrows, c.batches, c.entries, c.addenda, batch_rows_at t, entry_rows_at t, addenda_at t, entries_at t)

  -- where the length is right, the last of the other tests decides
  pub due_decides : length t ≡ size_by t → (plain_by t s && numbers_by t s && eqb (count_at t 0) 1 && taken_by t s) ≡ true → shaped t ≡ due_by t s
  due_decides size e =
      let f = and_both (plain_by t s && numbers_by t s && eqb (count_at t 0) 1) (taken_by t s) e in
      shape_by ∙ rw (f.0, eq-eqb _ _ size, f.1)

  pub shape_wrong : (plain_by t s && numbers_by t s && eqb (count_at t 0) 1 && taken_by t s) ≡ false → shaped t ≡ false
  shape_wrong e = shape_by ∙ go (plain_by t s && numbers_by t s && eqb (count_at t 0) 1) (taken_by t s) (eqb (length t) (size_by t)) e
    where
      go : (x y z : Bool) → (x && y) ≡ false → (x && z && y && due_by t s) ≡ false
      go true y true e = rw e
      go true y false e = refl
      go false y z e = refl

-- the counts as the code reads them
pub counted_by : (t : List ℕ) (b n m : ℕ) → (b ≡ count_at t 91) × (b < 1000000) → (n ≡ count_at t (97 + 95 * b)) × (n < 1000000)
    → (m ≡ count_at t (103 + 95 * b + 93 * n)) × (m < 1000000)
    → Counted t (record { batches = b; entries = n; addenda = m; entryrows = 103 + 95 * b; textrows = 109 + 95 * b + 93 * n })
counted_by t b n m e f g =
    record {
      batches = e.0;
      entries = entries_count t b n e.0 f.0;
      addenda = addenda_count t b n e.0 f.0 m g.0;
      batchesfew = e.1;
      entriesfew = f.1;
      addendafew = g.1;
      entryrows = refl;
      textrows = refl;
    }

-- a table of the right length is as long as its sections
pub size_by_lem : (t : List ℕ) (s : Sections) → Counted t s → length t ≡ size_by t → length t ≡ 109 + 95 * s.batches + 93 * s.entries + 80 * s.addenda
size_by_lem t s c e = omega (arith, c.batches, c.entries, c.addenda)

-- the counts, where the table is as long as they say
pub then_sized : (t : List ℕ) (s : Sections) → Counted t s
    → MatchOption (then_some (eqb (length t) (s.textrows + 80 * s.addenda)) s) (length t ≡ size_by t → ⊥) (λ r. (length t ≡ size_by t) × Counted t r)
then_sized t s c = go (eqb (length t) (s.textrows + 80 * s.addenda)) refl
  where
    go : (x : Bool) → eqb (length t) (s.textrows + 80 * s.addenda) ≡ x
        → MatchOption (then_some x s) (length t ≡ size_by t → ⊥) (λ r. (length t ≡ size_by t) × Counted t r)
    go true e = (omega (arith, eqb-true _ _ e, c.batches, c.entries, c.addenda, c.textrows), c)
    go false e = λ f. absurd (false≢true (sym e ∙ eq-eqb _ _ (omega (arith, f, c.batches, c.entries, c.addenda, c.textrows))))
