-- Laws of a line and of many, and what exporting gives.
-- Assumes nothing.
use Prim.Native.Nat.{ℕ, ◌+◌, ◌*◌, ◌≤◌, ◌<◌}
use native.Mathlib.Nat.{zero-add}
use native.Mathlib.Omega.{arith}
use mathlib.Core.Path.{◌≡◌, refl, sym, ap, ◌∙◌}
use mathlib.Core.List.{List, [], ◌∷◌, ◌++◌, append_assoc, map}
use lib.ListN.{length, get_or, take, drop, length-append, length-take, drop_of_length-le}
use lib.Seq.{drop-cons}
use native.Mathlib.Numerals.{add-one}
use borrow.Rule.Slice.PartMut.{mid_of}
use Rattle.std.specs.List.{sum_by}
use Rattle.std.proofs.lemmas.List.Sums.{sum_by-cons}
use lib.Seq.{sets, sets-eq}
use Rattle.text.specs.Rows.{joined}
use Rattle.table_form.specs.declared.Sections.{Sections}
use Rattle.table_form.specs.WorkSections.{Counted}
use Rattle.table_form.proofs.ShapeLaws.{entry_rows_at}
use Rattle.table_read.specs.WorkPuts.{Puts}
use Rattle.csv_export.proofs.FieldLaws.{text_short, amount_short}
use Rattle.csv_export.specs.Quoting.{trimmed, quoted, cell, amount_text}
use Rattle.csv_export.specs.Lining.{comma_line, line_of_row, lines_at, exported}

-- ---- a line

module _ (row amount : List ℕ) (e : amount ≡ take 10 (drop 28 row)) where
  -- each field with the byte behind it, and LF
  pub line_pieces : line_of_row row
      ≡ cell (trimmed (take 2 row)) 44
      ++ (cell (trimmed (mid_of 2 9 row)) 44
      ++ (cell (trimmed (mid_of 11 17 row)) 44
      ++ (cell (amount_text amount) 44 ++ (cell (trimmed (mid_of 38 15 row)) 44 ++ (cell (trimmed (mid_of 53 22 row)) 13 ++ (10 ∷ []))))))
  unfolding comma_line cell
  line_pieces = simp append_assoc (rw e refl)

  pub line_length : length (line_of_row row)
      ≡ length (quoted (trimmed (take 2 row))) + length (quoted (trimmed (mid_of 2 9 row))) + length (quoted (trimmed (mid_of 11 17 row)))
      + (length (quoted (amount_text amount)) + length (quoted (trimmed (mid_of 38 15 row))) + length (quoted (trimmed (mid_of 53 22 row))))
      + 7
  unfolding cell
  line_length = ap length line_pieces ∙ simp length-append (omega arith)

-- whatever the row is
pub line_short : (row : List ℕ) → length (line_of_row row) ≤ 200
line_short row =
    let amount = take 10 (drop 28 row) in
    omega (arith, line_length row amount refl, part 0 2, part 2 9, part 11 17, part 38 15, part 53 22, amount_short amount _ _ refl refl (omega (arith, length-take 10 (drop 28 row))))
  where
    part : (from n : ℕ) → length (quoted (trimmed (mid_of from n row))) ≤ 2 * n + 2
    part from n = omega (arith, text_short (mid_of from n row), length-take n (drop from row))

-- ---- the lines of rows

pub rows_size : (rs : List (List ℕ)) → sum_by (λ r. length (line_of_row r)) rs ≡ length (joined (map line_of_row rs))
unfolding joined
rows_size [] = refl
rows_size (r ∷ rs) = sum_by-cons (λ r. length (line_of_row r)) r rs ∙ ap (λ n. length (line_of_row r) + n) (rows_size rs) ∙ sym (length-append (line_of_row r) (joined (map line_of_row rs)))

pub rows_short : (rs : List (List ℕ)) → length (joined (map line_of_row rs)) ≤ 200 * length rs
unfolding joined
rows_short [] = omega arith
rows_short (r ∷ rs) = omega (arith, line_short r, rows_short rs, length-append (line_of_row r) (joined (map line_of_row rs)))

pub lines_next : (rs : List (List ℕ)) (i : ℕ) → i < length rs → joined (map line_of_row (drop i rs)) ≡ line_of_row (get_or rs i []) ++ joined (map line_of_row (drop (i + 1) rs))
unfolding joined
lines_next rs i h = rw (drop-cons rs i [] h, add-one i) refl

pub lines_end : (rs : List (List ℕ)) (i : ℕ) → length rs ≤ i → joined (map line_of_row (drop i rs)) ≡ []
unfolding joined
lines_end rs i h = rw (drop_of_length-le rs h) refl

-- ---- the whole

pub lines_exported : (t : List ℕ) (s : Sections) → Counted t s → lines_at t s.entryrows s.entries ≡ exported t
lines_exported t s c = rw (c.entryrows, c.batches, c.entries) (ap (λ rs. joined (map line_of_row rs)) (sym (entry_rows_at t)))

-- the lines stand in front of the lent bytes
pub export_stands : (t : List ℕ) (s : Sections) → Counted t s → (was after : List ℕ) (next : ℕ) → length (exported t) ≤ length was
    → Puts (lines_at t s.entryrows s.entries) was after 0 next → after ≡ exported t ++ drop (length (exported t)) was
export_stands t s c was after next h p =
    p.stands ∙ ap (sets was 0) (lines_exported t s c) ∙ sets-eq (exported t) was 0 (omega arith) ∙ rw zero-add
