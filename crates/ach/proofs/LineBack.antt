-- A line is read back, and so are all lines.
-- Assumes of each row that its six fields are bytes 0x20 to 0x7E, and its amount digits.
use Rattle.std.specs.Prelude.{Ok}
use Prim.Native.Nat.{ℕ, zero, suc, ◌+◌, ◌-◌, ◌≤◌}
use native.Mathlib.Omega.{arith}
use mathlib.Core.Path.{◌≡◌, refl, sym, ap, ap₂, ◌∙◌}
use mathlib.Core.Bool.{Bool, true, false, ◌||◌}
use mathlib.Core.List.{List, [], ◌∷◌, ◌++◌, map, append_assoc}
use borrow.Author.Tests.{le-leb, lt-leb, eq-eqb}
use lib.Dec.{leb}
use lib.ListN.{length, get_or, take, drop, length-append, length-take, length-drop}
use lib.Seq.{take-append_seam, drop-append_seam, drop-append-add, get_or-append-add, get_or-drop, drop-drop, length-take-le}
use Rattle.text.specs.Decimal.{every, is_digit, digits}
use Rattle.text.specs.Rows.{joined, cut}
use Rattle.text.proofs.DecimalLaws.{both_and, every_append, every_take, every_drop, every_at, every_from, digit_range}
use Rattle.text.proofs.RowLaws.{joined_cut}
use Rattle.layout.specs.declared.Fault.{Fault}
use Rattle.view.specs.Sized.{All}
use Rattle.csv_cells.specs.declared.Cell.{Cell}
use Rattle.csv_cells.specs.Cells.{cell_of, text_of, stop_from, text_from, fields_right, texts_from, last_stop, size_by, six_fields, six_texts, line_size, lines_from, lines_in, filled_to}
use Rattle.csv_entry.specs.Entries.{try, texts_verdict, line_verdict, all_columns, rest_of_row, row_of_line, entries_of_lines}
use Rattle.csv_entry.specs.Import.{line_answer, lines_answer}
use Rattle.csv_export.specs.Quoting.{trimmed, quoted, unpadded, amount_text}
use Rattle.csv_export.specs.Lining.{line_fields, comma_line, line_of_row}
use Rattle.csv_export.proofs.FieldLaws.{trimmed_take, trimmed_short}
use Rattle.ach.proofs.FieldBack.{is_printable, cell_back, text_back, filled_back, unpadded_every, right_back, digits_back}

-- ---- a field of the line that begins at a byte

module _ (xs : List ℕ) (at : ℕ) (p more : List ℕ) (t : every is_printable p ≡ true) (q : get_or more 0 0 ≡ 34 → ⊥) (e : drop at xs ≡ quoted p ++ more) where
  cell_here : cell_of (drop at xs) ≡ record { size = length (quoted p); whole = true }
  cell_here = ap cell_of e ∙ cell_back p more t q

  size_here : (cell_of (drop at xs)).size ≡ length (quoted p)
  size_here = ap (λ (c : Cell). c.size) cell_here

  whole_here : (cell_of (drop at xs)).whole ≡ true
  whole_here = ap (λ (c : Cell). c.whole) cell_here

  text_here : text_from xs at ≡ p
  text_here = ap₂ (λ n l. text_of (take n l)) size_here e ∙ ap text_of (take-append_seam (quoted p) more) ∙ text_back p

  -- the bytes behind it
  byte_behind : (i n : ℕ) → n ≡ stop_from xs at + i → get_or xs n 0 ≡ get_or more i 0
  byte_behind i n f =
      let there : n ≡ at + (length (quoted p) + i) = omega (arith, size_here) in
      ap (λ k. get_or xs k 0) there ∙ sym (get_or-drop at xs (length (quoted p) + i) 0) ∙ ap (λ l. get_or l (length (quoted p) + i) 0) e ∙ get_or-append-add (quoted p) more i 0

  rest_behind : (i n : ℕ) → n ≡ stop_from xs at + i → drop n xs ≡ drop i more
  rest_behind i n f =
      let there : n ≡ at + (length (quoted p) + i) = omega (arith, size_here) in
      ap (λ k. drop k xs) there ∙ sym (drop-drop (length (quoted p) + i) at xs) ∙ ap (drop (length (quoted p) + i)) e ∙ drop-append-add (quoted p) more i

-- ---- the fields of the line, from one on

abbrev pub Printable : List ℕ → Type 0
Printable p = every is_printable p ≡ true

-- these are the fields of the line that has them from a byte on, and behind its break the rest stands
pub record Back (xs : List ℕ) (at : ℕ) (p : List ℕ) (ps : List (List ℕ)) (rest : List ℕ) : Type 0 where
  pub right : fields_right (length ps) xs at ≡ true
  pub texts : texts_from (length ps) xs at ≡ p ∷ ps
  pub stop : drop (last_stop (length ps) xs at) xs ≡ 13 ∷ 10 ∷ rest

or_right : (a b : Bool) → b ≡ true → (a || b) ≡ true
or_right true b e = refl
or_right false b e = e

fields_back : (xs : List ℕ) (at : ℕ) (p : List ℕ) (ps : List (List ℕ)) (rest : List ℕ) → All Printable (p ∷ ps) → drop at xs ≡ comma_line (p ∷ ps) ++ rest → Back xs at p ps rest
unfolding fields_right texts_from last_stop comma_line
fields_back xs at p [] rest t e =
    let more : List ℕ = 13 ∷ 10 ∷ rest in
    let q : get_or more 0 0 ≡ 34 → ⊥ = λ z. omega arith in
    let f : drop at xs ≡ quoted p ++ more = e ∙ append_assoc (quoted p) (13 ∷ 10 ∷ []) rest in
    let stop = stop_from xs at in
    record {
      right = both_and (whole_here xs at p more t.0 q f)
          (or_right (leb (length xs) stop) _
          (both_and (eq-eqb (get_or xs stop 0) 13 (byte_behind xs at p more t.0 q f 0 stop (omega arith)))
          (eq-eqb (get_or xs (stop + 1) 0) 10 (byte_behind xs at p more t.0 q f 1 (stop + 1) refl))));
      texts = ap (λ x. x ∷ []) (text_here xs at p more t.0 q f);
      stop = rest_behind xs at p more t.0 q f 0 stop (omega arith);
    }
fields_back xs at p (p' ∷ ps) rest t e =
    let more : List ℕ = 44 ∷ (comma_line (p' ∷ ps) ++ rest) in
    let q : get_or more 0 0 ≡ 34 → ⊥ = λ z. omega arith in
    let f : drop at xs ≡ quoted p ++ more = e ∙ append_assoc (quoted p) (44 ∷ comma_line (p' ∷ ps)) rest in
    let stop = stop_from xs at in
    let b = fields_back xs (stop + 1) p' ps rest t.1 (rest_behind xs at p more t.0 q f 1 (stop + 1) refl) in
    record {
      right = both_and
          (both_and (whole_here xs at p more t.0 q f) (eq-eqb (get_or xs stop 0) 44 (byte_behind xs at p more t.0 q f 0 stop (omega arith))))
          b.right;
      texts = ap₂ (λ x l. x ∷ l) (text_here xs at p more t.0 q f) b.texts;
      stop = b.stop;
    }

-- the bytes of the line
size_back : (line rest : List ℕ) (stop : ℕ) → drop stop (line ++ rest) ≡ 13 ∷ 10 ∷ rest → size_by (line ++ rest) stop ≡ length line
size_back line rest stop e =
    let n : length (line ++ rest) - stop ≡ suc (suc (length rest)) = sym (length-drop stop (line ++ rest)) ∙ ap length e in
    rw (lt-leb (length (line ++ rest)) stop (omega arith)) (omega (arith, length-append line rest))

-- ---- the line of a row

-- a row whose six fields can stand in a line
pub record Plain (row : List ℕ) : Type 0 where
  pub long : length row ≡ 93
  pub code : Printable (take 2 row)
  pub routing : Printable (take 9 (drop 2 row))
  pub account : Printable (take 17 (drop 11 row))
  pub amount : digits (take 10 (drop 28 row)) ≡ true
  pub ident : Printable (take 15 (drop 38 row))
  pub name : Printable (take 22 (drop 53 row))

trimmed_printable : (p : List ℕ) → Printable p → Printable (trimmed p)
trimmed_printable p t = ap (every is_printable) (sym (trimmed_take p)) ∙ every_take is_printable (length (trimmed p)) p t

-- bytes of a narrower kind
pub printable_by : (f : ℕ → Bool) → ((b : ℕ) → f b ≡ true → is_printable b ≡ true) → (p : List ℕ) → every f p ≡ true → Printable p
printable_by f g p t = every_from is_printable p (λ k h. g (get_or p k 0) (every_at f p t k h))

pub digit_printable : (b : ℕ) → is_digit b ≡ true → is_printable b ≡ true
digit_printable b e = let r = digit_range b e in both_and (le-leb 32 b (omega arith)) (le-leb b 126 (omega arith))

pub digits_printable : (p : List ℕ) → digits p ≡ true → Printable p
digits_printable p d = printable_by is_digit digit_printable p d

amount_printable : (p : List ℕ) → digits p ≡ true → Printable (amount_text p)
unfolding every
amount_printable p d =
    every_append is_printable (unpadded (take 8 p)) (46 ∷ drop 8 p)
    ∙ both_and (unpadded_every is_printable (take 8 p) (every_take is_printable 8 p (digits_printable p d))) (every_drop is_printable 8 p (digits_printable p d))

short : (n : ℕ) (xs : List ℕ) → leb (length (trimmed (take n xs))) n ≡ true
short n xs = le-leb (length (trimmed (take n xs))) n (omega (arith, trimmed_short (take n xs), length-take n xs))

filled : (n : ℕ) (xs : List ℕ) → n ≤ length xs → filled_to n (trimmed (take n xs)) ≡ take n xs
filled n xs h = ap (λ m. filled_to m (trimmed (take n xs))) (sym (length-take-le n xs h)) ∙ filled_back (take n xs)

module _ (row : List ℕ) (w : Plain row) where
  fields_printable : All Printable (line_fields (54 ∷ row))
  fields_printable = (
    trimmed_printable (take 2 row) w.code,
    (
      trimmed_printable (take 9 (drop 2 row)) w.routing,
      (
        trimmed_printable (take 17 (drop 11 row)) w.account,
        (
          amount_printable (take 10 (drop 28 row)) w.amount,
          (trimmed_printable (take 15 (drop 38 row)) w.ident, (trimmed_printable (take 22 (drop 53 row)) w.name, tt)),
        ),
      ),
    ),
  )

  ten : length (take 10 (drop 28 row)) ≡ 10
  ten = omega (arith, length-take 10 (drop 28 row), length-drop 28 row, w.long)

  fields_pass : texts_verdict 1 (line_fields (54 ∷ row)) ≡ Ok tt
  unfolding texts_verdict
  fields_pass =
      rw (short 2 row, short 9 (drop 2 row), short 17 (drop 11 row), right_back (take 10 (drop 28 row)) ten w.amount, short 15 (drop 38 row), short 22 (drop 53 row)) refl

  columns_cut : joined (all_columns 1 (line_fields (54 ∷ row))) ≡ joined (cut (2 ∷ 9 ∷ 17 ∷ 10 ∷ 15 ∷ 22 ∷ []) row)
  unfolding all_columns cut joined
  columns_cut =
      rw (filled 2 row (omega (arith, w.long)), filled 9 (drop 2 row) (rw length-drop (omega (arith, w.long))), filled 17 (drop 11 row) (rw length-drop (omega (arith, w.long))), digits_back (take 10 (drop 28 row)) ten w.amount, filled 15 (drop 38 row) (rw length-drop (omega (arith, w.long))), filled 22 (drop 53 row) (rw length-drop (omega (arith, w.long))), drop-drop 9 2 row, drop-drop 17 11 row, drop-drop 10 28 row, drop-drop 15 38 row) refl

  module _ (rest : List ℕ) where
    line_back : Back (line_of_row row ++ rest) 0 (trimmed (take 2 row))
        (trimmed (take 9 (drop 2 row)) ∷ trimmed (take 17 (drop 11 row)) ∷ amount_text (take 10 (drop 28 row))
        ∷ trimmed (take 15 (drop 38 row)) ∷ trimmed (take 22 (drop 53 row)) ∷ []) rest
    line_back = fields_back (line_of_row row ++ rest) 0 (trimmed (take 2 row)) _ rest fields_printable refl

    pub six_back : six_fields (line_of_row row ++ rest) ≡ true
    six_back = line_back.right

    pub texts_back : six_texts (line_of_row row ++ rest) ≡ line_fields (54 ∷ row)
    texts_back = line_back.texts

    pub length_back : line_size (line_of_row row ++ rest) ≡ length (line_of_row row)
    length_back = size_back (line_of_row row) rest (last_stop 5 (line_of_row row ++ rest) 0) line_back.stop

    -- no fault is found in it
    pub passes_back : line_verdict (line_of_row row ++ rest) ≡ Ok tt
    passes_back = ap₂ (λ b ps. try b Fault.Comma 0 (texts_verdict 1 ps)) six_back texts_back ∙ fields_pass

    -- its row has the same columns, and behind them those that a line does not hold
    pub row_back : (bank : List ℕ) (k : ℕ) → row_of_line bank k (line_of_row row ++ rest) ≡ take 75 row ++ rest_of_row bank k
    row_back bank k =
        ap (λ ps. joined (all_columns 1 ps) ++ rest_of_row bank k) texts_back
        ∙ ap (λ l. l ++ rest_of_row bank k) (columns_cut ∙ joined_cut (2 ∷ 9 ∷ 17 ∷ 10 ∷ 15 ∷ 22 ∷ []) row)

-- ---- all lines

abbrev pub lines_of : List (List ℕ) → List ℕ
lines_of rs = joined (map line_of_row rs)

-- each line by the bytes from its first on
unfoldable pub tails_of : List (List ℕ) → List (List ℕ)
tails_of [] = []
tails_of (r ∷ rs) = (line_of_row r ++ lines_of rs) ∷ tails_of rs

lines_step : (n : ℕ) (xs : List ℕ) → 1 ≤ length xs → lines_from (suc n) xs ≡ xs ∷ lines_from n (drop (line_size xs) xs)
unfolding lines_from
lines_step n [] h = absurd (omega arith)
lines_step n (b ∷ bs) h = refl

line_some : (row : List ℕ) → 1 ≤ length (line_of_row row)
unfolding comma_line
line_some row = omega arith

lines_upto : (rs : List (List ℕ)) (n : ℕ) → All Plain rs → length (lines_of rs) ≤ n → lines_from n (lines_of rs) ≡ tails_of rs
unfolding joined tails_of lines_from
lines_upto [] zero w h = refl
lines_upto [] (suc n) w h = refl
lines_upto (r ∷ rs) zero w h = absurd (omega (arith, line_some r, length-append (line_of_row r) (lines_of rs)))
lines_upto (r ∷ rs) (suc n) w h =
    let xs = line_of_row r ++ lines_of rs in
    let size = length-append (line_of_row r) (lines_of rs) in
    lines_step n xs (omega (arith, line_some r))
    ∙ ap (λ k. xs ∷ lines_from n (drop k xs)) (length_back r w.0 (lines_of rs))
    ∙ ap (λ l. xs ∷ lines_from n l) (drop-append_seam (line_of_row r) (lines_of rs))
    ∙ ap (λ ls. xs ∷ ls) (lines_upto rs n w.1 (omega (arith, line_some r)))

pub lines_back : (rs : List (List ℕ)) → All Plain rs → lines_in (lines_of rs) ≡ tails_of rs
lines_back rs w = lines_upto rs (length (lines_of rs)) w (omega arith)

-- no line has a fault
pub lines_granted : (k : ℕ) (rs : List (List ℕ)) → All Plain rs → lines_answer k (tails_of rs) ≡ Ok tt
unfolding lines_answer tails_of
lines_granted k [] w = refl
lines_granted k (r ∷ rs) w =
    ap (λ v. line_answer v k (lines_answer (k + 1) (tails_of rs))) (passes_back r w.0 (lines_of rs)) ∙ lines_granted (k + 1) rs w.1

-- the six fields of each row come back, in order
pub fields_again : (bank : List ℕ) (k : ℕ) (rs : List (List ℕ)) → All Plain rs → map (λ e. take 75 e.row) (entries_of_lines bank k (tails_of rs)) ≡ map (take 75) rs
unfolding entries_of_lines tails_of
fields_again bank k [] w = refl
fields_again bank k (r ∷ rs) w =
    let six : take 75 (row_of_line bank k (line_of_row r ++ lines_of rs)) ≡ take 75 r =
    ap (take 75) (row_back r w.0 (lines_of rs) bank k) ∙ front r w.0 (rest_of_row bank k) in
    ap₂ (λ x l. x ∷ l) six (fields_again bank (k + 1) rs w.1)
  where
    front : (r : List ℕ) → Plain r → (ys : List ℕ) → take 75 (take 75 r ++ ys) ≡ take 75 r
    front r w ys = ap (λ n. take n (take 75 r ++ ys)) (sym (length-take-le 75 r (omega (arith, w.long)))) ∙ take-append_seam (take 75 r) ys
