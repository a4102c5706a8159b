-- The walk along the six fields of a line, and the lines one behind another.
-- Assumes nothing.
use Rattle.std.proofs.Common.{◌≡◌, ℕ, zero, suc, ◌+◌, ◌-◌, ◌<◌, ◌≤◌, Bool, true, false, ◌&&◌, ◌||◌, List, [], ◌∷◌, ◌++◌, leb, eqb, Ok, Err, length, get_or, take, drop, replicate, refl, sym, ap, ◌∙◌, arith, lit≤, zero-add, add-one, append_assoc, length-drop, length-append, Bor, drop-cons, drop-drop, drop_of_length-le}
use Rattle.std.proofs.lemmas.List.{length-replicate, take_at, drop_at, get_or-map, length-map}
use Rattle.std.proofs.Math.ListN.{get_or-eq_default}
use Rattle.std.proofs.Math.Seq.{length-sets}
use Rattle.std.proofs.lemmas.List.Edits.{sets, sets-eq}
use lib.ListN.{set}
use borrow.Rule.Slice.PartMut.{put_mid}
use borrow.Author.Tests.{leb-true, leb-false, eqb-true}
use Rattle.text.specs.Decimal.{pick, render}
use Rattle.text.specs.Rows.{joined}
use Rattle.text.proofs.DecimalLaws.{and_both, length_render}
use Rattle.text.proofs.SetLaws.{sets_append}
use Rattle.layout.specs.declared.Fault.{Fault}
use Rattle.check_record.specs.declared.Wrong.{Wrong}
use Rattle.check_record.specs.Verdict.{Verdict}
use Rattle.csv_cells.specs.Cells.{undoubled, cell_of, stop_from, break_at, fields_right, texts_from, last_stop, size_by, six_fields, six_texts, line_size, lines_from, lines_in, filled_to}
use Rattle.csv_cells.proofs.CellLaws.{texts_in}
use Rattle.csv_entry.specs.Entries.{amount_right, cents_in, field_wide, field_right, field_fault, try, texts_verdict, line_verdict, columns_of, all_columns, column_at, rest_of_row, row_of_line, empty_row}

-- a text with blanks behind it
pub length_filled : (w : ℕ) (p : List ℕ) → length p ≤ w → length (filled_to w p) ≡ w
length_filled w p h = length-append p (replicate (w - length p) 32) ∙ rw length-replicate (omega arith)

-- ---- the first fault

-- one field more, of those whose texts are ts
pub verdict_at : (k : ℕ) (ts : List (List ℕ)) (i : ℕ) → i < length ts
    → texts_verdict k (drop i ts) ≡ try (field_right k (get_or ts i [])) (field_fault k) k (texts_verdict (k + 1) (drop (i + 1) ts))
unfolding texts_verdict
verdict_at k ts i h = rw (drop-cons ts i [] h, add-one i) refl

pub verdict_end : (k : ℕ) (ts : List (List ℕ)) (i : ℕ) → length ts ≤ i → texts_verdict k (drop i ts) ≡ Ok tt
unfolding texts_verdict
verdict_end k ts i h = rw drop_of_length-le refl

-- what passes, passes its first test
pub passed : (b : Bool) (fault : Fault) (k : ℕ) (rest : Verdict) → try b fault k rest ≡ Ok tt → (b ≡ true) × (rest ≡ Ok tt)
passed true fault k rest e = (refl, e)
passed false fault k rest e = cc e

failed : (b : Bool) (fault : Fault) (k : ℕ) (rest : Verdict) (wrong : Wrong) → Err wrong ≡ try b fault k (Ok tt) → Err wrong ≡ try b fault k rest
failed true fault k rest wrong e = cc e
failed false fault k rest wrong e = e

-- the text of a field, of those in which a line was found
pub text_at : (fields : List (Bor (List ℕ))) (ts : List (List ℕ)) (i : ℕ) (d : Bor (List ℕ)) → texts_in fields ≡ ts → i < length ts
    → undoubled false (get_or fields i d).now ≡ get_or ts i []
text_at fields ts i d e h =
    sym (get_or-map (λ field. undoubled false field.now) fields i d [] (omega (arith, ap length e, length-map fields (λ field. undoubled false field.now)))) ∙ ap (λ t. get_or t i []) e

-- the first i fields have no fault
pub record Tested (fields : List (Bor (List ℕ))) (i : ℕ) : Type 0 where
  pub rest : texts_verdict (i + 1) (drop i (texts_in fields)) ≡ texts_verdict 1 (texts_in fields)

pub tested_first : (fields : List (Bor (List ℕ))) → Tested fields 0
tested_first fields = record { rest = refl }

module _ (fields : List (Bor (List ℕ))) (i : ℕ) (d : Bor (List ℕ)) (t : Tested fields i) where
  abbrev verdict : Verdict → Verdict
  verdict rest = try (field_right (i + 1) (undoubled false (get_or fields i d).now)) (field_fault (i + 1)) (i + 1) rest

  step : i < length fields → verdict (texts_verdict (i + 1 + 1) (drop (i + 1) (texts_in fields))) ≡ texts_verdict 1 (texts_in fields)
  step h =
      let l : i < length (texts_in fields) = rw length-map h in
      rw (text_at fields (texts_in fields) i d refl l) (sym (verdict_at (i + 1) (texts_in fields) i l) ∙ t.rest)

  pub tested_wrong : i < length fields → (wrong : Wrong) → Err wrong ≡ verdict (Ok tt) → Err wrong ≡ texts_verdict 1 (texts_in fields)
  tested_wrong h wrong e = failed _ (field_fault (i + 1)) (i + 1) (texts_verdict (i + 1 + 1) (drop (i + 1) (texts_in fields))) wrong e ∙ step h

  pub tested_on : i < length fields → verdict (Ok tt) ≡ Ok tt → Tested fields (i + 1)
  tested_on h e =
      let right = (passed _ (field_fault (i + 1)) (i + 1) (Ok tt) e).0 in
      record { rest = rw right at (step h) }

pub tested_all : (fields : List (Bor (List ℕ))) (i : ℕ) → Tested fields i → length fields ≤ i → Ok tt ≡ texts_verdict 1 (texts_in fields)
tested_all fields i t h = sym (verdict_end (i + 1) (texts_in fields) i (rw length-map h)) ∙ t.rest

-- ---- widths, by the field's number

by_field : (P : ℕ → Type 0) → P 1 → P 2 → P 3 → P 4 → P 5 → P 6 → (k : ℕ) → 1 ≤ k → k ≤ 6 → P k
by_field P a b c d e f zero h g = absurd (omega arith)
by_field P a b c d e f (suc zero) h g = a
by_field P a b c d e f (suc (suc zero)) h g = b
by_field P a b c d e f (suc (suc (suc zero))) h g = c
by_field P a b c d e f (suc (suc (suc (suc zero)))) h g = d
by_field P a b c d e f (suc (suc (suc (suc (suc zero))))) h g = e
by_field P a b c d e f (suc (suc (suc (suc (suc (suc zero)))))) h g = f
by_field P a b c d e f (suc (suc (suc (suc (suc (suc (suc k))))))) h g = absurd (omega arith)

pub column_next : (k : ℕ) → 1 ≤ k → k ≤ 6 → column_at k + field_wide k ≡ column_at (k + 1)
column_next = by_field (λ k. column_at k + field_wide k ≡ column_at (k + 1)) refl refl refl refl refl refl

pub column_end : (k : ℕ) → 1 ≤ k → k ≤ 6 → column_at k + field_wide k ≤ 75
column_end = by_field (λ k. column_at k + field_wide k ≤ 75) (lit≤ tt) (lit≤ tt) (lit≤ tt) (lit≤ tt) (lit≤ tt) (lit≤ tt)

-- where the fields begin, as the code has it
abbrev pub starts : List ℕ
starts = 0 ∷ 2 ∷ 11 ∷ 28 ∷ 38 ∷ 53 ∷ 75 ∷ []

pub width_is : (k : ℕ) → 1 ≤ k → k ≤ 6 → get_or starts k 0 - get_or starts (k - 1) 0 ≡ field_wide k
width_is = by_field (λ k. get_or starts k 0 - get_or starts (k - 1) 0 ≡ field_wide k) refl refl refl refl refl refl

-- a field that is right fills its columns
pub columns_long : (k : ℕ) (p : List ℕ) → field_right k p ≡ true → length (columns_of k p) ≡ field_wide k
columns_long k p e = go (eqb k 4) e
  where
    go : (b : Bool) → pick b (amount_right p) (leb (length p) (field_wide k)) ≡ true → length (pick b (render (field_wide k) (cents_in p)) (filled_to (field_wide k) p)) ≡ field_wide k
    go true f = length_render (field_wide k) (cents_in p)
    go false f = length_filled (field_wide k) p (leb-true (length p) (field_wide k) f)

-- the whole row
pub columns_all : (k : ℕ) (ps : List (List ℕ)) → texts_verdict k ps ≡ Ok tt → 1 ≤ k → k + length ps ≡ 7 → column_at k + length (joined (all_columns k ps)) ≡ 75
unfolding texts_verdict all_columns joined
columns_all k [] e h l = let n : k ≡ 7 = omega arith in rw n refl
columns_all k (p ∷ ps) e h l =
    let both = passed (field_right k p) (field_fault k) k (texts_verdict (k + 1) ps) e in
    let rest = columns_all (k + 1) ps both.1 (omega arith) (omega arith) in
    omega (arith, rest, length-append (columns_of k p) (joined (all_columns (k + 1) ps)), columns_long k p both.0, column_next k h (omega arith))

pub texts_many : (n : ℕ) (xs : List ℕ) (at : ℕ) → length (texts_from n xs at) ≡ n + 1
unfolding texts_from
texts_many zero xs at = refl
texts_many (suc n) xs at = omega (arith, texts_many n xs (stop_from xs at + 1))

pub six_long : (xs : List ℕ) → texts_verdict 1 (six_texts xs) ≡ Ok tt → length (joined (all_columns 1 (six_texts xs))) ≡ 75
six_long xs e = sym (zero-add (length (joined (all_columns 1 (six_texts xs))))) ∙ columns_all 1 (six_texts xs) e (lit≤ tt) (omega (arith, texts_many 5 xs 0))

pub row_made : (bank : List ℕ) (number : ℕ) (xs row : List ℕ) → texts_verdict 1 (six_texts xs) ≡ Ok tt → row ≡ empty_row bank number
    → sets row 0 (joined (all_columns 1 (six_texts xs))) ≡ row_of_line bank number xs
row_made bank number xs row e f =
    let l = six_long xs e in
    ap (λ r. sets r 0 (joined (all_columns 1 (six_texts xs)))) f
    ∙ sets-eq (joined (all_columns 1 (six_texts xs))) (empty_row bank number) 0 (omega (arith, l, length-append (replicate 75 32) (rest_of_row bank number)))
    ∙ rw (zero-add, l) refl

-- ---- the line's faults and size

pub line_passed : (xs : List ℕ) → line_verdict xs ≡ Ok tt → (six_fields xs ≡ true) × (texts_verdict 1 (six_texts xs) ≡ Ok tt)
line_passed xs e = passed (six_fields xs) Fault.Comma 0 (texts_verdict 1 (six_texts xs)) e

-- a break lies in the line's bytes
pub break_inside : (xs : List ℕ) (stop : ℕ) → break_at xs stop ≡ true → size_by xs stop ≤ length xs
break_inside xs stop e = go (leb (length xs) stop) refl e
  where
    beyond : (i : ℕ) → length xs ≤ i → get_or xs i 0 ≡ 0
    beyond i h = get_or-eq_default xs 0 h

    go : (b : Bool) → leb (length xs) stop ≡ b → (b || (eqb (get_or xs stop 0) 13 && eqb (get_or xs (stop + 1) 0) 10)) ≡ true → pick b (length xs) (stop + 2) ≤ length xs
    go true f g = omega arith
    go false f g =
        let ten = eqb-true (get_or xs (stop + 1) 0) 10 (and_both (eqb (get_or xs stop 0) 13) (eqb (get_or xs (stop + 1) 0) 10) g).1 in
        inside (leb (length xs) (stop + 1)) refl ten
      where
        inside : (b : Bool) → leb (length xs) (stop + 1) ≡ b → get_or xs (stop + 1) 0 ≡ 10 → stop + 2 ≤ length xs
        inside true h t = absurd (omega (arith, beyond (stop + 1) (leb-true (length xs) (stop + 1) h)))
        inside false h t = omega (arith, leb-false (length xs) (stop + 1) h)

right_break : (n : ℕ) (xs : List ℕ) (at : ℕ) → fields_right n xs at ≡ true → break_at xs (last_stop n xs at) ≡ true
unfolding fields_right last_stop
right_break zero xs at e = (and_both (cell_of (drop at xs)).whole (break_at xs (stop_from xs at)) e).1
right_break (suc n) xs at e =
    right_break n xs (stop_from xs at + 1) (and_both ((cell_of (drop at xs)).whole && eqb (get_or xs (stop_from xs at) 0) 44) (fields_right n xs (stop_from xs at + 1)) e).1

pub line_inside : (xs : List ℕ) → six_fields xs ≡ true → line_size xs ≤ length xs
line_inside xs e = break_inside xs (last_stop 5 xs 0) (right_break 5 xs 0 e)

pub line_some : (xs : List ℕ) → 1 ≤ length xs → 1 ≤ line_size xs
line_some xs h = go (leb (length xs) (last_stop 5 xs 0))
  where
    go : (b : Bool) → 1 ≤ pick b (length xs) (last_stop 5 xs 0 + 2)
    go true = h
    go false = omega arith

-- ---- the lines

-- as many steps as there are bytes are enough
lines_enough : (n m : ℕ) (xs : List ℕ) → length xs ≤ n → length xs ≤ m → lines_from n xs ≡ lines_from m xs
unfolding lines_from
lines_enough zero zero xs h g = refl
lines_enough zero (suc m) [] h g = refl
lines_enough zero (suc m) (b ∷ bs) h g = absurd (omega arith)
lines_enough (suc n) zero [] h g = refl
lines_enough (suc n) zero (b ∷ bs) h g = absurd (omega arith)
lines_enough (suc n) (suc m) [] h g = refl
lines_enough (suc n) (suc m) (b ∷ bs) h g =
    let l = length-drop (line_size (b ∷ bs)) (b ∷ bs) in
    let s = line_some (b ∷ bs) (omega arith) in
    ap (λ ls. (b ∷ bs) ∷ ls) (lines_enough n m (drop (line_size (b ∷ bs)) (b ∷ bs)) (omega arith) (omega arith))

pub lines_next : (xs : List ℕ) → 1 ≤ length xs → lines_in xs ≡ xs ∷ lines_in (drop (line_size xs) xs)
unfolding lines_from
lines_next [] h = absurd (omega arith)
lines_next (b ∷ bs) h =
    let l = length-drop (line_size (b ∷ bs)) (b ∷ bs) in
    let s = line_some (b ∷ bs) (omega arith) in
    ap (λ ls. (b ∷ bs) ∷ ls) (lines_enough (length bs) (length (drop (line_size (b ∷ bs)) (b ∷ bs))) (drop (line_size (b ∷ bs)) (b ∷ bs)) (omega arith) (omega arith))

pub lines_none : (xs : List ℕ) → length xs ≤ 0 → lines_in xs ≡ []
unfolding lines_from
lines_none [] h = refl
lines_none (b ∷ bs) h = absurd (omega arith)

lines_few : (n : ℕ) (xs : List ℕ) → length (lines_from n xs) ≤ n
unfolding lines_from
lines_few zero xs = omega arith
lines_few (suc n) [] = omega arith
lines_few (suc n) (b ∷ bs) = omega (arith, lines_few n (drop (line_size (b ∷ bs)) (b ∷ bs)))

pub lines_count : (xs : List ℕ) → length (lines_in xs) ≤ length xs
lines_count xs = lines_few (length xs) xs

-- ---- fields put into the row

-- bytes put in place of a part
pub part_put : (r ys v : List ℕ) (from to : ℕ) → from ≤ to → to ≤ length r → ys ≡ v → length v ≡ to - from → take from r ++ (ys ++ drop (to - from) (drop from r)) ≡ sets r from v
part_put r ys v from to h g e l =
    rw (e, drop-drop (to - from) from r)
    (sym (sets-eq v r from (omega arith) ∙ rw (l, append_assoc (take from r) v (drop (from + (to - from)) r))))

-- i fields are put into the row, and the line whose texts are ts has no fault
pub record Placing (ts : List (List ℕ)) (whole row : List ℕ) (i : ℕ) : Type 0 where
  pub long : length row ≡ 93
  pub right : texts_verdict (i + 1) (drop i ts) ≡ Ok tt
  pub put : sets row (column_at (i + 1)) (joined (all_columns (i + 1) (drop i ts))) ≡ whole

pub place_first : (bank : List ℕ) (number : ℕ) (xs row : List ℕ) → line_verdict xs ≡ Ok tt → length row ≡ 93 → row ≡ empty_row bank number
    → Placing (six_texts xs) (row_of_line bank number xs) row 0
place_first bank number xs row e l f = record { long = l; right = (line_passed xs e).1; put = row_made bank number xs row (line_passed xs e).1 f }

module _ (ts : List (List ℕ)) (whole row : List ℕ) (i : ℕ) (at : Placing ts whole row i) where
  pub field_passed : i < length ts → (field_right (i + 1) (get_or ts i []) ≡ true) × (texts_verdict (i + 1 + 1) (drop (i + 1) ts) ≡ Ok tt)
  field_passed h =
      passed (field_right (i + 1) (get_or ts i [])) (field_fault (i + 1)) (i + 1) (texts_verdict (i + 1 + 1) (drop (i + 1) ts))
      (sym (verdict_at (i + 1) ts i h) ∙ at.right)

  pub place_on : (made : List ℕ) → i < 6 → length ts ≡ 6 → made ≡ sets row (column_at (i + 1)) (columns_of (i + 1) (get_or ts i [])) → Placing ts whole made (i + 1)
  unfolding all_columns joined
  place_on made h m e =
      record {
        long = ap length e ∙ length-sets row (column_at (i + 1)) p ∙ at.long;
        right = (field_passed (omega arith)).1;
        put =
            ap (λ r. sets r (column_at (i + 1 + 1)) rest) e
            ∙ ap (λ n. sets (sets row (column_at (i + 1)) p) n rest) (sym next)
            ∙ sym (sets_append row (column_at (i + 1)) p rest)
            ∙ ap (λ ps. sets row (column_at (i + 1)) (joined (all_columns (i + 1) ps))) (sym here)
            ∙ at.put;
      }
    where
      p : List ℕ
      p = columns_of (i + 1) (get_or ts i [])

      rest : List ℕ
      rest = joined (all_columns (i + 1 + 1) (drop (i + 1) ts))

      here : drop i ts ≡ get_or ts i [] ∷ drop (i + 1) ts
      here = drop-cons ts i [] (omega arith) ∙ ap (λ n. get_or ts i [] ∷ drop n ts) (sym (add-one i))

      next : column_at (i + 1) + length p ≡ column_at (i + 1 + 1)
      next = ap (λ n. column_at (i + 1) + n) (columns_long (i + 1) (get_or ts i []) (field_passed (omega arith)).0) ∙ column_next (i + 1) (omega arith) (omega arith)

  -- the same, as the code puts the columns
  pub place_put : (from to : ℕ) (columns p : List ℕ) → i < 6 → length ts ≡ 6 → from ≡ get_or starts i 0 → to ≡ get_or starts (i + 1) 0
      → columns ≡ columns_of (i + 1) p → p ≡ get_or ts i [] → Placing ts whole (put_mid from (to - from) row columns) (i + 1)
  place_put from to columns p h m f t e g = place_on (put_mid from (to - from) row columns) h m (put ∙ ap (λ n. sets row n (columns_of (i + 1) (get_or ts i []))) first)
    where
      here : columns ≡ columns_of (i + 1) (get_or ts i [])
      here = e ∙ ap (columns_of (i + 1)) g

      first : from ≡ column_at (i + 1)
      first = f ∙ ap (λ n. get_or starts n 0) (omega arith)

      last : to ≡ column_at (i + 1 + 1)
      last = t ∙ ap (λ n. get_or starts n 0) (omega arith)

      wide : column_at (i + 1) + field_wide (i + 1) ≡ column_at (i + 1 + 1)
      wide = column_next (i + 1) (omega arith) (omega arith)

      long : length (columns_of (i + 1) (get_or ts i [])) ≡ field_wide (i + 1)
      long = columns_long (i + 1) (get_or ts i []) (field_passed (omega arith)).0

      put : put_mid from (to - from) row columns ≡ sets row from (columns_of (i + 1) (get_or ts i []))
      put = part_put row columns (columns_of (i + 1) (get_or ts i [])) from to (omega (arith, first, last, wide)) (omega (arith, first, last, wide, column_end (i + 1) (omega arith) (omega arith), at.long)) here (omega (arith, first, last, wide, long))

  pub place_end : 6 ≤ i → i ≤ 6 → length ts ≡ 6 → row ≡ whole
  unfolding all_columns joined
  place_end h g m = sym (ap (λ ps. sets row (column_at (i + 1)) (joined (all_columns (i + 1) ps))) none) ∙ at.put
    where
      none : drop i ts ≡ []
      none = drop_of_length-le ts (omega arith)

-- the row before its fields: bytes and digits put over blanks
pub empty_made : (bank made digits : List ℕ) (number : ℕ) → length bank ≡ 8 → made ≡ bank → digits ≡ render (length (take 7 (drop 8 (made ++ replicate 7 32)))) number
    → take 86 (replicate 77 32 ++ 48 ∷ (made ++ replicate 7 32)) ++ (digits ++ drop 7 (drop 86 (replicate 77 32 ++ 48 ∷ (made ++ replicate 7 32)))) ≡ empty_row bank number
unfolding joined
empty_made bank made digits number l e f = ap (λ x. replicate 77 32 ++ 48 ∷ x) behind
  where
    rest : drop 8 (made ++ replicate 7 32) ≡ replicate 7 32
    rest = rw e (drop_at bank (replicate 7 32) 8 l)

    front : take 8 (made ++ replicate 7 32) ≡ bank
    front = rw e (take_at bank (replicate 7 32) 8 l)

    behind : take 8 (made ++ replicate 7 32) ++ (digits ++ drop 7 (drop 8 (made ++ replicate 7 32))) ≡ bank ++ (render 7 number ++ [])
    behind = rw (f, rest, front) refl

-- the same, where the bank is put into the whole row
pub bank_put : (bank digits r : List ℕ) (number : ℕ) → length bank ≡ 8 → r ≡ sets (set (replicate 93 32) 77 48) 78 bank → digits ≡ render (length (take 7 (drop 86 r))) number
    → take 86 r ++ (digits ++ drop 7 (drop 86 r)) ≡ empty_row bank number
bank_put bank digits r number l e f = rw known (empty_made bank bank digits number l refl (rw known at f))
  where
    base : List ℕ
    base = set (replicate 93 32) 77 48

    known : r ≡ replicate 77 32 ++ 48 ∷ (bank ++ replicate 7 32)
    known = e ∙ sets-eq bank base 78 (rw l (lit≤ tt)) ∙ rw l refl
