-- The walk along a field, along the fields of a line, and along a text with one quote for two.
-- Assumes nothing.
use Rattle.std.proofs.Common.{◌≡◌, ◌≢◌, ℕ, zero, suc, ◌+◌, ◌-◌, ◌<◌, ◌≤◌, Bool, true, false, ◌&&◌, List, [], ◌∷◌, ◌++◌, eqb, length, get_or, take, drop, set, replicate, Option, Some, None, unwrap_or, MatchOption, refl, sym, ap, ap₂, ◌∙◌, arith, drop-cons, add-one, drop_of_length-le, length-set, append_assoc, map, Bor, get_or-drop, add-zero}
use Rattle.std.proofs.lemmas.List.{take_rest, take_all, map-set, length-map}
use Rattle.std.proofs.lemmas.Bool.Decides.{nat_tests}
use Rattle.std.specs.List.{starts_with}
use Rattle.std.proofs.lemmas.Grind.{take-set_at}
use borrow.Author.Tests.{eq-eqb, ne_eqb}
use Rattle.csv_cells.specs.declared.Scan.{Scan}
use Rattle.csv_cells.specs.Cells.{go_on, is_stuck, may_end, size_from, ends_from, cell_of, undoubled, stop_from, text_from, break_at, fields_right, texts_from, last_stop, size_by, six_fields, six_texts, line_size, filled_to}

-- ---- a field

-- i bytes of the field at the front of s have been walked over
pub record Walked (s : List ℕ) (i : ℕ) (scan : Scan) : Type 0 where
  pub size : i + size_from scan (drop i s) ≡ size_from Scan.Fresh s
  pub ends : ends_from scan (drop i s) ≡ ends_from Scan.Fresh s

pub walk_first : (s : List ℕ) → Walked s 0 Scan.Fresh
walk_first s = record { size = omega arith; ends = refl }

module _ (s : List ℕ) (i : ℕ) (scan next : Scan) (w : Walked s i scan) (e : next ≡ go_on scan (get_or s i 0)) where
  -- one byte more
  pub walk_on : i < length s → next ≢ Scan.Stuck → Walked s (i + 1) next
  unfolding size_from ends_from
  walk_on h f =
      record { size = omega (arith, w.size, size_more); ends = sym ends_more ∙ w.ends }
    where
      go : (st : Scan) → st ≢ Scan.Stuck → is_stuck st ≡ false
      go Scan.Stuck n = absurd (n refl)
      go _ n = refl

      free : is_stuck (go_on scan (get_or s i 0)) ≡ false
      free = rw (← e) (go next f)

      size_more : size_from scan (drop i s) ≡ 1 + size_from next (drop (i + 1) s)
      size_more = rw (drop-cons s i 0 h, free, add-one i, ← e) refl

      ends_more : ends_from scan (drop i s) ≡ ends_from next (drop (i + 1) s)
      ends_more = rw (drop-cons s i 0 h, free, add-one i, ← e) refl

  -- the field goes no further
  pub walk_stops : i < length s → next ≡ Scan.Stuck → (whole : Bool) → whole ≡ may_end scan → record { size = i; whole = whole } ≡ cell_of s
  unfolding size_from ends_from
  walk_stops h f whole k =
      ap₂ (λ n b. record { size = n; whole = b }) (omega (arith, w.size, size_stuck)) (k ∙ sym ends_stuck ∙ w.ends)
    where
      stuck : is_stuck (go_on scan (get_or s i 0)) ≡ true
      stuck = rw (← e, f) refl

      size_stuck : size_from scan (drop i s) ≡ 0
      size_stuck = rw (drop-cons s i 0 h, stuck) refl

      ends_stuck : ends_from scan (drop i s) ≡ may_end scan
      ends_stuck = rw (drop-cons s i 0 h, stuck) refl

-- the bytes end
pub walk_ends : (s : List ℕ) (i : ℕ) (scan : Scan) → Walked s i scan → length s ≤ i → i ≤ length s → (whole : Bool) → whole ≡ may_end scan → record { size = length s; whole = whole } ≡ cell_of s
unfolding size_from ends_from
walk_ends s i scan w h h' whole k =
    ap₂ (λ n b. record { size = n; whole = b }) (omega (arith, w.size, size_end)) (k ∙ sym ends_end ∙ w.ends)
  where
    size_end : size_from scan (drop i s) ≡ 0
    size_end = rw drop_of_length-le refl

    ends_end : ends_from scan (drop i s) ≡ may_end scan
    ends_end = rw drop_of_length-le refl

-- ---- a text

pub text_short : (second : Bool) (s : List ℕ) → length (undoubled second s) ≤ length s
unfolding undoubled
text_short second [] = omega arith
text_short true (b ∷ bs) = omega (arith, text_short false bs)
text_short false (b ∷ bs) = omega (arith, text_short (eqb b 34) bs)

-- behind the first of two quotes the second is passed over
second_quote : (bs : List ℕ) → undoubled true bs ≡ undoubled false (drop 1 bs)
unfolding undoubled
second_quote [] = refl
second_quote (b ∷ bs) = refl

pub text_end : (s : List ℕ) → length s < 1 → undoubled false s ≡ []
unfolding undoubled
text_end [] h = refl
text_end (b ∷ bs) h = absurd (omega arith)

pub text_quote : (s : List ℕ) → 2 ≤ length s → get_or s 0 0 ≡ 34 → undoubled false s ≡ 34 ∷ undoubled false (take (length s - 2) (drop 2 s))
unfolding undoubled
text_quote [] h e = absurd (omega arith)
text_quote (b ∷ []) h e = absurd (omega arith)
text_quote (b ∷ c ∷ bs) h e = rw (take_rest, eq-eqb b 34 e, e) (ap (λ x. 34 ∷ x) (second_quote (c ∷ bs)))

pub text_plain : (s : List ℕ) → 1 ≤ length s → get_or s 0 0 ≢ 34 → undoubled false s ≡ get_or s 0 0 ∷ undoubled false (take (length s - 1) (drop 1 s))
unfolding undoubled
text_plain [] h e = absurd (omega arith)
text_plain (b ∷ bs) h e = rw (take_rest, ne_eqb b 34 e) refl

pub text_last : (s : List ℕ) → length s ≡ 1 → undoubled false s ≡ get_or s 0 0 ∷ undoubled false (take (length s - 1) (drop 1 s))
unfolding undoubled
text_last [] h = absurd (omega arith)
text_last (b ∷ []) h = refl
text_last (b ∷ c ∷ bs) h = absurd (omega arith)

pub ruleset text_bytes = (text_end, text_quote, text_plain, text_last)

-- ---- a text with blanks behind it

-- i bytes are written, and p is what is left of the whole text
pub record Filled (to p text : List ℕ) (i : ℕ) : Type 0 where
  pub room : i + length p ≤ length to
  pub put : take i to ++ filled_to (length to - i) p ≡ filled_to (length to) text

-- one byte more: r is what came next of p, and q what is left of it
pub fill_on : (to p q text : List ℕ) (i b : ℕ) (r : Option ℕ) → Filled to p text i → i < length to → b ≡ unwrap_or r 32
    → MatchOption r ((p ≡ []) × (q ≡ [])) (λ x. p ≡ x ∷ q) → Filled (set to i b) q text (i + 1)
fill_on to p q text i b r f h e m =
    record {
      room = rw length-set (room r m);
      put = rw (written, length-set) (append_assoc (take i to) (b ∷ []) (filled_to (length to - (i + 1)) q) ∙ ap (λ x. take i to ++ x) (next r e m) ∙ f.put);
    }
  where
    n : ℕ
    n = length to - (i + 1)

    written : take (i + 1) (set to i b) ≡ take i to ++ b ∷ []
    written = take-set_at to i (i + 1) b refl h

    room : (r : Option ℕ) → MatchOption r ((p ≡ []) × (q ≡ [])) (λ x. p ≡ x ∷ q) → i + 1 + length q ≤ length to
    room None m = rw m.1 (omega arith)
    room (Some x) m = omega (arith, f.room, ap length m)

    blanks : ◌≡◌ {A = List ℕ} (replicate (length to - i - 0) 32) (32 ∷ replicate (n - 0) 32)
    blanks = let k : length to - i - 0 ≡ suc (n - 0) = omega arith in rw k refl

    next : (r : Option ℕ) → b ≡ unwrap_or r 32 → MatchOption r ((p ≡ []) × (q ≡ [])) (λ x. p ≡ x ∷ q) → b ∷ filled_to n q ≡ filled_to (length to - i) p
    next None e m = rw (e, m.0, m.1) (sym blanks)
    next (Some x) e m =
        let k : length to - i - suc (length q) ≡ n - length q = omega arith in
        rw (e, m, k) refl

-- ---- the fields of a line

-- a comma at a byte, as the code looks for it
comma_at : (xs : List ℕ) (i : ℕ) → starts_with eqb (take (length xs - i) (drop i xs)) (44 ∷ []) ≡ eqb (get_or xs i 0) 44
comma_at xs i = ap (λ ys. starts_with eqb ys (44 ∷ [])) (take_rest xs i) ∙ go (drop i xs) ∙ ap (λ b. eqb b 44) (rw (get_or-drop, add-zero) refl)
  where
    go : (ys : List ℕ) → starts_with eqb ys (44 ∷ []) ≡ eqb (get_or ys 0 0) 44
    go [] = refl
    go (y ∷ ys) = grind (arith, nat_tests)

-- one field, with n more behind it, and the last
module _ (n : ℕ) (xs : List ℕ) (at : ℕ) where
  open_field : (cell_of (drop at xs)).whole ≡ false → fields_right n xs at ≡ false
  unfolding fields_right
  open_field w = go n
    where
      go : (n : ℕ) → fields_right n xs at ≡ false
      go zero = rw w refl
      go (suc n) = rw w refl

  apart_field : eqb (get_or xs (stop_from xs at) 0) 44 ≡ false → fields_right (suc n) xs at ≡ false
  unfolding fields_right
  apart_field m = rw m (go (cell_of (drop at xs)).whole)
    where
      go : (b : Bool) → (b && false && fields_right n xs (stop_from xs at + 1)) ≡ false
      go true = refl
      go false = refl

  right_field : (cell_of (drop at xs)).whole ≡ true → eqb (get_or xs (stop_from xs at) 0) 44 ≡ true
      → fields_right (suc n) xs at ≡ fields_right n xs (stop_from xs at + 1)
  unfolding fields_right
  right_field w m = rw (w, m) refl

  stop_field : last_stop (suc n) xs at ≡ last_stop n xs (stop_from xs at + 1)
  unfolding last_stop
  stop_field = refl

  text_field : texts_from (suc n) xs at ≡ text_from xs at ∷ texts_from n xs (stop_from xs at + 1)
  unfolding texts_from
  text_field = refl

last_right : (xs : List ℕ) (at : ℕ) → (cell_of (drop at xs)).whole ≡ true → fields_right 0 xs at ≡ break_at xs (stop_from xs at)
unfolding fields_right
last_right xs at w = rw w refl

last_stop_is : (xs : List ℕ) (at : ℕ) → last_stop 0 xs at ≡ stop_from xs at
unfolding last_stop
last_stop_is xs at = refl

last_text : (xs : List ℕ) (at : ℕ) → texts_from 0 xs at ≡ text_from xs at ∷ []
unfolding texts_from
last_text xs at = refl

-- the texts of fields
abbrev pub texts_in : List (Bor (List ℕ)) → List (List ℕ)
texts_in fields = map (λ field. undoubled false field.now) fields

texts_set : (fields : List (Bor (List ℕ))) (k : ℕ) (field : Bor (List ℕ)) → k < length fields
    → take (k + 1) (texts_in (set fields k field)) ≡ take k (texts_in fields) ++ undoubled false field.now ∷ []
texts_set fields k field h =
    rw map-set (take-set_at (texts_in fields) k (k + 1) (undoubled false field.now) refl (rw length-map h))

-- k fields of a line are found, and the next one begins at a byte
pub record Found (xs : List ℕ) (fields : List (Bor (List ℕ))) (at k : ℕ) : Type 0 where
  pub inside : at ≤ length xs
  pub many : length fields ≡ 6
  pub right : fields_right (5 - k) xs at ≡ six_fields xs
  pub stop : last_stop (5 - k) xs at ≡ last_stop 5 xs 0
  pub texts : take k (texts_in fields) ++ texts_from (5 - k) xs at ≡ six_texts xs

module _ (xs : List ℕ) (fields : List (Bor (List ℕ))) (at k : ℕ) (f : Found xs fields at k) where
  pub found_open : false ≡ (cell_of (drop at xs)).whole → false ≡ six_fields xs
  found_open w = sym (open_field (5 - k) xs at (sym w)) ∙ f.right

  module _ (stop : ℕ) (e : stop ≡ stop_from xs at) where
    comma : (b : Bool) → starts_with eqb (take (length xs - stop) (drop stop xs)) (44 ∷ []) ≡ b → eqb (get_or xs (stop_from xs at) 0) 44 ≡ b
    comma b m = ap (λ i. eqb (get_or xs i 0) 44) (sym e) ∙ sym (comma_at xs stop) ∙ m

    pub found_apart : k < 5 → starts_with eqb (take (length xs - stop) (drop stop xs)) (44 ∷ []) ≡ false → false ≡ six_fields xs
    found_apart h m =
        let e5 : suc (5 - (k + 1)) ≡ 5 - k = omega arith in
        sym (apart_field (5 - (k + 1)) xs at (comma false m)) ∙ ap (λ n. fields_right n xs at) e5 ∙ f.right

    pub found_on : k < 5 → starts_with eqb (take (length xs - stop) (drop stop xs)) (44 ∷ []) ≡ true → true ≡ (cell_of (drop at xs)).whole → stop < length xs
        → (field : Bor (List ℕ)) → undoubled false field.now ≡ text_from xs at → Found xs (set fields k field) (stop + 1) (k + 1)
    found_on h m w l field t =
        record {
          inside = omega arith;
          many = length-set fields k field ∙ f.many;
          right = ap (λ i. fields_right n xs (i + 1)) e ∙ sym (right_field n xs at (sym w) (comma true m)) ∙ ap (λ n. fields_right n xs at) e5 ∙ f.right;
          stop = ap (λ i. last_stop n xs (i + 1)) e ∙ sym (stop_field n xs at) ∙ ap (λ n. last_stop n xs at) e5 ∙ f.stop;
          texts =
              ap (λ p. p ++ texts_from n xs (stop + 1)) (texts_set fields k field (omega (arith, f.many)))
              ∙ append_assoc (take k (texts_in fields)) (undoubled false field.now ∷ []) (texts_from n xs (stop + 1))
              ∙ ap (λ p. take k (texts_in fields) ++ p) (ap₂ (λ p i. p ∷ texts_from n xs (i + 1)) t e ∙ sym (text_field n xs at) ∙ ap (λ n. texts_from n xs at) e5)
              ∙ f.texts;
        }
      where
        n : ℕ
        n = 5 - (k + 1)

        e5 : suc n ≡ 5 - k
        e5 = omega arith

    -- the last field
    pub found_stands : k ≡ 5 → true ≡ (cell_of (drop at xs)).whole → break_at xs stop ≡ six_fields xs
    found_stands h w = ap (break_at xs) e ∙ sym (last_right xs at (sym w)) ∙ ap (λ n. fields_right (5 - n) xs at) (sym h) ∙ f.right

    pub found_size : k ≡ 5 → size_by xs stop ≡ line_size xs
    found_size h = ap (size_by xs) (e ∙ sym (last_stop_is xs at) ∙ ap (λ n. last_stop (5 - n) xs at) (sym h) ∙ f.stop)

  pub found_texts : k ≡ 5 → (field : Bor (List ℕ)) → undoubled false field.now ≡ text_from xs at → texts_in (set fields 5 field) ≡ six_texts xs
  found_texts h field t =
      sym (take_all 6 (texts_in (set fields 5 field)) (rw (length-map, length-set) (omega (arith, f.many))))
      ∙ texts_set fields 5 field (omega (arith, f.many))
      ∙ ap (λ p. take 5 (texts_in fields) ++ p ∷ []) t
      ∙ ap (λ p. take 5 (texts_in fields) ++ p) (sym (last_text xs at))
      ∙ ap (λ n. take n (texts_in fields) ++ texts_from (5 - n) xs at) (sym h)
      ∙ f.texts
