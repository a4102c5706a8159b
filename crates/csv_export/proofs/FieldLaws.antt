-- Laws of a field: blanks at its end, leading zeros, doubled quotes, and the pieces that it is put in.
-- Assumes nothing.
use Prim.Native.Nat.{ℕ, suc, ◌+◌, ◌-◌, ◌*◌, ◌≤◌, ◌<◌}
use native.Mathlib.Numerals.{add-one}
use native.Mathlib.Omega.{arith}
use mathlib.Core.Path.{◌≡◌, refl, sym, ap, ◌∙◌, subst}
use mathlib.Core.Bool.{Bool, true, false, ◌&&◌}
use mathlib.Core.List.{List, [], ◌∷◌, ◌++◌, append_assoc}
use borrow.Author.Tests.{eq-eqb, ne_eqb, lt-ltb}
use lib.Dec.{eqb, ltb}
use lib.ListN.{length, get_or, take, drop, length-append, length-take, length-drop, drop_of_length-le}
use lib.Seq.{take-suc, take_all, drop-cons}
use Rattle.std.proofs.lemmas.List.{take_rest}
use Rattle.std.specs.Prelude.{count_by, ◌==◌}
use Rattle.std.proofs.Common.{cond}
use Rattle.std.proofs.lemmas.List.Sums.{sum_by-cons, count_by-le-length}
use Rattle.text.specs.Decimal.{pick}
use Rattle.table_read.specs.WorkPuts.{Puts, Room}
use Rattle.csv_export.specs.Quoting.{in_front, trimmed, escaped, doubled, quoted, cell, unpadded, amount_text}

-- ---- blanks at the end

pub trimmed_blank : (xs : List ℕ) → trimmed (xs ++ 32 ∷ []) ≡ trimmed xs
unfolding trimmed
trimmed_blank [] = refl
trimmed_blank (x ∷ xs) = ap (in_front x) (trimmed_blank xs)

front_some : (x : ℕ) (xs : List ℕ) (b : ℕ) → in_front x (xs ++ b ∷ []) ≡ x ∷ (xs ++ b ∷ [])
front_some x [] b = refl
front_some x (y ∷ ys) b = refl

trimmed_other : (xs : List ℕ) (b : ℕ) → (b ≡ 32 → ⊥) → trimmed (xs ++ b ∷ []) ≡ xs ++ b ∷ []
unfolding trimmed
trimmed_other [] b h = rw (ne_eqb b 32 h)
trimmed_other (x ∷ xs) b h = ap (in_front x) (trimmed_other xs b h) ∙ front_some x xs b

-- what is left stands in front
front_take : (b : ℕ) (bs t : List ℕ) → take (length t) bs ≡ t → take (length (in_front b t)) (b ∷ bs) ≡ in_front b t
front_take b bs [] h = go (eqb b 32)
  where
    go : (x : Bool) → take (length (pick x [] (b ∷ []))) (b ∷ bs) ≡ pick x [] (b ∷ [])
    go true = refl
    go false = refl
front_take b bs (c ∷ cs) h = ap (λ l. b ∷ l) h

pub trimmed_take : (xs : List ℕ) → take (length (trimmed xs)) xs ≡ trimmed xs
unfolding trimmed
trimmed_take [] = refl
trimmed_take (x ∷ xs) = front_take x xs (trimmed xs) (trimmed_take xs)

pub trimmed_short : (xs : List ℕ) → length (trimmed xs) ≤ length xs
trimmed_short xs = omega (arith, ap length (trimmed_take xs), length-take (length (trimmed xs)) xs)

-- by the last byte
module _ (xs : List ℕ) (some : 1 ≤ length xs) where
  last_apart : xs ≡ take (length xs - 1) xs ++ get_or xs (length xs - 1) 0 ∷ []
  last_apart =
      let n : suc (length xs - 1) ≡ length xs = omega arith in
      sym (take_all (length xs) xs (omega arith)) ∙ ap (λ k. take k xs) (sym n) ∙ take-suc xs (length xs - 1) 0 (omega arith)

  pub trimmed_front : get_or xs (length xs - 1) 0 ≡ 32 → trimmed (take (length xs - 1) xs) ≡ trimmed xs
  trimmed_front e = sym (ap trimmed last_apart ∙ ap (λ b. trimmed (take (length xs - 1) xs ++ b ∷ [])) e ∙ trimmed_blank (take (length xs - 1) xs))

  pub trimmed_whole : (get_or xs (length xs - 1) 0 ≡ 32 → ⊥) → trimmed xs ≡ xs
  trimmed_whole h = ap trimmed last_apart ∙ trimmed_other (take (length xs - 1) xs) (get_or xs (length xs - 1) 0) h ∙ sym last_apart

pub trimmed_none : (xs : List ℕ) → length xs < 1 → trimmed xs ≡ xs
unfolding trimmed
trimmed_none [] h = refl
trimmed_none (x ∷ xs) h = absurd (omega arith)

-- ---- leading zeros

pub unpadded_zero : (xs : List ℕ) → 2 ≤ length xs → get_or xs 0 0 ≡ 48 → unpadded (take (length xs - 1) (drop 1 xs)) ≡ unpadded xs
unfolding unpadded
unpadded_zero [] h e = absurd (omega arith)
unpadded_zero (x ∷ xs) h e = rw (take_rest, eq-eqb x 48 e, lt-ltb 0 (length xs) (omega arith)) refl

pub unpadded_other : (xs : List ℕ) → 1 ≤ length xs → (get_or xs 0 0 ≡ 48 → ⊥) → unpadded xs ≡ xs
unfolding unpadded
unpadded_other [] h d = absurd (omega arith)
unpadded_other (x ∷ xs) h d = rw (ne_eqb x 48 d) refl

pub unpadded_last : (xs : List ℕ) → length xs < 2 → unpadded xs ≡ xs
unfolding unpadded
unpadded_last [] h = refl
unpadded_last (x ∷ []) h = go (eqb x 48)
  where
    go : (b : Bool) → pick (b && ltb 0 0) [] (x ∷ []) ≡ x ∷ []
    go true = refl
    go false = refl
unpadded_last (x ∷ y ∷ ys) h = absurd (omega arith)

pub unpadded_short : (xs : List ℕ) → length (unpadded xs) ≤ length xs
unfolding unpadded
unpadded_short [] = omega arith
unpadded_short (x ∷ xs) = go (eqb x 48 && ltb 0 (length xs)) (unpadded_short xs)
  where
    go : (b : Bool) → length (unpadded xs) ≤ length xs → length (pick b (unpadded xs) (x ∷ xs)) ≤ length (x ∷ xs)
    go true h = omega arith
    go false h = omega arith

-- ---- doubled quotes

pub escaped_size : (b : ℕ) → length (escaped b) ≤ 2
escaped_size b = go (eqb b 34)
  where
    go : (x : Bool) → length (pick x (34 ∷ 34 ∷ []) (b ∷ [])) ≤ 2
    go true = omega arith
    go false = omega arith

pub escaped_quote : (b : ℕ) → b ≡ 34 → escaped b ≡ b ∷ b ∷ []
escaped_quote b e = rw e refl

pub escaped_other : (b : ℕ) → (b ≡ 34 → ⊥) → escaped b ≡ b ∷ []
escaped_other b d = rw (ne_eqb b 34 d) refl

pub doubled_next : (xs : List ℕ) (i : ℕ) → i < length xs → doubled (drop i xs) ≡ escaped (get_or xs i 0) ++ doubled (drop (i + 1) xs)
unfolding doubled
doubled_next xs i h = rw (add-one, drop-cons xs i 0)

pub doubled_end : (xs : List ℕ) (i : ℕ) → length xs ≤ i → doubled (drop i xs) ≡ []
unfolding doubled
doubled_end xs i h = rw (drop_of_length-le xs h)

pub doubled_append : (xs ys : List ℕ) → doubled (xs ++ ys) ≡ doubled xs ++ doubled ys
unfolding doubled
doubled_append [] ys = refl
doubled_append (x ∷ xs) ys = rw (doubled_append xs ys) (sym (append_assoc (escaped x) (doubled xs) (doubled ys)))

-- a text takes one byte more for each quote
pub doubled_count : (xs : List ℕ) → length xs + count_by (λ b. b == 34) xs ≡ length (doubled xs)
unfolding doubled
doubled_count [] = refl
doubled_count (x ∷ xs) = omega (arith, sum_by-cons (λ b. cond (b == 34) 1 0) x xs, doubled_count xs, length-append (escaped x) (doubled xs), go (eqb x 34))
  where
    go : (b : Bool) → length (pick b (34 ∷ 34 ∷ []) (x ∷ [])) ≡ 1 + cond b 1 0
    go true = refl
    go false = refl

pub doubled_short : (xs : List ℕ) → length (doubled xs) ≤ 2 * length xs
doubled_short xs = omega (arith, doubled_count xs, count_by-le-length (λ b. b == 34) xs)

-- ---- the same bytes, in other pieces

pub room_as : {xs ys a : List ℕ} {to : ℕ} → xs ≡ ys → Room xs a to → Room ys a to
room_as {xs} {ys} {a} {to} e h = subst (λ l. Room l a to) e h

pub puts_as : {xs ys a b : List ℕ} {to next : ℕ} → xs ≡ ys → Puts ys a b to next → Puts xs a b to next
puts_as {xs} {ys} {a} {b} {to} {next} e h = subst (λ l. Puts l a b to next) (sym e) h

pub puts_into : {xs a b c : List ℕ} {to next : ℕ} → c ≡ b → Puts xs a b to next → Puts xs a c to next
puts_into {xs} {a} {b} {c} {to} {next} e h = subst (λ l. Puts xs a l to next) (sym e) h

-- ---- in quotes

pub quoted_size : (p : List ℕ) → length (quoted p) ≡ length (doubled p) + 2
quoted_size p = omega (arith, length-append (doubled p) (34 ∷ []))

pub text_short : (p : List ℕ) → length (quoted (trimmed p)) ≤ 2 * length p + 2
text_short p = omega (arith, quoted_size (trimmed p), doubled_short (trimmed p), trimmed_short p)

-- a field: a quote, the text, a quote, and the byte behind
pub cell_pieces : (p q : List ℕ) (b : ℕ) → q ≡ p → cell p b ≡ (34 ∷ []) ++ (doubled q ++ ((34 ∷ []) ++ (b ∷ [])))
unfolding cell
cell_pieces p q b e = rw e (ap (λ l. 34 ∷ l) (append_assoc (doubled p) (34 ∷ []) (b ∷ [])))

-- an amount: the dollars, the point and the cents
module _ (a dollars cents : List ℕ) (d : dollars ≡ unpadded (take 8 a)) (c : cents ≡ drop 8 a) where
  amount_doubled : doubled (amount_text a) ≡ doubled dollars ++ ((46 ∷ []) ++ doubled cents)
  unfolding doubled
  amount_doubled = rw (d, c) (doubled_append (unpadded (take 8 a)) (46 ∷ drop 8 a))

  pub amount_length : length (quoted (amount_text a)) ≡ length (doubled dollars) + length (doubled cents) + 3
  amount_length = omega (arith, quoted_size (amount_text a), ap length amount_doubled, length-append (doubled dollars) ((46 ∷ []) ++ doubled cents))

  pub amount_short : length a ≤ 10 → length (quoted (amount_text a)) ≤ 23
  amount_short h =
      let few : length dollars ≤ 8 = omega (arith, ap length d, unpadded_short (take 8 a), length-take 8 a) in
      let two : length cents ≤ 2 = omega (arith, ap length c, length-drop 8 a) in
      omega (arith, amount_length, doubled_short dollars, doubled_short cents)

  pub amount_pieces : (b : ℕ) → cell (amount_text a) b ≡ (34 ∷ []) ++ (doubled dollars ++ ((46 ∷ []) ++ (doubled cents ++ ((34 ∷ []) ++ (b ∷ [])))))
  amount_pieces b =
      cell_pieces (amount_text a) (amount_text a) b refl
      ∙ ap (λ l. 34 ∷ (l ++ (34 ∷ b ∷ []))) amount_doubled
      ∙ ap (λ l. 34 ∷ l) (append_assoc (doubled dollars) (46 ∷ doubled cents) (34 ∷ b ∷ []))
