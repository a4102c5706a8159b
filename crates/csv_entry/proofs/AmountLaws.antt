-- Amounts: the dollars of any number of digits, and that a text with a quote is none.
-- Assumes nothing.
use Rattle.std.proofs.Common.{◌≡◌, ℕ, suc, ◌+◌, ◌-◌, ◌*◌, ◌^◌, ◌≤◌, min, Bool, true, false, not, List, [], ◌∷◌, ◌++◌, leb, eqb, ◌==◌, length, get_or, take, drop, refl, sym, ap, ◌∙◌, arith, append_assoc, length-append, length-drop, drop-cons}
use Rattle.std.proofs.lemmas.Bool.{false≢true}
use Rattle.std.proofs.lemmas.List.{take_at, drop_at, get_or_at, take-append-drop}
use Rattle.std.proofs.lemmas.Bool.Decides.{nat_tests}
use borrow.Author.Tests.{eqb-true, ne_eqb, leb-true, le-leb, not-true}
use Rattle.text.specs.Decimal.{every, is_digit, digits, value}
use Rattle.text.proofs.DecimalLaws.{and_both, both_and, every_cut, digit_range, value_lt}
use Rattle.csv_cells.specs.Cells.{undoubled}
use Rattle.csv_entry.specs.Entries.{amount_form, cents_in, amount_right}

-- ---- the amount, by its parts

module _ (dollars cents : List ℕ) (two : length cents ≡ 2) where
  abbrev whole : ℕ → List ℕ
  whole point = dollars ++ point ∷ cents

  long : (point : ℕ) → length (whole point) ≡ length dollars + 3
  long point = omega (arith, length-append dollars (point ∷ cents))

  front_is : (point : ℕ) → take (length (whole point) - 3) (whole point) ≡ dollars
  front_is point = take_at dollars (point ∷ cents) (length (whole point) - 3) (omega (arith, long point))

  point_is : (point : ℕ) → get_or (whole point) (length (whole point) - 3) 0 ≡ point
  point_is point = get_or_at dollars point cents 0 (length (whole point) - 3) (omega (arith, long point))

  back_is : (point : ℕ) → drop (length (whole point) - 2) (whole point) ≡ cents
  back_is point =
      ap (drop (length (whole point) - 2)) (sym (append_assoc dollars (point ∷ []) cents))
      ∙ drop_at (dollars ++ point ∷ []) cents (length (whole point) - 2) (omega (arith, long point, length-append dollars (point ∷ [])))

  cents_small : value cents ≤ 99
  cents_small = omega (arith, ap (λ n. 10 ^ n) two, value_lt cents)

-- as the code has cut them out and tested them: n is what it takes for the dollars
pub record Parted (p dollars cents : List ℕ) (n : ℕ) : Type 0 where
  pub right : true ≡ amount_right p
  pub sum : n * 100 + value cents ≡ cents_in p
  pub small : n * 100 + value cents ≤ 9999999999

pub parted : (p front dollars cents : List ℕ) (point n : ℕ) → front ≡ take (length p - 2) p → cents ≡ drop (length p - 2) p → length front + 2 ≡ length p
    → front ≡ dollars ++ point ∷ [] → point ≡ 46 → (length dollars == 0) ≡ false → digits dollars ≡ true → digits cents ≡ true
    → n ≡ min (value dollars) (2 ^ 64 - 1) → n ≤ 99999999 → Parted p dollars cents n
parted p front dollars cents point n f c l d e some a b m h = go p (sym (take-append-drop (length p - 2) p) ∙ rw (← f, ← c, d, e) (append_assoc dollars (46 ∷ []) cents))
  where
    two : length cents ≡ 2
    two = rw (c, length-drop) (omega arith)

    v : value dollars ≤ 99999999
    v = omega arith

    k : n ≡ value dollars
    k = omega arith

    go : (p : List ℕ) → p ≡ dollars ++ 46 ∷ cents → Parted p dollars cents n
    go p w =
        let four : leb 4 (length (dollars ++ 46 ∷ cents)) ≡ true = let g = long dollars cents two 46 in grind (arith, nat_tests) in
        let form : amount_form p ≡ true = rw (w, four, front_is dollars cents two 46, point_is dollars cents two 46, back_is dollars cents two 46, a, b) refl in
        let sum : n * 100 + value cents ≡ cents_in p = rw (w, front_is dollars cents two 46, back_is dollars cents two 46, k) refl in
        let small : n * 100 + value cents ≤ 9999999999 = omega (arith, cents_small dollars cents two) in
        record { right = sym (both_and form (le-leb (cents_in p) 9999999999 (omega arith))); sum = sum; small = small }

-- ---- a text with a quote is no amount

abbrev no_quote : List ℕ → Bool
no_quote p = every (λ b. not (eqb b 34)) p

plain_digits : (xs : List ℕ) → digits xs ≡ true → no_quote xs ≡ true
unfolding every
plain_digits [] e = refl
plain_digits (b ∷ bs) e =
    let both = and_both (is_digit b) (digits bs) e in
    let far : eqb b 34 ≡ false = ne_eqb b 34 (λ z. omega (arith, (digit_range b both.0).0)) in
    let first : not (eqb b 34) ≡ true = rw far refl in
    both_and first (plain_digits bs both.1)

point_at : (p : List ℕ) → 4 ≤ length p → drop (length p - 3) p ≡ get_or p (length p - 3) 0 ∷ drop (length p - 2) p
point_at p h =
    let n : suc (length p - 3) ≡ length p - 2 = omega arith in
    drop-cons p (length p - 3) 0 (omega arith) ∙ ap (λ k. get_or p (length p - 3) 0 ∷ drop k p) n

plain_form : (p : List ℕ) → amount_form p ≡ true → no_quote p ≡ true
unfolding every
plain_form p e =
    let a = and_both _ _ e in
    let b = and_both _ _ a.0 in
    let c = and_both _ _ b.0 in
    let long = leb-true 4 (length p) c.0 in
    let point : eqb (get_or p (length p - 3) 0) 34 ≡ false = ne_eqb (get_or p (length p - 3) 0) 34 (λ z. omega (arith, eqb-true (get_or p (length p - 3) 0) 46 b.1)) in
    every_cut (λ x. not (eqb x 34)) (length p - 3) p
    ∙ rw (plain_digits (take (length p - 3) p) c.1, point_at p long, point, plain_digits (drop (length p - 2) p) a.1) refl

plain_text : (p : List ℕ) → no_quote p ≡ true → undoubled false p ≡ p
unfolding undoubled every
plain_text [] e = refl
plain_text (b ∷ bs) e =
    let both = and_both (not (eqb b 34)) (no_quote bs) e in
    let far : eqb b 34 ≡ false = not-true (eqb b 34) both.0 in
    ap (λ x. b ∷ undoubled x bs) far ∙ ap (λ l. b ∷ l) (plain_text bs both.1)

plain_before : (p : List ℕ) → no_quote (undoubled false p) ≡ true → no_quote p ≡ true
unfolding undoubled every
plain_before [] e = refl
plain_before (b ∷ bs) e =
    let both = and_both (not (eqb b 34)) (no_quote (undoubled (eqb b 34) bs)) e in
    let far : eqb b 34 ≡ false = not-true (eqb b 34) both.0 in
    both_and both.0 (plain_before bs (ap (λ x. no_quote (undoubled x bs)) (sym far) ∙ both.1))

-- an amount has no quote, so that it is its own text
pub amount_plain : (p : List ℕ) → amount_right p ≡ true → undoubled false p ≡ p
amount_plain p e = plain_text p (plain_form p (and_both _ _ e).0)

pub amount_same : (p : List ℕ) → amount_right p ≡ amount_right (undoubled false p)
amount_same p = go (amount_right p) refl (amount_right (undoubled false p)) refl
  where
    go : (a : Bool) → amount_right p ≡ a → (b : Bool) → amount_right (undoubled false p) ≡ b → amount_right p ≡ amount_right (undoubled false p)
    go true e b f = ap amount_right (sym (amount_plain p e))
    go false e true f =
        let q = plain_text p (plain_before p (plain_form (undoubled false p) (and_both _ _ f).0)) in
        absurd (false≢true (sym e ∙ ap amount_right (sym q) ∙ f))
    go false e false f = e ∙ sym f
