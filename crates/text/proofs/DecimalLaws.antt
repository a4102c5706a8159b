-- Laws of tests over all bytes, of equal slices, and of numbers in decimal digits.
-- Assumes nothing.
use mathlib.Core.Path.{◌≡◌, refl, sym, ap, ◌∙◌}
use mathlib.Core.Logic.{◌↔◌}
use mathlib.Core.Bool.{Bool, true, false, ◌&&◌, and_assoc}
use mathlib.Core.List.{List, [], ◌∷◌, ◌++◌}
use Prim.Native.Nat.{ℕ, zero, suc, ◌+◌, ◌-◌, ◌*◌, ◌/◌, ◌%◌, ◌^◌, ◌≤◌, ◌<◌, zero-le, suc-le-suc}
use native.Mathlib.Nat.{pow-suc, pow-le-pow_right, one-le-pow, le_refl, le_of_suc-le-suc, mod-lt, mod-eq_of_lt, mod-one, add-mul, mul_assoc, mul_comm, mul_right_comm, zero-add, suc_inj}
use native.Mathlib.Numerals.{add-one, sub-one}
use native.Mathlib.Omega.{arith}
use borrow.Author.Tests.{leb-true, le-leb, eqb-true, eq-eqb}
use lib.Arith.{digits_lt, digits_div, digits_mod, mod-mul}
use lib.Dec.{eqb, leb, lit<}
use lib.ListN.{length, take, drop, get_or, set, length-append, take-append-drop, drop_of_length-le}
use lib.Seq.{drop-cons, append_snoc, get_or-set_same, drop-set-lt, lt-length-set}
use lib.Pointwise.{pointwise}
use Rattle.std.specs.List.{list_all}
use Rattle.std.proofs.lemmas.List.{take_more, take_all, length-take-le}
use Rattle.text.specs.Decimal.{every, is_digit, digits, digit_of, value_from, value, render}
use Rattle.text.specs.Same.{same_bytes}

-- ---- a test of all bytes

-- two tests at once
pub and_both : (a b : Bool) → (a && b) ≡ true → (a ≡ true) × (b ≡ true)
and_both true b e = (refl, e)
and_both false b e = (e, cc)

-- both tests, as one
pub both_and : {a b : Bool} → a ≡ true → b ≡ true → (a && b) ≡ true
both_and e f = rw (e, f)

-- the test of two parts
pub every_append : (p : ℕ → Bool) (xs ys : List ℕ) → every p (xs ++ ys) ≡ every p xs && every p ys
unfolding every
every_append p [] ys = refl
every_append p (x ∷ xs) ys = rw (every_append p xs ys) (sym (and_assoc (p x) (every p xs) (every p ys)))

-- the test of the bytes before n and of those from n on
pub every_cut : (p : ℕ → Bool) (n : ℕ) (xs : List ℕ) → every p xs ≡ every p (take n xs) && every p (drop n xs)
every_cut p n xs = ap (every p) (sym (take-append-drop n xs)) ∙ every_append p (take n xs) (drop n xs)

-- where the whole passes, the part before n does
pub every_take : (p : ℕ → Bool) (n : ℕ) (xs : List ℕ) → every p xs ≡ true → every p (take n xs) ≡ true
every_take p n xs e = (and_both (every p (take n xs)) (every p (drop n xs)) (sym (every_cut p n xs) ∙ e)).0

-- and the part from n on
pub every_drop : (p : ℕ → Bool) (n : ℕ) (xs : List ℕ) → every p xs ≡ true → every p (drop n xs) ≡ true
every_drop p n xs e = (and_both (every p (take n xs)) (every p (drop n xs)) (sym (every_cut p n xs) ∙ e)).1

-- every byte passes, by its place
pub every_at : (p : ℕ → Bool) (xs : List ℕ) → every p xs ≡ true → (k : ℕ) → k < length xs → p (get_or xs k 0) ≡ true
unfolding every
every_at p [] e k h = absurd (omega arith)
every_at p (x ∷ xs) e zero h = (and_both (p x) (every p xs) e).0
every_at p (x ∷ xs) e (suc k) h = every_at p xs (and_both (p x) (every p xs) e).1 k (le_of_suc-le-suc h)

-- and back: all places pass, so the whole does
pub every_from : (p : ℕ → Bool) (xs : List ℕ) → ((k : ℕ) → k < length xs → p (get_or xs k 0) ≡ true) → every p xs ≡ true
unfolding every
every_from p [] f = refl
every_from p (x ∷ xs) f = both_and (f zero (suc-le-suc zero-le)) (every_from p xs (λ k h. f (suc k) (suc-le-suc h)))

-- as the library's word has it
pub every_is : (p : ℕ → Bool) (xs : List ℕ) → every p xs ≡ list_all p xs
unfolding every
every_is p [] = refl
every_is p (x ∷ xs) = ap (λ b. p x && b) (every_is p xs)

-- the test of the first i bytes is that of all, once i is the length
pub every_whole : (p : ℕ → Bool) (xs : List ℕ) (i : ℕ) → length xs ≤ i → list_all p (take i xs) ≡ every p xs
every_whole p xs i h = rw take_all (sym (every_is p xs))

-- ---- equal slices

-- as the library's word has it
pub same_is : (xs ys : List ℕ) → same_bytes xs ys ≡ pointwise eqb xs ys
unfolding same_bytes
same_is [] [] = refl
same_is [] (y ∷ ys) = refl
same_is (x ∷ xs) [] = refl
same_is (x ∷ xs) (y ∷ ys) = ap (λ b. eqb x y && b) (same_is xs ys)

-- the test finds the slices equal exactly if they are
pub same_equal : (xs ys : List ℕ) → (same_bytes xs ys ≡ true) ↔ (xs ≡ ys)
unfolding same_bytes
same_equal xs ys = (there xs ys, λ e. rw (← e) (itself xs))
  where
    there : (xs ys : List ℕ) → same_bytes xs ys ≡ true → xs ≡ ys
    there [] [] e = refl
    there [] (y ∷ ys) e = cc
    there (x ∷ xs) [] e = cc
    there (x ∷ xs) (y ∷ ys) e =
        let b = and_both (eqb x y) (same_bytes xs ys) e in
        rw (eqb-true x y b.0, there xs ys b.1)

    itself : (xs : List ℕ) → same_bytes xs xs ≡ true
    itself [] = refl
    itself (x ∷ xs) = both_and (eq-eqb x x refl) (itself xs)

-- slices of two lengths
pub same_length : (xs ys : List ℕ) → (length xs ≡ length ys → ⊥) → same_bytes xs ys ≡ false
same_length xs ys h = go (same_bytes xs ys) refl
  where
    go : (t : Bool) → same_bytes xs ys ≡ t → t ≡ false
    go true e = absurd (h (ap length ((same_equal xs ys).0 e)))
    go false e = refl

-- ---- digits

-- a digit lies between '0' and '9'
pub digit_range : (b : ℕ) → is_digit b ≡ true → (48 ≤ b) × (b ≤ 57)
digit_range b e = let t = and_both (leb 48 b) (leb b 57) e in (leb-true 48 b t.0, leb-true b 57 t.1)

-- the digit that is written for d
pub digit_of_lem : (d : ℕ) → d < 10 → is_digit (48 + d) ≡ true
digit_of_lem d h = both_and (le-leb 48 (48 + d) (omega arith)) (le-leb (48 + d) 57 (omega arith))

-- and what it counts
pub digit_count : (d : ℕ) → d < 10 → digit_of (48 + d) ≡ d
digit_count d h = rw (digit_of_lem d h) (omega arith)

-- a digit is what its count is written as
pub digit_back : (b : ℕ) → is_digit b ≡ true → b ≡ 48 + digit_of b
digit_back b e = let r = digit_range b e in rw e (omega arith)

-- a byte counts at most 9
pub digit_of_lt : (b : ℕ) → digit_of b < 10
digit_of_lt b = go (is_digit b) refl
  where
    go : (t : Bool) → is_digit b ≡ t → digit_of b < 10
    go true e = rw e (omega (arith, digit_range b e))
    go false e = rw e (omega arith)

-- ---- the number that digits write

-- after more digits
pub value_append : (n : ℕ) (xs ys : List ℕ) → value_from n (xs ++ ys) ≡ value_from (value_from n xs) ys
unfolding value_from
value_append n [] ys = refl
value_append n (x ∷ xs) ys = value_append (n * 10 + digit_of x) xs ys

-- after one digit more at the end
pub value_snoc : (n : ℕ) (xs : List ℕ) (b : ℕ) → value_from n (xs ++ b ∷ []) ≡ value_from n xs * 10 + digit_of b
unfolding value_from
value_snoc n xs b = value_append n xs (b ∷ [])

-- one digit more of a list
pub value_more : (xs : List ℕ) (i : ℕ) → i < length xs → value (take (i + 1) xs) ≡ value (take i xs) * 10 + digit_of (get_or xs i 0)
value_more xs i h = ap value (take_more xs i 0 h) ∙ value_snoc 0 (take i xs) (get_or xs i 0)

-- with one digit less at the front
pub value_next : (n : ℕ) (xs : List ℕ) (i : ℕ) → i < length xs → value_from n (drop i xs) ≡ value_from (n * 10 + digit_of (get_or xs i 0)) (drop (i + 1) xs)
unfolding value_from
value_next n xs i h = rw (add-one, drop-cons xs i 0)

-- with none left
pub value_end : (n : ℕ) (xs : List ℕ) (i : ℕ) → length xs ≤ i → value_from n (drop i xs) ≡ n
unfolding value_from
value_end n xs i h = rw (drop_of_length-le xs h)

-- a number that stands before the digits moves up by their count
pub value_from_lem : (n : ℕ) (xs : List ℕ) → value_from n xs ≡ n * 10 ^ length xs + value xs
unfolding value_from
value_from_lem n [] = omega arith
value_from_lem n (x ∷ xs) =
    let d = digit_of x in
    let k = 10 ^ length xs in
    rw (value_from_lem (n * 10 + d) xs, value_from_lem (0 + d) xs, pow-suc)
    (omega (arith, add-mul (n * 10) d k, add-mul 0 d k, mul_right_comm n 10 k, mul_assoc n k 10))

-- the first digit counts most
pub value_cons : (b : ℕ) (xs : List ℕ) → value (b ∷ xs) ≡ digit_of b * 10 ^ length xs + value xs
unfolding value_from
value_cons b xs = rw (zero-add (digit_of b)) (value_from_lem (digit_of b) xs)

-- as many digits write no more
pub value_lt : (xs : List ℕ) → value xs < 10 ^ length xs
unfolding value_from
value_lt [] = lit< tt
value_lt (x ∷ xs) = rw (value_cons x xs, pow-suc, mul_comm (10 ^ length xs) 10) (digits_lt (digit_of_lt x) (value_lt xs))

-- fewer than eighteen digits leave room for one more
pub value_room : (xs : List ℕ) (i : ℕ) → i < length xs → length xs ≤ 18 → value (take i xs) * 10 + 9 < 2 ^ 64
value_room xs i h k =
    let le : i ≤ 17 = omega arith in
    omega (arith, rw (length-take-le i xs (omega arith)) at (value_lt (take i xs)), pow-le-pow_right {n = 10} (lit< tt) le)

-- a front and a back are read off a number
apart : (a b v w k : ℕ) → v < k → w < k → a * k + v ≡ b * k + w → (a ≡ b) × (v ≡ w)
apart a b v w k h g e =
    (sym (digits_div a h) ∙ ap (λ n. n / k) e ∙ digits_div b g, sym (digits_mod a h) ∙ ap (λ n. n % k) e ∙ digits_mod b g)

-- as many digits that write the same number are the same
pub value_same : (xs ys : List ℕ) → digits xs ≡ true → digits ys ≡ true → length xs ≡ length ys → value xs ≡ value ys → xs ≡ ys
unfolding every
value_same [] [] p q l e = refl
value_same [] (y ∷ ys) p q l e = absurd (omega arith)
value_same (x ∷ xs) [] p q l e = absurd (omega arith)
value_same (x ∷ xs) (y ∷ ys) p q l e =
    let k = suc_inj l in
    let px = and_both (is_digit x) (digits xs) p in
    let py = and_both (is_digit y) (digits ys) q in
    let s = apart (digit_of x) (digit_of y) (value xs) (value ys) (10 ^ length ys) (rw k at (value_lt xs)) (value_lt ys)
    (rw (← k) (sym (value_cons x xs)) ∙ e ∙ value_cons y ys) in
    rw (value_same xs ys px.1 py.1 k s.1) (ap (λ n. n ∷ ys) (digit_back x px.0 ∙ ap (λ n. 48 + n) s.0 ∙ sym (digit_back y py.0)))

-- ---- a number in w columns

-- w columns, whatever the number
pub length_render : (w n : ℕ) → length (render w n) ≡ w
unfolding render
length_render zero n = refl
length_render (suc w) n = simp (length-append, length_render w (n / 10)) (omega arith)

-- and a digit in each
pub digits_render : (w n : ℕ) → digits (render w n) ≡ true
unfolding render every
digits_render zero n = refl
digits_render (suc w) n =
    rw (every_append is_digit (render w (n / 10)) ((48 + n % 10) ∷ []), digits_render w (n / 10), digit_of_lem (n % 10) (mod-lt n (lit< tt)))

-- the columns hold the last w digits
pub value_render : (w n : ℕ) → value (render w n) ≡ n % 10 ^ w
unfolding render value_from
value_render zero n = sym (mod-one n)
value_render (suc w) n =
    value_snoc 0 (render w (n / 10)) (48 + n % 10)
    ∙ rw (value_render w (n / 10), digit_count (n % 10) (mod-lt n (lit< tt)), pow-suc) (sym (mod-mul n (one-le-pow w 10 (lit< tt)) (lit< tt)))

-- so the whole number if it fits
pub value_render_lt : (w n : ℕ) → n < 10 ^ w → value (render w n) ≡ n
value_render_lt w n h = value_render w n ∙ mod-eq_of_lt h

-- digits are what their number is written as
pub render_value : (xs : List ℕ) → digits xs ≡ true → render (length xs) (value xs) ≡ xs
render_value xs h =
    value_same (render (length xs) (value xs)) xs (digits_render (length xs) (value xs)) h (length_render (length xs) (value xs))
    (value_render_lt (length xs) (value xs) (value_lt xs))

-- a digit is stored in front of those that stand already, in a loop that goes down
pub render_turn : (n : ℕ) (xs : List ℕ) (i : ℕ) → 0 < i → i ≤ length xs
    → render (i - 1) (n / 10) ++ drop (i - 1) (set xs (i - 1) (48 + n % 10)) ≡ render i n ++ drop i xs
unfolding render
render_turn n xs zero h k = absurd (omega arith)
render_turn n xs (suc i) h k =
    rw (sub-one, drop-cons (set xs i (48 + n % 10)) i 0 (lt-length-set xs i (48 + n % 10) k), get_or-set_same, drop-set-lt (suc i) xs i (48 + n % 10) (le_refl (suc i)), append_snoc)
