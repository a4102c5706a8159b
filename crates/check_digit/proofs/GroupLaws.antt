-- The table of group sums at each place, and the check digit by three groups: it is the paper's, by its weights 3, 7 and 1.
-- Assumes nothing.
use Prim.Native.Nat.{ℕ, zero, suc, ◌+◌, ◌-◌, ◌*◌, ◌/◌, ◌%◌, ◌^◌, ◌<◌, ◌≤◌}
use native.Mathlib.Nat.{add-zero, zero-add, add-suc, suc-add, add_assoc, add-mod, add-mod-mod, mod-add-mod, le_of_suc-le-suc}
use native.Mathlib.Omega.{arith}
use mathlib.Core.Path.{◌≡◌, refl, sym, ap, ◌∙◌}
use mathlib.Core.Bool.{Bool, true, false, false≢true}
use mathlib.Core.List.{List, [], ◌∷◌}
use borrow.Author.Tests.{eqb-true, eq-eqb, ne_eqb}
use lib.Dec.{eqb}
use lib.ListN.{length, get_or}
use Rattle.text.specs.Decimal.{digit_of, value_from, value}
use Rattle.text.proofs.DecimalLaws.{digit_of_lt, value_lt}
use Rattle.check_digit.specs.CheckDigit.{weighed, check_digit}
use Rattle.check_digit.specs.CheckDigit.{group_sum, sums_from, group_sums, balanced}

-- ---- the table

sums_at : (i n k : ℕ) → k < n → get_or (sums_from i n) k 0 ≡ group_sum (i + k)
unfolding sums_from
sums_at i zero k h = absurd (omega arith)
sums_at i (suc n) zero h = ap group_sum (sym (add-zero i))
sums_at i (suc n) (suc k) h = sums_at (suc i) n k (le_of_suc-le-suc h) ∙ ap group_sum (suc-add i k ∙ sym (add-suc i k))

-- "each 3 times the first digit plus 7 times the second plus the third, remainder by ten", at every place of the table
pub table_at : (t : List ℕ) (k : ℕ) → t ≡ group_sums → k < 1000 → get_or t k 0 ≡ group_sum k
unfolding group_sums
table_at t k e h = rw e (sums_at 0 1000 k h ∙ ap group_sum (zero-add k))

pub group_le : (k : ℕ) → group_sum k ≤ 9
unfolding group_sum
group_le k = omega arith

-- ---- three digits

three : (a b c : ℕ) → a < 10 → b < 10 → c < 10 → group_sum (100 * a + 10 * b + c) ≡ (3 * a + 7 * b + c) % 10
unfolding group_sum
three a b c l m n =
    let first : (100 * a + 10 * b + c) / 100 ≡ a = omega arith in
    let second : (100 * a + 10 * b + c) / 10 % 10 ≡ b = omega arith in
    let third : (100 * a + 10 * b + c) % 10 ≡ c = omega arith in
    rw (first, second, third) refl

-- three groups of three digits make a number of nine
apart : (n u v w : ℕ) → u < 1000 → v < 1000 → w < 1000 → n ≡ 1000000 * u + 1000 * v + w
    → (n / 1000000 ≡ u) × (n / 1000 % 1000 ≡ v) × (n % 1000 ≡ w)
apart n u v w l m k e = (omega arith, omega arith, omega arith)

-- ---- the two tests

same_test : (m n k l : ℕ) → (m ≡ n → k ≡ l) → (k ≡ l → m ≡ n) → eqb m n ≡ eqb k l
same_test m n k l f g = go (eqb k l) refl
  where
    go : (b : Bool) → eqb k l ≡ b → eqb m n ≡ b
    go true e = eq-eqb m n (g (eqb-true k l e))
    go false e = ne_eqb m n (λ h. false≢true (sym e ∙ eq-eqb k l (f h)))

-- remainders of summands may be taken first
summed : (u v w : ℕ) → (u % 10 + v % 10 + w % 10) % 10 ≡ (u + v + w) % 10
summed u v w =
    add-mod-mod (u % 10 + v % 10) w 10
    ∙ sym (mod-add-mod (u % 10 + v % 10) 10 w)
    ∙ rw (← add-mod u v 10) (mod-add-mod (u + v) 10 w)

tens_there : (s x : ℕ) → x < 10 → (s + x) % 10 ≡ 0 → x ≡ (10 - s % 10) % 10
tens_there s x h e = omega arith

tens_back : (s x : ℕ) → x < 10 → x ≡ (10 - s % 10) % 10 → (s + x) % 10 ≡ 0
tens_back s x h e = omega arith

tens : (u v w x : ℕ) → x < 10 → eqb ((u % 10 + v % 10 + (w + x) % 10) % 10) 0 ≡ eqb x ((10 - (u + v + w) % 10) % 10)
tens u v w x h =
    rw (summed u v (w + x), ← add_assoc (u + v) w x)
    (same_test _ _ _ _ (tens_there (u + v + w) x h) (tens_back (u + v + w) x h))

group_lt : (a b c : ℕ) → a < 10 → b < 10 → c < 10 → 100 * a + 10 * b + c < 1000
group_lt a b c l m n = omega arith

-- nine digits, of which the first eight weigh s
nine : (n s a b c d e f g h x : ℕ) → a < 10 → b < 10 → c < 10 → d < 10 → e < 10 → f < 10 → g < 10 → h < 10 → x < 10
    → n ≡ 1000000 * (100 * a + 10 * b + c) + 1000 * (100 * d + 10 * e + f) + (100 * g + 10 * h + x)
    → s ≡ (3 * a + 7 * b + c) + (3 * d + 7 * e + f) + (3 * g + 7 * h) → balanced n ≡ eqb x ((10 - s % 10) % 10)
nine n s a b c d e f g h x la lb lc ld le lf lg lh lx en es =
    let cut = apart n _ _ _ (group_lt a b c la lb lc) (group_lt d e f ld le lf) (group_lt g h x lg lh lx) en in
    rw (cut.0, cut.1, cut.2, three a b c la lb lc, three d e f ld le lf, three g h x lg lh lx, es)
    (tens (3 * a + 7 * b + c) (3 * d + 7 * e + f) (3 * g + 7 * h) x lx)

-- "The three groups of a good number sum to a multiple of ten": exactly if its ninth digit is the paper's check digit of the eight
pub by_groups : (s p : List ℕ) → length s ≡ 8 → length p ≡ 1 → balanced (value s * 10 + value p) ≡ eqb (value p) (check_digit s)
unfolding weighed value_from
by_groups [] p e l = absurd (omega arith)
by_groups (a ∷ []) p e l = absurd (omega arith)
by_groups (a ∷ b ∷ []) p e l = absurd (omega arith)
by_groups (a ∷ b ∷ c ∷ []) p e l = absurd (omega arith)
by_groups (a ∷ b ∷ c ∷ d ∷ []) p e l = absurd (omega arith)
by_groups (a ∷ b ∷ c ∷ d ∷ f ∷ []) p e l = absurd (omega arith)
by_groups (a ∷ b ∷ c ∷ d ∷ f ∷ g ∷ []) p e l = absurd (omega arith)
by_groups (a ∷ b ∷ c ∷ d ∷ f ∷ g ∷ h ∷ []) p e l = absurd (omega arith)
by_groups (a ∷ b ∷ c ∷ d ∷ f ∷ g ∷ h ∷ i ∷ []) [] e l = absurd (omega arith)
by_groups (a ∷ b ∷ c ∷ d ∷ f ∷ g ∷ h ∷ i ∷ []) (x ∷ []) e l =
    nine _ _ (digit_of a) (digit_of b) (digit_of c) (digit_of d) (digit_of f) (digit_of g) (digit_of h) (digit_of i) (value (x ∷ []))
    (digit_of_lt a) (digit_of_lt b) (digit_of_lt c) (digit_of_lt d) (digit_of_lt f) (digit_of_lt g) (digit_of_lt h) (digit_of_lt i) (value_lt (x ∷ []))
    (omega arith) (omega arith)
by_groups (a ∷ b ∷ c ∷ d ∷ f ∷ g ∷ h ∷ i ∷ []) (x ∷ y ∷ p) e l = absurd (omega arith)
by_groups (a ∷ b ∷ c ∷ d ∷ f ∷ g ∷ h ∷ i ∷ j ∷ s) p e l = absurd (omega arith)

-- as the code puts it: r is the test of the numbers m and n that eight digits and one write
pub digit_told : (r : Bool) (m n : ℕ) (s p : List ℕ) → m ≡ value s → n ≡ value p → length s ≡ 8 → length p ≡ 1
    → r ≡ balanced (m * 10 + n) → r ≡ eqb (value p) (check_digit s)
digit_told r m n s p e f k l t = t ∙ rw (e, f) (by_groups s p k l)

-- and such numbers are small enough for it
pub below : (n w : ℕ) (s : List ℕ) → n ≡ value s → length s ≡ w → n < 10 ^ w
below n w s e l = rw (e, ← l) (value_lt s)
