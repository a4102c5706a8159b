-- A bit set in its byte, and what the flags then say.
-- Assumes nothing.
use Prim.Native.Nat.{ℕ, zero, suc, ◌*◌, ◌/◌, ◌%◌, ◌^◌, ◌<◌, max}
use native.Mathlib.Nat.{div-one, zero-div, div-div-eq-div-mul, mul-mod_left, one-mul, pow-suc, mul_comm, max-le, max-zero, max-eq_right}
use native.Mathlib.Omega.{arith}
use mathlib.Core.Path.{◌≡◌, refl, sym, ap, ap₂, ◌∙◌}
use mathlib.Core.Bool.{Bool, true, false, ◌||◌}
use mathlib.Core.List.{List}
use borrow.Author.Tests.{eqb-true, eqb-false}
use lib.Arith.{digits_div, digits_mod}
use lib.Bits.{bit_or, or_step}
use lib.Dec.{eqb, lit≤}
use lib.ListN.{length, get_or, set, replicate}
use lib.Pow.{shl_exact}
use lib.Seq.{get_or-set_same, get_or-set_other}
use Rattle.recall_close.specs.WorkBits.{flag_at}

-- bit j of a number
abbrev bit : ℕ → ℕ → ℕ
bit n j = n / 2 ^ j % 2

bit_on : (n j : ℕ) → bit n (suc j) ≡ bit (n / 2) j
bit_on n j = ap (λ p. n / p % 2) (pow-suc 2 j ∙ mul_comm (2 ^ j) 2) ∙ ap (λ q. q % 2) (sym (div-div-eq-div-mul n 2 (2 ^ j)))

-- ---- the bits of two numbers together

both : (a b : ℕ) → max (a % 2) (b % 2) < 2
both a b = omega (arith, max-le {a = a % 2} {b = b % 2} {k = 1} (omega arith) (omega arith))

or_bit : (a b j : ℕ) → bit (bit_or a b) j ≡ max (bit a j) (bit b j)
or_bit a b zero =
    ap (λ n. n % 2) (div-one (bit_or a b) ∙ or_step a b)
    ∙ digits_mod (bit_or (a / 2) (b / 2)) (both a b)
    ∙ sym (ap₂ (λ m n. max (m % 2) (n % 2)) (div-one a) (div-one b))
or_bit a b (suc j) =
    let half : bit_or a b / 2 ≡ bit_or (a / 2) (b / 2) = ap (λ n. n / 2) (or_step a b) ∙ digits_div (bit_or (a / 2) (b / 2)) (both a b) in
    bit_on (bit_or a b) j ∙ ap (λ n. bit n j) half ∙ or_bit (a / 2) (b / 2) j ∙ sym (ap₂ max (bit_on a j) (bit_on b j))

-- ---- the one bit of a power

power_half : (i : ℕ) → 2 ^ suc i / 2 ≡ 2 ^ i
power_half i = omega (arith, pow-suc 2 i)

own_bit : (i : ℕ) → bit (2 ^ i) i ≡ 1
own_bit zero = refl
own_bit (suc i) = bit_on (2 ^ suc i) i ∙ ap (λ n. bit n i) (power_half i) ∙ own_bit i

other_bit : (i j : ℕ) → (i ≡ j → ⊥) → bit (2 ^ i) j ≡ 0
other_bit zero zero f = absurd (f refl)
other_bit zero (suc j) f = bit_on 1 j ∙ ap (λ n. n % 2) (zero-div (2 ^ j))
other_bit (suc i) zero f = ap (λ n. n % 2) (div-one (2 ^ suc i) ∙ pow-suc 2 i) ∙ mul-mod_left (2 ^ i) 2
other_bit (suc i) (suc j) f = bit_on (2 ^ suc i) j ∙ ap (λ n. bit n j) (power_half i) ∙ other_bit i j (λ e. f (ap suc e))

-- ---- a flag set in its byte

-- the byte as the code forms it
abbrev new : ℕ → ℕ → ℕ
new b i = bit_or b (1 * 2 ^ i % 256)

module _ (b i : ℕ) (h : i < 8) where
  new_bit : (j : ℕ) → bit (new b i) j ≡ max (bit b j) (bit (2 ^ i) j)
  new_bit j = ap (λ p. bit (bit_or b p) j) (shl_exact {a = 1} 1 i 8 (lit≤ tt) (omega arith) ∙ one-mul (2 ^ i)) ∙ or_bit b (2 ^ i) j

  is_new : bit (new b i) i ≡ 1
  is_new = new_bit i ∙ ap (max (bit b i)) (own_bit i) ∙ max-eq_right (omega arith)

  stays : (j : ℕ) → (i ≡ j → ⊥) → bit (new b i) j ≡ bit b j
  stays j f = new_bit j ∙ ap (max (bit b j)) (other_bit i j f) ∙ max-zero (bit b j)

module _ (flags : List ℕ) (k : ℕ) (h : k < 8 * length flags) where
  abbrev after : List ℕ
  after = set flags (k / 8) (new (get_or flags (k / 8) 0) (k % 8))

  formed : get_or after (k / 8) 0 ≡ new (get_or flags (k / 8) 0) (k % 8)
  formed = get_or-set_same flags (k / 8) (new (get_or flags (k / 8) 0) (k % 8)) 0 (omega arith)

  own_flag : flag_at after k ≡ true
  unfolding flag_at
  own_flag = ap (λ b. eqb (bit b (k % 8)) 1) formed ∙ ap (λ n. eqb n 1) (is_new (get_or flags (k / 8) 0) (k % 8) (omega arith))

  other_flag : (j : ℕ) → (k ≡ j → ⊥) → flag_at after j ≡ flag_at flags j
  unfolding flag_at
  other_flag j f = go (eqb (k / 8) (j / 8)) refl
    where
      go : (t : Bool) → eqb (k / 8) (j / 8) ≡ t → eqb (bit (get_or after (j / 8) 0) (j % 8)) 1 ≡ eqb (bit (get_or flags (j / 8) 0) (j % 8)) 1
      go true e =
          let same = eqb-true (k / 8) (j / 8) e in
          ap (λ n. eqb (bit (get_or after n 0) (j % 8)) 1) (sym same)
          ∙ ap (λ b. eqb (bit b (j % 8)) 1) formed
          ∙ ap (λ n. eqb n 1) (stays (get_or flags (k / 8) 0) (k % 8) (omega arith) (j % 8) (λ e. f (omega arith)))
          ∙ ap (λ n. eqb (bit (get_or flags n 0) (j % 8)) 1) same
      go false e =
          ap (λ b. eqb (bit b (j % 8)) 1)
          (get_or-set_other flags (k / 8) (j / 8) (new (get_or flags (k / 8) 0) (k % 8)) 0 (λ s. eqb-false (k / 8) (j / 8) e (sym s)))

  pub set_flag : (j : ℕ) → flag_at after j ≡ (eqb k j || flag_at flags j)
  set_flag j = go (eqb k j) refl
    where
      go : (t : Bool) → eqb k j ≡ t → flag_at after j ≡ (t || flag_at flags j)
      go true e = ap (flag_at after) (sym (eqb-true k j e)) ∙ own_flag
      go false e = other_flag j (eqb-false k j e)

-- ---- no flag is set, however many there are

pub no_flag : (n k : ℕ) → flag_at (replicate n 0) k ≡ false
unfolding flag_at
no_flag n k = ap (λ b. eqb (bit b (k % 8)) 1) (none n (k / 8)) ∙ ap (λ q. eqb (q % 2) 1) (zero-div (2 ^ (k % 8)))
  where
    none : (n k : ℕ) → ◌≡◌ {A = ℕ} (get_or (replicate n 0) k 0) 0
    none zero k = refl
    none (suc n) zero = refl
    none (suc n) (suc k) = none n k
