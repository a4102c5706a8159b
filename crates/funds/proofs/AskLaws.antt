-- The question, row by row.
-- Assumes nothing.
use mathlib.Core.Path.{◌≡◌, ap, ◌∙◌}
use mathlib.Core.Bool.{true}
use mathlib.Core.List.{List, [], ◌∷◌}
use Prim.Native.Nat.{ℕ, zero, suc, ◌+◌, ◌*◌, ◌/◌, ◌≤◌, ◌<◌}
use native.Mathlib.Omega.{arith}
use borrow.Author.Tests.{lt-ltb, le-ltb}
use lib.ListN.{length, get_or}
use Rattle.std.specs.List.{HoldsAt, AllWithin}
use Rattle.std.specs.Simd.{first_chunks}
use Rattle.funds.specs.Funds.{not_found, runs_out_from, runs_out}

-- ---- behind a first row

further : (x y : ℕ) (xs : List ℕ) (k : ℕ) → (get_or (x ∷ y ∷ xs) (2 * suc k) 0 ≡ get_or xs (2 * k) 0) × (get_or (x ∷ y ∷ xs) (2 * suc k + 1) 0 ≡ get_or xs (2 * k + 1) 0)
further x y xs k =
    let even : 2 * suc k ≡ suc (suc (2 * k)) = omega arith in
    let odd : 2 * suc k + 1 ≡ suc (suc (2 * k + 1)) = omega arith in
    (ap (λ i. get_or (x ∷ y ∷ xs) i 0) even, ap (λ i. get_or (x ∷ y ∷ xs) i 0) odd)

halves : (n : ℕ) → suc (suc n) / 2 ≡ suc (n / 2)
halves n = omega arith

-- row k as the code finds it
row_at : (xs : List ℕ) (k : ℕ) → k < length xs / 2 → get_or (first_chunks 2 (length xs / 2) xs) k [] ≡ get_or xs (2 * k) 0 ∷ get_or xs (2 * k + 1) 0 ∷ []
row_at [] k h = absurd (omega (arith, h))
row_at (x ∷ []) k h = absurd (omega (arith, h))
row_at (x ∷ y ∷ xs) zero h = rw halves
row_at (x ∷ y ∷ xs) (suc k) h =
    let f = further x y xs k in
    rw (halves, f.0, f.1) (row_at xs k (omega (arith, h, halves (length xs))))

-- ---- the first over the limit, or none

first_over : (limit n : ℕ) (xs : List ℕ) (k : ℕ) → k < length xs / 2 → limit < get_or xs (2 * k + 1) 0 → ((j : ℕ) → j < k → get_or xs (2 * j + 1) 0 ≤ limit)
    → record { found = true; «record» = get_or xs (2 * k) 0; credits = get_or xs (2 * k + 1) 0; rows = n + k + 1 } ≡ runs_out_from limit n xs
unfolding runs_out_from
first_over limit n [] k h o b = absurd (omega (arith, h))
first_over limit n (x ∷ []) k h o b = absurd (omega (arith, h))
first_over limit n (x ∷ y ∷ xs) zero h o b = let count : n + 0 + 1 ≡ n + 1 = omega arith in rw (count, lt-ltb limit y o)
first_over limit n (x ∷ y ∷ xs) (suc k) h o b =
    let f = further x y xs k in
    let count : n + suc k + 1 ≡ n + 1 + k + 1 = omega arith in
    let later : (j : ℕ) → j < k → get_or xs (2 * j + 1) 0 ≤ limit = λ j l. rw (← (further x y xs j).1) (b (suc j) (omega (arith, l))) in
    rw (le-ltb limit y (b 0 (omega arith)), f.0, f.1, count) (first_over limit (n + 1) xs k (omega (arith, h, halves (length xs))) (rw f.1 at o) later)

none_over : (limit n : ℕ) (xs : List ℕ) → ((j : ℕ) → j < length xs / 2 → get_or xs (2 * j + 1) 0 ≤ limit) → not_found (n + length xs / 2) ≡ runs_out_from limit n xs
unfolding runs_out_from
none_over limit n [] b = ap not_found (omega arith)
none_over limit n (x ∷ []) b = ap not_found (omega arith)
none_over limit n (x ∷ y ∷ xs) b =
    let count : n + suc (suc (length xs)) / 2 ≡ n + 1 + length xs / 2 = omega arith in
    let later : (j : ℕ) → j < length xs / 2 → get_or xs (2 * j + 1) 0 ≤ limit = λ j l. rw (← (further x y xs j).1) (b (suc j) (omega (arith, l))) in
    rw (le-ltb limit y (b 0 (omega arith)), count) (none_over limit (n + 1) xs later)

-- ---- as the code asks it: the rows are `chunks`

module _ (limit : ℕ) (rows : List ℕ) (chunks : List (List ℕ)) (e : chunks ≡ first_chunks 2 (length rows / 2) rows) (l : length chunks ≡ length rows / 2) where
  row_is : (k : ℕ) → k < length chunks → get_or chunks k [] ≡ get_or rows (2 * k) 0 ∷ get_or rows (2 * k + 1) 0 ∷ []
  row_is k h = rw e (row_at rows k (omega (arith, h, l)))

  credits_are : (k : ℕ) → k < length chunks → get_or (get_or chunks k []) 1 0 ≡ get_or rows (2 * k + 1) 0
  credits_are k h = ap (λ r. get_or r 1 0) (row_is k h)

  pub told_at : (k : ℕ) → (k < length chunks) × HoldsAt (λ r. limit < get_or r 1 0) chunks k × AllWithin (λ r. get_or r 1 0 ≤ limit) chunks 0 k
      → record { found = true; «record» = get_or (get_or chunks k []) 0 0; credits = get_or (get_or chunks k []) 1 0; rows = k + 1 } ≡ runs_out limit rows
  told_at k h =
      let count : k + 1 ≡ 0 + k + 1 = omega arith in
      rw (row_is k h.0, count) (first_over limit 0 rows k (omega (arith, h.0, l)) (rw (← credits_are k h.0) (h.1 [])) (λ j s. rw (← credits_are j (omega (arith, s, h.0))) (h.2 j [] (omega arith) s)))

  pub none_told : AllWithin (λ r. get_or r 1 0 ≤ limit) chunks 0 (length chunks) → not_found (length chunks) ≡ runs_out limit rows
  none_told h =
      let count : length rows / 2 ≡ 0 + length rows / 2 = omega arith in
      rw l (ap not_found count ∙ none_over limit 0 rows (λ j s. rw (← credits_are j (omega (arith, s, l))) (h j [] (omega arith) (omega (arith, s, l)))))
