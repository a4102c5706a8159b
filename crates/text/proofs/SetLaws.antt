-- Laws of bytes set in place, and of bytes set inside one of many rows.
-- Assumes nothing.
use mathlib.Core.Path.{◌≡◌, refl, sym, ap, ◌∙◌}
use mathlib.Core.List.{List, [], ◌∷◌, ◌++◌, append_assoc, append-nil}
use Prim.Native.Nat.{ℕ, zero, suc, ◌+◌, ◌-◌, ◌*◌, ◌≤◌, ◌<◌}
use native.Mathlib.Nat.{add-zero, zero-add, add-suc, suc-add, mul-zero, mul-suc, le_refl, le_of_suc-le-suc}
use native.Mathlib.Omega.{arith}
use borrow.Rule.Slice.PartMut.{put_mid}
use lib.ListN.{length, take, drop, get_or, set, length-set, length-drop}
use lib.Seq.{sets, length-sets, sets-eq, drop-drop, drop-length, take-nil, drop-nil, drop_at, take-length, take-append-le, drop-append-le, length-take-le, set-append_left, take-set-le, drop-set-lt, drop-set-add, get_or-take, get_or-drop}
use Rattle.text.specs.Patch.{patch}
use Rattle.text.specs.Rows.{joined}
use Rattle.text.specs.Widths.{AllLong}

module _ {ℓ} {A : Type ℓ} where
  -- two runs, one behind the other
  pub sets_append : (l : List A) (i : ℕ) (xs ys : List A) → sets l i (xs ++ ys) ≡ sets (sets l i xs) (i + length xs) ys
  sets_append l i [] ys = rw add-zero
  sets_append l i (x ∷ xs) ys = sets_append (set l i x) (suc i) xs ys ∙ rw (suc-add, add-suc)

  -- a run behind the first element
  sets_cons : (x : A) (l : List A) (i : ℕ) (vs : List A) → sets (x ∷ l) (suc i) vs ≡ x ∷ sets l i vs
  sets_cons x l i [] = refl
  sets_cons x l i (v ∷ vs) = sets_cons x (set l i v) (suc i) vs

  -- a run inside the left part
  pub sets_left : (xs ys : List A) (i : ℕ) (vs : List A) → i + length vs ≤ length xs → sets (xs ++ ys) i vs ≡ sets xs i vs ++ ys
  sets_left xs ys i [] h = refl
  sets_left xs ys i (v ∷ vs) h =
      rw (set-append_left xs ys i v (omega arith)) (sets_left (set xs i v) ys (suc i) vs (rw length-set (omega arith)))

  -- a run inside the right part
  pub sets_right : (xs ys : List A) (i : ℕ) (vs : List A) → sets (xs ++ ys) (length xs + i) vs ≡ xs ++ sets ys i vs
  sets_right [] ys i vs = rw zero-add
  sets_right (x ∷ xs) ys i vs = rw suc-add (sets_cons x (xs ++ ys) (length xs + i) vs ∙ ap (λ l. x ∷ l) (sets_right xs ys i vs))

  -- what stands there already
  pub sets_same : (l : List A) (i n : ℕ) → sets l i (take n (drop i l)) ≡ l
  sets_same [] i n = rw (drop-nil, take-nil)
  sets_same (x ∷ l) zero zero = refl
  sets_same (x ∷ l) zero (suc n) = sets_cons x l zero (take n l) ∙ ap (λ r. x ∷ r) (sets_same l zero n)
  sets_same (x ∷ l) (suc i) n = sets_cons x l i (take n (drop i l)) ∙ ap (λ r. x ∷ r) (sets_same l i n)

  -- in front of the run nothing changed
  pub take_sets : (l : List A) (i : ℕ) (vs : List A) (n : ℕ) → n ≤ i → take n (sets l i vs) ≡ take n l
  take_sets l i [] n h = refl
  take_sets l i (v ∷ vs) n h = take_sets (set l i v) (suc i) vs n (omega arith) ∙ take-set-le n l i v h

  -- a run is moved to the front of what is left
  drop_sets_add : (l : List A) (i : ℕ) (vs : List A) (n : ℕ) → drop n (sets l (n + i) vs) ≡ sets (drop n l) i vs
  drop_sets_add l i [] n = refl
  drop_sets_add l i (v ∷ vs) n = rw (← drop-set-add n l i v, ← drop_sets_add (set l (n + i) v) (suc i) vs n, add-suc)

  -- behind the run nothing changed
  pub drop_sets : (l : List A) (i : ℕ) (vs : List A) (n : ℕ) → i + length vs ≤ n → drop n (sets l i vs) ≡ drop n l
  drop_sets l i [] n h = refl
  drop_sets l i (v ∷ vs) n h = drop_sets (set l i v) (suc i) vs n (omega arith) ∙ drop-set-lt n l i v (omega arith)

  -- a part that ends where the run begins, or before
  pub part_sets_before : (l : List A) (i : ℕ) (vs : List A) (a n : ℕ) → a + n ≤ i → take n (drop a (sets l i vs)) ≡ take n (drop a l)
  part_sets_before l i vs a n h =
      let e : a + (i - a) ≡ i = omega arith in
      rw (← e, drop_sets_add l (i - a) vs a) (take_sets (drop a l) (i - a) vs n (omega arith))

  -- a part of the run
  pub part_sets_in : (l : List A) (i : ℕ) (vs : List A) (a n : ℕ) → i + length vs ≤ length l → a + n ≤ length vs
      → take n (drop (i + a) (sets l i vs)) ≡ take n (drop a vs)
  part_sets_in l i vs a n h g =
      let rest = drop (i + length vs) l in
      rw (← drop-drop a i (sets l i vs), sets-eq vs l i h, append_assoc (take i l) vs rest, drop_at (take i l) (vs ++ rest) i (length-take-le i l (omega arith)), drop-append-le a vs rest (omega arith))
      (take-append-le n (drop a vs) rest (rw length-drop (omega arith)))

  -- the run itself
  pub part_sets_at : (l : List A) (i : ℕ) (vs : List A) → i + length vs ≤ length l → take (length vs) (drop i (sets l i vs)) ≡ vs
  part_sets_at l i vs h = rw add-zero at (part_sets_in l i vs 0 (length vs) h (omega arith)) ∙ take-length vs

  -- a part that begins where the run ends, or behind
  pub part_sets_behind : (l : List A) (i : ℕ) (vs : List A) (a n : ℕ) → i + length vs ≤ a → take n (drop a (sets l i vs)) ≡ take n (drop a l)
  part_sets_behind l i vs a n h = rw (drop_sets l i vs a h)

  -- an element in front of the run
  pub get_d_sets_before : (l : List A) (i : ℕ) (vs : List A) (k : ℕ) (d : A) → k < i → get_or (sets l i vs) k d ≡ get_or l k d
  get_d_sets_before l i vs k d h =
      rw (← get_or-take i (sets l i vs) k d h, ← get_or-take i l k d h, take_sets l i vs i (le_refl i))

  -- an element behind the run
  pub get_d_sets_behind : (l : List A) (i : ℕ) (vs : List A) (k : ℕ) (d : A) → i + length vs ≤ k → get_or (sets l i vs) k d ≡ get_or l k d
  get_d_sets_behind l i vs k d h = rw (← add-zero k, ← get_or-drop k (sets l i vs) 0 d, ← get_or-drop k l 0 d, drop_sets l i vs k h)

-- ---- bytes inside one row

-- one row is replaced
pub patch_set : (rs : List (List ℕ)) (k o : ℕ) (vs : List ℕ) → patch rs k o vs ≡ set rs k (sets (get_or rs k []) o vs)
unfolding patch
patch_set [] k o vs = refl
patch_set (r ∷ rs) zero o vs = refl
patch_set (r ∷ rs) (suc k) o vs = ap (λ ss. r ∷ ss) (patch_set rs k o vs)

-- as many rows as before
pub length_patch : (rs : List (List ℕ)) (k o : ℕ) (vs : List ℕ) → length (patch rs k o vs) ≡ length rs
length_patch rs k o vs = rw (patch_set, length-set)

-- and each as long as before
pub patch_long : (w : ℕ) (rs : List (List ℕ)) (k o : ℕ) (vs : List ℕ) → AllLong w rs → AllLong w (patch rs k o vs)
unfolding patch
patch_long w [] k o vs h = tt
patch_long w (r ∷ rs) zero o vs h = (length-sets r o vs ∙ h.0, h.1)
patch_long w (r ∷ rs) (suc k) o vs h = (h.0, patch_long w rs k o vs h.1)

-- bytes set in the rows one behind the other are bytes set in a row
pub sets_joined : (w : ℕ) (rs : List (List ℕ)) (k o : ℕ) (vs : List ℕ) → AllLong w rs → k < length rs → o + length vs ≤ w
    → sets (joined rs) (w * k + o) vs ≡ joined (patch rs k o vs)
unfolding joined patch
sets_joined w [] k o vs h g e = absurd (omega arith)
sets_joined w (r ∷ rs) zero o vs h g e = rw (mul-zero, zero-add) (sets_left r (joined rs) o vs (rw h.0 e))
sets_joined w (r ∷ rs) (suc k) o vs h g e =
    let q : w * suc k + o ≡ length r + (w * k + o) = omega (arith, mul-suc w k, h.0) in
    rw (q, sets_right r (joined rs) (w * k + o) vs, sets_joined w rs k o vs h.1 (le_of_suc-le-suc g) e)

-- a whole list written over another of the same length
pub sets_whole : (l vs : List ℕ) → length vs ≡ length l → sets l 0 vs ≡ vs
sets_whole l vs e =
    sets-eq vs l 0 (omega arith) ∙ rw (zero-add, e, drop-length) (append-nil vs)

-- a part behind what is passed over
pub drop_take : {A : Type 0} (m n : ℕ) (l : List A) → drop m (take (m + n) l) ≡ take n (drop m l)
drop_take zero n l = rw zero-add
drop_take (suc m) n [] = rw (suc-add, take-nil n)
drop_take (suc m) n (x ∷ l) = rw suc-add (drop_take m n l)

-- a run stored as a whole
pub sets_put : {A : Type 0} (l vs : List A) (i n : ℕ) → n ≡ length vs → i + length vs ≤ length l → put_mid i n l vs ≡ sets l i vs
sets_put l vs i n e h = rw (e, drop-drop, ← append_assoc (take i l) vs (drop (i + length vs) l)) (sym (sets-eq vs l i h))
