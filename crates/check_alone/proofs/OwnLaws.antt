-- An account's bytes, pair by pair.
-- Assumes nothing.
use Rattle.std.proofs.Common.{◌≡◌, ℕ, ◌<◌, ◌≤◌, Bool, true, false, ◌&&◌, ◌||◌, not, eqb, List, [], ◌∷◌, length, get_or, take, drop, fold, refl, ◌∙◌, sym, ap, subst, arith, eqb-true}
use Rattle.std.proofs.lemmas.Iterator.{YieldsList}
use Rattle.std.proofs.lemmas.Iterator.Splits.{YieldsList-from_shown_while}
use Rattle.std.proofs.lemmas.List.Folds.{fold_stays}
use Rattle.std.specs.Slice.Iter.{windows_rest, windows_size}
use Rattle.std.specs.Slice.ArrayWindows.{array_windows_parts, array_windows_steps}
use Rattle.std.specs.declared.slice.ArrayWindows.{ArrayWindows}
use Rattle.text.specs.Decimal.{pick, every}
use Rattle.check_alone.specs.Kinds.{blank}
use Rattle.check_alone.specs.Own.{unbroken}

-- ---- the pairs of neighbours

-- each byte but the last, with the one behind it
unfoldable pub pairs : List ℕ → List (List ℕ)
pairs [] = []
pairs (b ∷ []) = []
pairs (b ∷ c ∷ cs) = (b ∷ c ∷ []) ∷ pairs (c ∷ cs)

pairs_none : (xs : List ℕ) → length xs < 2 → length (pairs xs) ≡ 0
unfolding pairs
pairs_none [] h = refl
pairs_none (b ∷ []) h = refl
pairs_none (b ∷ c ∷ cs) h = absurd (omega arith)

pairs_some : (xs ys w : List ℕ) → 2 ≤ length xs → w ≡ take 2 xs → ys ≡ drop 1 xs → pairs xs ≡ w ∷ pairs ys
unfolding pairs
pairs_some [] ys w h e f = absurd (omega arith)
pairs_some (b ∷ []) ys w h e f = absurd (omega arith)
pairs_some (b ∷ c ∷ cs) ys w h e f = rw (e, f) refl

-- what `array_windows` yields
pub yields_pairs : {s : ArrayWindows ℕ 2} (xs : List ℕ) → windows_rest (array_windows_parts s) ≡ xs → windows_size (array_windows_parts s) ≡ 2
    → YieldsList array_windows_steps (λ w. w.now) s (pairs xs)
yields_pairs {s} xs e f =
    subst (λ (ys : List ℕ). YieldsList array_windows_steps (λ w. w.now) s (pairs ys)) e
    (YieldsList-from_shown_while array_windows_steps (λ w. w.now) (λ t. pairs (windows_rest (array_windows_parts t))) (λ t. windows_size (array_windows_parts t) ≡ 2)
    (λ t u p h. pairs_none _ (omega (arith, h.1.0, p)))
    (λ t x u p h. (h.0 ∙ p, pairs_some _ _ _ (omega (arith, h.1.0, p)) (h.1.1 ∙ ap (λ n. take n (windows_rest (array_windows_parts t))) p) h.1.2))
    s f)

-- ---- no blank before a later byte that is none

-- the test of one pair
abbrev pub stays : List ℕ → Bool
stays w = not (eqb (get_or w 0 0) 32) || eqb (get_or w 1 0) 32

abbrev gathered : Bool → List (List ℕ) → Bool
gathered all ws = fold (λ a w. a && stays w) all ws

-- a blank is followed by blanks alone
after_blank : (bs : List ℕ) → gathered true (pairs (32 ∷ bs)) ≡ blank bs
unfolding pairs every
after_blank [] = refl
after_blank (c ∷ cs) = go (eqb c 32) refl (after_blank cs)
  where
    go : (gap : Bool) → eqb c 32 ≡ gap → gathered true (pairs (32 ∷ cs)) ≡ blank cs → gathered (eqb c 32) (pairs (c ∷ cs)) ≡ (eqb c 32 && blank cs)
    go true e f = rw e (subst (λ (n : ℕ). gathered true (pairs (n ∷ cs)) ≡ blank cs) (sym (eqb-true c 32 e)) f)
    go false e f = rw e (fold_stays (λ a w. a && stays w) false (λ w. refl) (pairs (c ∷ cs)))

pub pairs_unbroken : (p : List ℕ) → gathered true (pairs p) ≡ unbroken p
unfolding pairs unbroken every
pairs_unbroken [] = refl
pairs_unbroken (b ∷ []) = either (eqb b 32)
  where
    either : (gap : Bool) → true ≡ pick gap true true
    either true = refl
    either false = refl
pairs_unbroken (b ∷ c ∷ cs) = go (eqb b 32) refl (pairs_unbroken (c ∷ cs))
  where
    go : (gap : Bool) → eqb b 32 ≡ gap → gathered true (pairs (c ∷ cs)) ≡ unbroken (c ∷ cs)
        → gathered (not (eqb b 32) || eqb c 32) (pairs (c ∷ cs)) ≡ pick (eqb b 32) (blank (c ∷ cs)) (unbroken (c ∷ cs))
    go true e f = rw e (after_blank (c ∷ cs))
    go false e f = rw e f
