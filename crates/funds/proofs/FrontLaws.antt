-- A list in front of what a lent one holds.
-- Assumes nothing.
use mathlib.Core.Path.{◌≡◌, refl, sym, ap, ap₂, ◌∙◌}
use mathlib.Core.Logic.{◌↔◌}
use mathlib.Core.Bool.{true}
use mathlib.Core.List.{List, [], ◌∷◌, ◌++◌}
use Prim.Native.Nat.{ℕ, ◌≤◌}
use native.Mathlib.Omega.{arith}
use borrow.Author.Tests.{eqb-true, eq-eqb}
use lib.Dec.{eqb}
use lib.ListN.{length, take, drop, get_or, length-append, length-drop, take-append-drop}
use lib.Seq.{take-append_seam, drop_at}
use Rattle.text.proofs.DecimalLaws.{and_both, both_and}
use Rattle.view_laws.proofs.BridgeFields.{never}
use Rattle.funds.specs.Funds.{in_front, begins_with}

-- a list begins with another exactly if as many of its numbers are that other
begins_take : (xs held : List ℕ) → begins_with xs held ≡ true → take (length xs) held ≡ xs
unfolding begins_with
begins_take [] held e = refl
begins_take (x ∷ xs) [] e = never e
begins_take (x ∷ xs) (y ∷ held) e =
    let b = and_both (eqb x y) (begins_with xs held) e in
    ap₂ (λ a l. a ∷ l) (sym (eqb-true x y b.0)) (begins_take xs held b.1)

take_begins : (xs held : List ℕ) → take (length xs) held ≡ xs → begins_with xs held ≡ true
unfolding begins_with
take_begins [] held e = refl
take_begins (x ∷ xs) [] e = absurd (omega (arith, ap length e))
take_begins (x ∷ xs) (y ∷ held) e = both_and (eq-eqb x y (sym (ap (λ l. get_or l 0 0) e))) (take_begins xs held (ap (drop 1) e))

pub begins_exactly : (xs held : List ℕ) → (begins_with xs held ≡ true) ↔ (take (length xs) held ≡ xs)
begins_exactly xs held = (begins_take xs held, take_begins xs held)

-- and then it is not shorter
pub begins_long : (xs held : List ℕ) → begins_with xs held ≡ true → length xs ≤ length held
unfolding begins_with
begins_long [] held e = omega arith
begins_long (x ∷ xs) [] e = never e
begins_long (x ∷ xs) (y ∷ held) e = omega (arith, begins_long xs held (and_both (eqb x y) (begins_with xs held) e).1)

-- a list that was put in front stands there
pub front_begins : (xs held : List ℕ) → begins_with xs (in_front xs held) ≡ true
front_begins xs held = take_begins xs (in_front xs held) (take-append_seam xs (drop (length xs) held))

-- put in front of what it stands in front of, it changes nothing
pub front_same : (xs held : List ℕ) → begins_with xs held ≡ true → in_front xs held ≡ held
front_same xs held e = ap (λ l. l ++ drop (length xs) held) (sym (begins_take xs held e)) ∙ take-append-drop (length xs) held

-- and in front of as many numbers it takes their place
pub front_front : (xs ys held : List ℕ) → length xs ≡ length ys → in_front xs (in_front ys held) ≡ in_front xs held
front_front xs ys held e = ap (λ l. xs ++ l) (drop_at ys (drop (length ys) held) (length xs) (sym e) ∙ ap (λ n. drop n held) (sym e))

-- it makes no list longer that has room for it
pub front_long : (xs held : List ℕ) → length xs ≤ length held → length (in_front xs held) ≡ length held
front_long xs held l = length-append xs (drop (length xs) held) ∙ omega (arith, length-drop (length xs) held)
