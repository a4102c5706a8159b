-- What a rule's answer says of its test, and a test of all bytes as a fold.
-- Assumes nothing.
use Rattle.std.proofs.Common.{◌≡◌, ℕ, Bool, true, false, ◌&&◌, List, [], ◌∷◌, fold, refl}
use Rattle.std.proofs.lemmas.List.Folds.{fold_stays}
use Rattle.std.specs.Prelude.{Ok, Err}
use Rattle.layout.specs.declared.Fault.{Fault}
use Rattle.check_alone.specs.Mark.{Mark}
use Rattle.check_alone.specs.Kinds.{need}
use Rattle.text.specs.Decimal.{every}

-- ---- one rule

-- right: its test holds
pub need_ok : (m : Mark) (b : Bool) (f : Fault) (x : Unit {0}) → m ≡ need b f (Ok tt) → m ≡ Ok x → b ≡ true
need_ok m true f x e g = refl
need_ok m false f x e g = cc

-- refused, so whatever rules stand behind it
pub need_err : (r m : Mark) (b : Bool) (f g : Fault) (rest : Mark) → m ≡ need b f (Ok tt) → m ≡ Err g → r ≡ Err g → r ≡ need b f rest
need_err r m true f g rest e k h = cc
need_err r m false f g rest e k h = cc

-- ---- a test of all bytes

-- what a fold that gathers the tests comes to, from a test before it
all_from : (p : ℕ → Bool) (all : Bool) (xs : List ℕ) → fold (λ a b. a && p b) all xs ≡ all && every p xs
unfolding every
all_from p true [] = refl
all_from p true (x ∷ xs) = all_from p (p x) xs
all_from p false xs = fold_stays (λ a b. a && p b) false (λ x. refl) xs

pub fold_every : (p : ℕ → Bool) (xs : List ℕ) → fold (λ a b. a && p b) true xs ≡ every p xs
fold_every p xs = all_from p true xs
