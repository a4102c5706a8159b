-- The records behind the 9: the first of them that is not all nines.
-- Assumes nothing but what a statement says.
use Rattle.std.specs.Prelude.{Ok}
use mathlib.Core.Path.{◌≡◌, refl, sym, ap, ap₂, ◌∙◌}
use mathlib.Core.Bool.{Bool, true, false}
use mathlib.Core.List.{List, ◌∷◌}
use Prim.Native.Nat.{ℕ, ◌+◌, ◌≤◌, ◌<◌}
use native.Mathlib.Omega.{arith}
use lib.Dec.{eqb}
use lib.ListN.{length, take, drop, drop_of_length-le}
use lib.Pointwise.{pointwise}
use Rattle.text.specs.Same.{same_bytes}
use Rattle.text.proofs.DecimalLaws.{same_is, same_equal}
use Rattle.layout.specs.declared.Fault.{Fault}
use Rattle.layout.specs.declared.Way.{Way}
use Rattle.layout.specs.Paper.{refusal}
use Rattle.check_record.specs.Record.{raw_records}
use Rattle.view.specs.View.{filler_record}
use Rattle.view.specs.Outcome.{demand}
use Rattle.mend.specs.Mend.{only_nines, behind_nine}
use Rattle.mend.proofs.Again.{by_test}
use Rattle.mend_file.specs.WorkJudging.{NineAt}
use Rattle.mend_file.proofs.RecordLaws.{At}

-- the test that the code makes, of a beginning
begins_with : (nines r : List ℕ) → nines ≡ filler_record → pointwise eqb nines (take (length nines) r) ≡ same_bytes (take 94 r) filler_record
begins_with nines r e = ap (λ x. pointwise eqb x (take (length x) r)) e ∙ sym (same_is filler_record (take 94 r)) ∙ turned filler_record (take 94 r)
  where
    both : (a b : List ℕ) → same_bytes a b ≡ true → same_bytes b a ≡ true
    both a b h = (same_equal b a).1 (sym ((same_equal a b).0 h))

    turned : (a b : List ℕ) → same_bytes a b ≡ same_bytes b a
    turned a b =
        by_test (same_bytes a b)
        (λ t. t ∙ sym (both a b t))
        (λ f. by_test (same_bytes b a) (λ t. cc (both b a t)) (λ g. f ∙ sym g))

-- ---- k of those behind n others are passed

abbrev pub Nines : List (List ℕ) → ℕ → ℕ → Type 0
Nines rs n k = only_nines (n + k + 1) (drop (n + k) rs) ≡ only_nines (n + 1) (drop n rs)

pub nines_first : (rs : List (List ℕ)) (n : ℕ) → Nines rs n 0
nines_first rs n = let none : n + 0 ≡ n = omega arith in ap (λ m. only_nines (m + 1) (drop m rs)) none

module _ (rs : List (List ℕ)) (n k : ℕ) (p : Nines rs n k) where
  module _ (r nines : List ℕ) (a : At rs (n + k) r) (e : nines ≡ filler_record) where
    nines_by : (t : Bool) → t ≡ pointwise eqb nines (take (length nines) r) → demand t (refusal Fault.Past (n + k + 1) 0) (only_nines (n + (k + 1) + 1) (drop (n + (k + 1)) rs)) ≡ only_nines (n + 1) (drop n rs)
    unfolding only_nines
    nines_by t q =
        let next : n + k + 1 ≡ n + (k + 1) = omega arith in
        sym
        (ap (only_nines (n + k + 1)) a.here
        ∙ ap₂ (λ b m. demand b (refusal Fault.Past (n + k + 1) 0) (only_nines (m + 1) (drop m rs))) (sym (q ∙ begins_with nines r e)) next)
        ∙ p

    pub nines_on : (t : Bool) → t ≡ pointwise eqb nines (take (length nines) r) → t ≡ true → Nines rs n (k + 1)
    nines_on t q h = sym (ap (λ b. demand b (refusal Fault.Past (n + k + 1) 0) (only_nines (n + (k + 1) + 1) (drop (n + (k + 1)) rs))) h) ∙ nines_by t q

    pub nines_stop : (t : Bool) → t ≡ pointwise eqb nines (take (length nines) r) → t ≡ false → refusal Fault.Past (n + k + 1) 0 ≡ only_nines (n + 1) (drop n rs)
    nines_stop t q h = sym (ap (λ b. demand b (refusal Fault.Past (n + k + 1) 0) (only_nines (n + (k + 1) + 1) (drop (n + (k + 1)) rs))) h) ∙ nines_by t q

  pub nines_end : length rs ≤ n + k → Ok tt ≡ only_nines (n + 1) (drop n rs)
  unfolding only_nines
  nines_end h = sym (ap (only_nines (n + k + 1)) (drop_of_length-le rs {i = n + k} h)) ∙ p

-- those behind the 9, of which n records stand before it
pub behind_is : (way : Way) (f : List ℕ) (n : ℕ) → NineAt way f n → only_nines (n + 1 + 1) (drop (n + 1) (raw_records way f)) ≡ behind_nine (raw_records way f)
behind_is way f n a =
    let two : n + 1 + 1 ≡ n + 2 = omega arith in
    ap (λ m. only_nines m (drop (n + 1) (raw_records way f))) two ∙ ap (λ k. only_nines (k + 2) (drop (k + 1) (raw_records way f))) a.before
