-- A table's fields: the run passes them exactly if each is right, and a kind that leaves no choice gives the field's bytes.
-- Assumes nothing.
use Rattle.std.specs.Prelude.{Ok}
use mathlib.Core.Path.{◌≡◌, refl, sym, ap, ◌∙◌}
use mathlib.Core.Bool.{Bool, true, false}
use mathlib.Core.List.{List, [], ◌∷◌}
use Prim.Native.Nat.{ℕ, ◌+◌, ◌-◌, ◌≤◌}
use Rattle.std.proofs.Common.{rules}
use lib.Dec.{eqb, leb}
use lib.ListN.{length, take, drop, replicate}
use borrow.Author.Tests.{eqb-true}
use Rattle.text.specs.Decimal.{every, digits, value, render}
use Rattle.text.specs.Rows.{columns}
use Rattle.text.proofs.DecimalLaws.{and_both, same_equal, render_value}
use Rattle.text.proofs.RowLaws.{length_columns}
use Rattle.layout.specs.declared.Fault.{Fault}
use Rattle.layout.specs.declared.Kind.{Kind}
use Rattle.layout.specs.declared.Row.{Row}
use Rattle.check_alone.specs.Mark.{Mark}
use Rattle.check_alone.specs.Kinds.{need}
use Rattle.check_across.specs.declared.Sums.{Sums}
use Rattle.check_field.specs.Field.{field_of, kind_rule, sum_of, hash_of, total_limit, total_rule}
use Rattle.check_record.specs.Verdict.{Verdict}
use Rattle.check_record.specs.Record.{found, fields_from}
use Rattle.view.specs.Keeps.{Right}

-- equal, or not, with the test's value
pub by_eq : {P : Type 0} (a b : ℕ) → (a ≡ b → P) → (eqb a b ≡ false → P) → P
by_eq {P} a b f g = search rules

-- a test that fails does not hold
pub never : {A : Type 0} → false ≡ true → A
never e = cc

-- a test that was needed holds, and so do the tests after it
pub need_right : (t : Bool) (fault : Fault) (rest : Mark) → need t fault rest ≡ Ok tt → (t ≡ true) × (rest ≡ Ok tt)
need_right t fault rest e = search rules

found_passed : (m : Mark) (k : ℕ) (rest : Verdict) → found m k rest ≡ Ok tt → (m ≡ Ok tt) × (rest ≡ Ok tt)
found_passed m k rest e = search rules

-- every field of a record that passes its table is right
pub passed_right : (k : ℕ) (rows : List Row) (s : Sums) (h r : List ℕ) → fields_from k rows s h r ≡ Ok tt → Right rows s h r
unfolding fields_from
passed_right k [] s h r e = tt
passed_right k (row ∷ rows) s h r e =
    let both = found_passed (field_of s h r row) k (fields_from (k + 1) rows s h r) e in
    (both.0, passed_right (k + 1) rows s h r both.1)

-- and the other way round
pub right_passed : (k : ℕ) (rows : List Row) (s : Sums) (h r : List ℕ) → Right rows s h r → fields_from k rows s h r ≡ Ok tt
unfolding fields_from
right_passed k [] s h r e = refl
right_passed k (row ∷ rows) s h r e =
    ap (λ m. found m k (fields_from (k + 1) rows s h r)) e.0 ∙ right_passed (k + 1) rows s h r e.1

-- ---- what a kind says of its bytes, where it leaves no choice

every_same : (c : ℕ) (p : List ℕ) → every (λ b. eqb b c) p ≡ true → p ≡ replicate (length p) c
unfolding every
every_same c [] e = refl
every_same c (b ∷ bs) e =
    let both = and_both (eqb b c) (every (λ x. eqb x c) bs) e in
    ap (λ x. x ∷ bs) (eqb-true b c both.0) ∙ ap (λ l. c ∷ l) (every_same c bs both.1)

-- digits that write n are n in as many columns
pub number_same : (n : ℕ) (p : List ℕ) → digits p ≡ true → eqb (value p) n ≡ true → p ≡ render (length p) n
number_same n p d e = sym (render_value p d) ∙ ap (render (length p)) (eqb-true (value p) n e)

-- the kinds that leave none
abbrev pub decides : Kind → Bool
decides Kind.Nines = true
decides (Kind.Fixed n) = true
decides Kind.Blanks = true
decides (Kind.AsBatch c) = true
decides (Kind.Count t) = true
decides (Kind.Hash t) = true
decides (Kind.Total t) = true
decides _ = false

-- the bytes, in w columns; [] for the other kinds
abbrev pub decided : Sums → List ℕ → ℕ → Kind → List ℕ
decided s h w Kind.Nines = replicate w 57
decided s h w (Kind.Fixed n) = render w n
decided s h w Kind.Blanks = replicate w 32
decided s h w (Kind.AsBatch c) = take w (drop (c - 1) h)
decided s h w (Kind.Count t) = render w (sum_of s t)
decided s h w (Kind.Hash t) = render w (hash_of (sum_of s t))
decided s h w (Kind.Total t) = render w (sum_of s t)
decided s h w _ = []

total_right : (n : ℕ) (p : List ℕ) → total_rule n p ≡ Ok tt → (digits p ≡ true) × (leb n total_limit ≡ true) × (eqb (value p) n ≡ true)
total_right n p e = search rules

-- right bytes of such a kind are those
kind_decided : (s : Sums) (h r : List ℕ) (k : Kind) (p : List ℕ) → decides k ≡ true → kind_rule s h r k p ≡ Ok tt
    → p ≡ decided s h (length p) k
kind_decided s h r Kind.Nines p d e = every_same 57 p (need_right _ _ _ e).0
kind_decided s h r (Kind.Fixed n) p d e =
    let both = and_both _ _ (need_right _ _ _ e).0 in
    number_same n p both.0 both.1
kind_decided s h r Kind.Blanks p d e = every_same 32 p (need_right _ _ _ e).0
kind_decided s h r (Kind.AsBatch c) p d e = (same_equal p (take (length p) (drop (c - 1) h))).0 (need_right _ _ _ e).0
kind_decided s h r (Kind.Count t) p d e =
    let one = need_right _ _ _ e in
    number_same _ p one.0 (need_right _ _ _ one.1).0
kind_decided s h r (Kind.Hash t) p d e =
    let one = need_right _ _ _ e in
    number_same _ p one.0 (need_right _ _ _ one.1).0
kind_decided s h r (Kind.Total t) p d e = let all = total_right (sum_of s t) p e in number_same _ p all.0 all.2
kind_decided s h r _ p d e = cc

-- a right total is at most the limit
pub total_within : (n : ℕ) (p : List ℕ) → total_rule n p ≡ Ok tt → n ≤ total_limit
total_within n p e = search rules

-- a right field of such a kind
pub field_decided : (s : Sums) (h r : List ℕ) (row : Row) → decides row.kind ≡ true → 1 ≤ row.first → row.last ≤ length r
    → field_of s h r row ≡ Ok tt → columns row.first row.last r ≡ decided s h (row.last + 1 - row.first) row.kind
field_decided s h r row d a b e =
    kind_decided s h r row.kind (columns row.first row.last r) d e
    ∙ ap (λ w. decided s h w row.kind) (length_columns row.first row.last r a b)
