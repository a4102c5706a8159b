-- A mended record of 94 columns, by its first byte and whether a record 5 stands before it.
-- Assumes nothing but what a statement says.
use mathlib.Core.Path.{◌≡◌, refl, ap, ◌∙◌}
use mathlib.Core.Bool.{◌&&◌, false}
use mathlib.Core.List.{List, ◌++◌, append-nil}
use Prim.Native.Nat.{ℕ}
use native.Mathlib.Omega.{arith}
use borrow.Author.Tests.{eq-eqb, ne_eqb, lt-ltb}
use lib.Dec.{eqb, ltb}
use lib.ListN.{length, drop_of_length-le}
use Rattle.text.specs.Decimal.{pick}
use Rattle.check_across.specs.declared.Sums.{Sums}
use Rattle.table_form.specs.Forms.{batch_control_from}
use Rattle.mend.specs.Mend.{type_of, refilled, mended_record}

pub not_eight : (s : Sums) (h r : List ℕ) → (type_of r ≡ 56 → ⊥) → mended_record s h r ≡ r
not_eight s h r n = ap (λ t. pick (t && ltb 0 s.batches) (refilled (batch_control_from s h) r) r) (ne_eqb (type_of r) 56 n)

none_before : (s : Sums) (r : List ℕ) → type_of r ≡ 56 → s.batches ≡ 0 → (eqb (type_of r) 56 && ltb 0 s.batches) ≡ false
none_before s r t z = rw (eq-eqb (type_of r) 56 t, z) refl

pub no_batch : (s : Sums) (h r : List ℕ) → type_of r ≡ 56 → s.batches ≡ 0 → mended_record s h r ≡ r
no_batch s h r t z = ap (λ t. pick t (refilled (batch_control_from s h) r) r) (none_before s r t z)

pub eight : (s : Sums) (h r : List ℕ) → length r ≡ 94 → type_of r ≡ 56 → (s.batches ≡ 0 → ⊥) → mended_record s h r ≡ batch_control_from s h
eight s h r l t z =
    ap (λ t. pick (t && ltb 0 s.batches) (refilled (batch_control_from s h) r) r) (eq-eqb (type_of r) 56 t)
    ∙ ap (λ t. pick t (refilled (batch_control_from s h) r) r) (lt-ltb 0 s.batches (omega (arith, z)))
    ∙ ap (λ x. batch_control_from s h ++ x) (drop_of_length-le r {i = 94} (omega (arith, l)))
    ∙ append-nil (batch_control_from s h)
