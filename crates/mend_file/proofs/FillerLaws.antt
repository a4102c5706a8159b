-- The section of the fillers: their number is the same, or it has a row of two bytes.
-- Assumes nothing but what a statement says.
use mathlib.Core.Path.{◌≡◌, refl, sym, ap, ◌∙◌}
use mathlib.Core.List.{List, [], ◌∷◌, ◌++◌, append-nil}
use Prim.Native.Nat.{ℕ, ◌+◌, ◌<◌}
use native.Mathlib.Omega.{arith}
use borrow.Author.Tests.{eq-eqb, ne_eqb, lt-leb}
use mathlib.Core.Bool.{Bool, true, false}
use lib.Dec.{leb}
use lib.ListN.{length, set, length-append}
use lib.Seq.{sets}
use Rattle.text.specs.Decimal.{pick, render}
use Rattle.text.specs.Rows.{joined, section}
use Rattle.text.proofs.DecimalLaws.{length_render}
use Rattle.table_read.specs.WorkPuts.{Puts, Room}
use Rattle.mend.specs.Mend.{filler_changes}

-- the old number: a digit, or '+'
abbrev pub old_fillers : ℕ → List ℕ
old_fillers old = pick (leb old 9) (render 1 old) (43 ∷ [])

none : (old new : ℕ) → old ≡ new → filler_changes old new ≡ []
none old new e = ap (λ t. pick t [] ((old_fillers old ++ render 1 new) ∷ [])) (eq-eqb old new e)

some : (old new : ℕ) → (old ≡ new → ⊥) → filler_changes old new ≡ (old_fillers old ++ render 1 new) ∷ []
some old new d = ap (λ t. pick t [] ((old_fillers old ++ render 1 new) ∷ [])) (ne_eqb old new d)

old_long : (old : ℕ) (t : Bool) → length (pick t (render 1 old) (43 ∷ [])) ≡ 1
old_long old true = length_render 1 old
old_long old false = refl

pub none_bytes : (old new : ℕ) → old ≡ new → 0 ≡ length (joined (filler_changes old new))
unfolding joined
none_bytes old new e = sym (ap (λ x. length (joined x)) (none old new e))

pub some_bytes : (old new : ℕ) → (old ≡ new → ⊥) → 2 ≡ length (joined (filler_changes old new))
unfolding joined
some_bytes old new d =
    sym
    (ap (λ x. length (joined x)) (some old new d)
    ∙ ap length (append-nil (old_fillers old ++ render 1 new))
    ∙ length-append (old_fillers old) (render 1 new)
    ∙ omega (arith, old_long old (leb old 9), length_render 1 new))

pub none_section : (old new : ℕ) → old ≡ new → section 7 (filler_changes old new) ≡ render 7 0
unfolding joined
none_section old new e = ap (section 7) (none old new e) ∙ append-nil (render 7 0)

pub some_section : (old new : ℕ) → (old ≡ new → ⊥) → section 7 (filler_changes old new) ≡ render 7 1 ++ (old_fillers old ++ render 1 new)
unfolding joined
some_section old new d = ap (section 7) (some old new d) ∙ ap (λ x. render 7 1 ++ x) (append-nil (old_fillers old ++ render 1 new))

-- a byte put is a list of one put
pub plus_put : (old : ℕ) (list : List ℕ) (to : ℕ) → leb old 9 ≡ false → Puts (old_fillers old) list (set list to 43) to (to + 1)
plus_put old list to e =
    let plus : old_fillers old ≡ 43 ∷ [] = ap (λ t. pick t (render 1 old) (43 ∷ [])) e in
    record { stands = sym (ap (sets list to) plus); behind = sym (ap (λ x. to + length x) plus) }

pub plus_test : (old : ℕ) → 9 < old → leb old 9 ≡ false
plus_test old h = lt-leb old 9 h

pub old_room : (old : ℕ) {list : List ℕ} {to : ℕ} → Room (old_fillers old) list to → to < length list
old_room old {list} {to} r = omega (arith, r.fits, old_long old (leb old 9))
