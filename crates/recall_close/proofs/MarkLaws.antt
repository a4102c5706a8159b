-- The flags of the list's numbers, and whether an entry is left.
-- Assumes nothing.
use Prim.Native.Nat.{ℕ, zero, suc, ◌+◌, ◌≤◌, ◌<◌}
use native.Mathlib.Numerals.{add-one}
use native.Mathlib.Omega.{arith}
use mathlib.Core.Path.{◌≡◌, refl, sym, ap, ◌∙◌}
use mathlib.Core.Bool.{Bool, true, false, not, ◌&&◌, ◌||◌, or-true, or-false}
use mathlib.Core.List.{List, [], ◌∷◌}
use borrow.Author.Tests.{le-leb, lt-leb}
use lib.Dec.{eqb, leb}
use lib.ListN.{length, drop, get_or, drop_of_length-le}
use lib.Seq.{drop-cons}
use Rattle.std.specs.List.{list_any, range_with_len}
use Rattle.text.specs.Decimal.{pick}
use Rattle.view.specs.View.{Entry, View, entries_of}
use Rattle.view_laws.proofs.Lists.{by_lt}
use Rattle.view.specs.Outcome.{exists}
use Rattle.recall_view.specs.RecallView.{named, entries_left, all_exist, without}
use Rattle.recall_view.proofs.Left.{by_named, entries_without}
use Rattle.recall_close.specs.WorkMoving.{gone, some_left}

-- ---- the numbers of the list one by one

-- the numbers before index i are entries' and are flagged: what is left tells the rest
pub record Marking (ns : List ℕ) (count : ℕ) (flags : List ℕ) (i : ℕ) : Type 0 where
  pub there : (v : View) → length (entries_of v) ≡ count → all_exist v (drop i ns) ≡ all_exist v ns
  pub marks : (k : ℕ) → (gone flags k || named k (drop i ns)) ≡ named k ns

by_le : {P : Type 0} (m n : ℕ) → (m ≤ n → P) → (n < m → P) → P
by_le m n f g = by_lt n m (λ l e. g l) (λ l e. f l)

module _ (ns : List ℕ) (i : ℕ) (h : i < length ns) where
  next : drop i ns ≡ get_or ns i 0 ∷ drop (i + 1) ns
  next = rw add-one (drop-cons ns i 0 h)

  pub exist_next : (v : View) → all_exist v (drop i ns) ≡ exists v (get_or ns i 0) && all_exist v (drop (i + 1) ns)
  unfolding all_exist
  exist_next v = rw next refl

  pub named_next : (k : ℕ) → named k (drop i ns) ≡ (eqb (get_or ns i 0) k || named k (drop (i + 1) ns))
  unfolding named
  named_next k = rw next refl

in_turn_lem : (new old rest : Bool) → ((new || old) || rest) ≡ (old || (new || rest))
in_turn_lem true old rest = sym (or-true old)
in_turn_lem false old rest = refl

-- a number that is no entry's
module _ {ns : List ℕ} {count : ℕ} {flags : List ℕ} {i : ℕ} (m : Marking ns count flags i) (h : i < length ns) where
  bad : (v : View) → length (entries_of v) ≡ count → exists v (get_or ns i 0) ≡ false → false ≡ all_exist v ns
  bad v e f = sym (exist_next ns i h v ∙ rw f refl) ∙ m.there v e

  pub bad_number : (1 ≤ get_or ns i 0 → get_or ns i 0 ≤ count → ⊥) → (v : View) → length (entries_of v) ≡ count → false ≡ all_exist v ns
  bad_number f v e =
      by_le 1 (get_or ns i 0)
      (λ o. by_le (get_or ns i 0) count (λ p. absurd (f o p)) (λ p. bad v e (rw (le-leb 1 (get_or ns i 0) o, e, lt-leb (get_or ns i 0) count p) refl)))
      (λ z. bad v e (rw (lt-leb 1 (get_or ns i 0) z) refl))

  -- one that is: its flag is set, and no other one
  module _ (o : 1 ≤ get_or ns i 0) (p : get_or ns i 0 ≤ count) (after : List ℕ) (sets : (k : ℕ) → gone after k ≡ (eqb (get_or ns i 0) k || gone flags k)) where
    marks_on : (k : ℕ) → (gone after k || named k (drop (i + 1) ns)) ≡ named k ns
    marks_on k =
        let rest = named k (drop (i + 1) ns) in
        ap (λ b. b || rest) (sets k)
        ∙ in_turn_lem (eqb (get_or ns i 0) k) (gone flags k) rest
        ∙ ap (λ b. gone flags k || b) (sym (named_next ns i h k))
        ∙ m.marks k

    pub marking_on : Marking ns count after (i + 1)
    marking_on =
        record {
          there = λ v e. sym (exist_next ns i h v ∙ rw (le-leb 1 (get_or ns i 0) o, e, le-leb (get_or ns i 0) count p) refl) ∙ m.there v e;
          marks = marks_on;
        }

-- none is left
module _ {ns : List ℕ} {count : ℕ} {flags : List ℕ} {i : ℕ} (m : Marking ns count flags i) (h : length ns ≤ i) where
  pub all_there : (v : View) → length (entries_of v) ≡ count → true ≡ all_exist v ns
  unfolding all_exist
  all_there v e = ap (all_exist v) (sym (drop_of_length-le ns {i = i} h)) ∙ m.there v e

  pub all_marked : (k : ℕ) → gone flags k ≡ named k ns
  unfolding named
  all_marked k = sym (or-false (gone flags k)) ∙ ap (λ l. gone flags k || named k l) (sym (drop_of_length-le ns {i = i} h)) ∙ m.marks k

-- ---- whether an entry is left

-- by the numbers in turn
pub some_in_range : (flags : List ℕ) (k n : ℕ) → list_any (λ j. not (gone flags j)) (range_with_len k n) ≡ some_left flags k n
unfolding some_left
some_in_range flags k zero = refl
some_in_range flags k (suc n) = go (gone flags k) (some_in_range flags (k + 1) n)
  where
    go : (b : Bool) {rest later : Bool} → rest ≡ later → (not b || rest) ≡ pick b later true
    go true e = e
    go false e = refl

-- as the view has it
module _ (flags ns : List ℕ) (same : (k : ℕ) → gone flags k ≡ named k ns) where
  some_entries : (k : ℕ) (es : List Entry) → leb 1 (length (entries_left ns k es)) ≡ some_left flags k (length es)
  unfolding entries_left some_left
  some_entries k [] = refl
  some_entries k (e ∷ es) =
      by_named k ns (λ g. rw (same k, g) (some_entries (k + 1) es))
      (λ g. rw (same k, g) (le-leb 1 (suc (length (entries_left ns (k + 1) es))) (omega arith)))

  pub some_without : (v : View) (count : ℕ) → length (entries_of v) ≡ count → leb 1 (length (entries_of (without v ns))) ≡ some_left flags 1 count
  some_without v count e =
      ap (λ es. leb 1 (length es)) (entries_without v ns) ∙ some_entries 1 (entries_of v) ∙ ap (some_left flags 1) e
