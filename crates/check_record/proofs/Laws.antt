-- The walk along a record type's table.
-- Assumes nothing.
use Rattle.std.specs.Prelude.{Ok, Err, is_ok, MatchResult}
use Rattle.std.specs.Result.{IsErrAnd}
use Prim.Native.Nat.{ℕ, ◌+◌, ◌<◌, ◌≤◌}
use native.Mathlib.Nat.{add-suc}
use native.Mathlib.Numerals.{add-one}
use mathlib.Core.Path.{◌≡◌, refl}
use mathlib.Core.Bool.{true}
use mathlib.Core.List.{List}
use lib.Dec.{lit≤}
use lib.ListN.{length, get_or, drop, drop_of_length-le}
use lib.Seq.{drop-cons}
use Rattle.layout.specs.declared.Fault.{Fault}
use Rattle.layout.specs.declared.Line.{Line}
use Rattle.layout.specs.Fields.{no_row, rows_of, first_field}
use Rattle.check_alone.specs.Mark.{Mark}
use Rattle.check_across.specs.declared.Sums.{Sums}
use Rattle.check_field.specs.Field.{field_of}
use Rattle.check_record.specs.declared.Wrong.{Wrong}
use Rattle.check_record.specs.Verdict.{Verdict, wrong_of}
use Rattle.check_record.specs.Record.{fields_from}

-- the walk along a table: what its rows from number k on say, a field that is right, the first that is wrong, and the end
abbrev pub fields_left : Line → ℕ → Sums → List ℕ → List ℕ → Verdict
fields_left line k s h r = fields_from (first_field line + k) (drop k (rows_of line)) s h r

module _ (line : Line) (k : ℕ) (s : Sums) (h r : List ℕ) where
  pub fields_right_lem : k < length (rows_of line) → field_of s h r (get_or (rows_of line) k no_row) ≡ Ok tt
      → fields_left line k s h r ≡ fields_left line (k + 1) s h r
  unfolding fields_from
  fields_right_lem i e = rw (drop-cons (rows_of line) k no_row i, e, add-one k, add-suc (first_field line) k, add-one (first_field line + k)) refl

  pub fields_wrong : (fault : Fault) → k < length (rows_of line) → field_of s h r (get_or (rows_of line) k no_row) ≡ Err fault
      → fields_left line k s h r ≡ Err (wrong_of fault (first_field line + k))
  unfolding fields_from
  fields_wrong fault i e = rw (drop-cons (rows_of line) k no_row i, e) refl

pub fields_end : (line : Line) (k n : ℕ) (s : Sums) (h r : List ℕ) → length (rows_of line) ≤ k → fields_from n (drop k (rows_of line)) s h r ≡ Ok tt
unfolding fields_from
fields_end line k n s h r i = rw (drop_of_length-le (rows_of line) i) refl

-- a mark, and what is made of its fault
pub right_is : (m : Mark) → is_ok m ≡ true → m ≡ Ok tt
right_is (Ok _) e = refl
right_is (Err f) e = cc

pub wrong_is : {P : Fault → Wrong → Type 0} (m : Mark) (r : Verdict) (w : Wrong) (n : ℕ) → ((f : Fault) (d : Wrong) → P f d → d ≡ wrong_of f n)
    → MatchResult m (λ x. r ≡ Ok x) (λ f. IsErrAnd r (P f)) → r ≡ Err w → (f : Fault) × (m ≡ Err f) × (w ≡ wrong_of f n)
wrong_is (Ok x) r w n k h q = cc
wrong_is (Err f) r w n k h q = (f, refl, k f w (rw q at h))

pub first_le : (line : Line) → first_field line ≤ 1
first_le Line.FileHeader = lit≤ tt
first_le Line.BatchHeader = lit≤ tt
first_le Line.Entry = lit≤ tt
first_le Line.Addendum = lit≤ tt
first_le Line.BatchControl = lit≤ tt
first_le Line.FileControl = lit≤ tt
first_le Line.Filler = lit≤ tt
first_le Line.Past = lit≤ tt
first_le Line.Other = lit≤ tt

pub rows_few : (line : Line) → length (rows_of line) ≤ 13
rows_few Line.FileHeader = lit≤ tt
rows_few Line.BatchHeader = lit≤ tt
rows_few Line.Entry = lit≤ tt
rows_few Line.Addendum = lit≤ tt
rows_few Line.BatchControl = lit≤ tt
rows_few Line.FileControl = lit≤ tt
rows_few Line.Filler = lit≤ tt
rows_few Line.Past = lit≤ tt
rows_few Line.Other = lit≤ tt
