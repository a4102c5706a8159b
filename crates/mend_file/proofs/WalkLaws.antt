-- The walk along the records before the 9: what they sum to, and how many are left.
-- Assumes nothing but what a statement says.
use mathlib.Core.Path.{◌≡◌, refl, sym, ap, ap₂, ◌∙◌}
use mathlib.Core.Bool.{true, false}
use mathlib.Core.List.{List, [], ◌∷◌}
use Prim.Native.Nat.{ℕ, ◌+◌, ◌*◌, ◌/◌, ◌≤◌, ◌<◌}
use native.Mathlib.Nat.{zero-add}
use native.Mathlib.Omega.{arith}
use lib.ListN.{length, get_or, take, drop}
use lib.Seq.{take-take}
use Rattle.text.proofs.RowLaws.{length_rows}
use Rattle.layout.specs.declared.Way.{Way}
use Rattle.layout.specs.Ways.{record_bytes}
use Rattle.check_across.specs.declared.Sums.{Sums}
use Rattle.check_sums.specs.Sums.{start, next_sums, next_header}
use Rattle.check_sums.proofs.SumLaws.{records_next}
use Rattle.check_record.specs.Record.{length_fits, raw_records}
use Rattle.check_record.proofs.Ways.{rows_few}
use Rattle.check_file.proofs.Laws.{fit}
use Rattle.mend.specs.Mend.{type_of, line_by, sums_past, header_past, mended_record, mended_end, ends_file, mended_from, before_nine, nine_at}
use Rattle.mend.proofs.Again.{by_test, header_long, columns_long, at_nine, at_other}
use Rattle.mend.proofs.Numbers.{nine_here, nine_later}
use Rattle.mend.proofs.Together.{columns_type}
use Rattle.mend_file.specs.WorkJudging.{NineAt}
use Rattle.mend_file.proofs.RecordLaws.{At, at_here, at_long, rows_above}

-- what is told by a record is told by its columns
pub past_sums : (s : Sums) (r : List ℕ) → sums_past s (take 94 r) ≡ sums_past s r
past_sums s r = ap₂ (λ b t. next_sums s (line_by b) t) (columns_type r) (take-take 94 94 r (omega arith))

pub past_header : (h r : List ℕ) → header_past h (take 94 r) ≡ header_past h r
past_header h r = ap₂ (λ b t. next_header h (line_by b) t) (columns_type r) (take-take 94 94 r (omega arith))

-- ---- how many records there are

module _ (way : Way) (f : List ℕ) where
  abbrev pub olds : List (List ℕ)
  olds = raw_records way f

  pub records_many : length olds ≡ length f / record_bytes way
  records_many = length_rows (record_bytes way) (length f / record_bytes way) f

  pub records_few : length_fits way (length f) ≡ true → length olds ≤ 1000000
  records_few h = omega (arith, records_many, rows_few way (length f) (fit way (length f) h).1)

  -- the 9 is one of them
  pub nine_inside : (n : ℕ) → NineAt way f n → n < length olds
  nine_inside n a = omega (arith, records_many, rows_above way n (length f) a.inside)

  pub nine_few : (n : ℕ) → length_fits way (length f) ≡ true → NineAt way f n → n < 1000000
  nine_few n h a = omega (arith, records_few h, nine_inside n a)

  pub nine_there : (n : ℕ) → NineAt way f n → At olds n (get_or olds n [])
  nine_there n a = at_here olds n [] (nine_inside n a)

  -- ---- behind k records, of which the last has type `last`: they sum to s, and h is the nearest 5

  pub record Walked (last : ℕ) (s : Sums) (h : List ℕ) (k : ℕ) : Type 0 where
    pub count : s.records ≡ k
    pub header : length h ≡ 94
    pub nine : k + before_nine last (drop k olds) ≡ nine_at olds

  pub walked_first : Walked 0 start.sums start.header 0
  walked_first = record { count = refl; header = refl; nine = zero-add _ }

  module _ (last : ℕ) (s : Sums) (h : List ℕ) (k : ℕ) (p : Walked last s h k) (r : List ℕ) (a : At olds k r) where
    abbrev rest : List (List ℕ)
    rest = drop (k + 1) olds

    left_here : before_nine last (drop k olds) ≡ before_nine last (r ∷ rest)
    left_here = ap (before_nine last) a.here

    other_here : k < nine_at olds → ends_file last r ≡ false
    other_here l = by_test (ends_file last r) (λ e. absurd (omega (arith, p.nine, left_here, nine_here last r rest e))) (λ e. e)

    ends_here : nine_at olds ≤ k → ends_file last r ≡ true
    ends_here l = by_test (ends_file last r) (λ e. e) (λ e. absurd (omega (arith, p.nine, left_here, nine_later last r rest e)))

    -- the record that ends the file is the 9
    pub nine_found : ends_file last r ≡ true → k ≡ nine_at olds
    nine_found e = omega (arith, p.nine, left_here, nine_here last r rest e)

    -- the mended records from here on: this one and those behind it, or the end of the file
    pub walked_parts : k < nine_at olds → mended_from way last s h (drop k olds) ≡ mended_record s h r ∷ mended_from way (type_of r) (sums_past s r) (header_past h r) rest
    walked_parts l = ap (mended_from way last s h) a.here ∙ at_other way last s h r rest (other_here l)

    pub walked_ends : nine_at olds ≤ k → mended_from way last s h (drop k olds) ≡ mended_end way s r
    walked_ends l = ap (mended_from way last s h) a.here ∙ at_nine way last s h r rest (ends_here l)

    pub walked_past : ends_file last r ≡ false → Walked (type_of r) (sums_past s r) (header_past h r) (k + 1)
    walked_past e =
        record {
          count = records_next s (line_by (type_of r)) (take 94 r) ∙ ap (λ n. n + 1) p.count;
          header = header_long (line_by (type_of r)) h (take 94 r) p.header (columns_long way r (at_long way f k r a));
          nine = omega (arith, p.nine, left_here, nine_later last r rest e);
        }

    pub walked_on : k < nine_at olds → Walked (type_of r) (sums_past s r) (header_past h r) (k + 1)
    walked_on l = walked_past (other_here l)
