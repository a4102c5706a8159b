-- The check of a mended file is a run over the mended records: where the lent file's length fits, so does the mended file's.
-- Assumes nothing but what a statement says.
use mathlib.Core.Path.{◌≡◌, refl, ap, ◌∙◌}
use mathlib.Core.Bool.{true, false, ◌&&◌}
use mathlib.Core.List.{List, [], ◌∷◌, map}
use Prim.Native.Nat.{ℕ, suc, ◌+◌, ◌*◌, ◌/◌, ◌%◌, ◌≤◌}
use native.Mathlib.Nat.{mul-mod_right, mul-le-mul_left, one-le-mul}
use native.Mathlib.Omega.{arith}
use borrow.Author.Tests.{eqb-true, leb-true, le-leb}
use lib.Dec.{eqb, leb}
use lib.ListN.{length, take, length-replicate}
use Rattle.text.specs.Decimal.{pick}
use Rattle.text.proofs.DecimalLaws.{and_both}
use Rattle.text.proofs.RowLaws.{length_joined, length_rows}
use Rattle.layout.specs.declared.Fault.{Fault}
use Rattle.layout.specs.declared.Way.{Way}
use Rattle.layout.specs.Ways.{record_bytes}
use Rattle.check_across.specs.declared.Sums.{Sums}
use Rattle.check_sums.specs.Sums.{start}
use Rattle.check_sums.proofs.SumLaws.{records_next}
use Rattle.check_record.specs.Record.{run_from, refused, most_records, length_fits, raw_records, piece_of, checked_of}
use Rattle.check_record.proofs.Ways.{some_bytes, rows_few}
use Rattle.view.specs.View.{fillers_after, filler_record, closed_by}
use Rattle.mend.specs.Mend.{type_of, line_by, sums_past, header_past, ends_file, mended_from, mended_records, mended_file}
use Rattle.mend.proofs.Again.{by_test, at_nine, at_other, mended_long, raw_long, raw_mended}

-- a filled block is within a million
fill_few : (n : ℕ) → n ≤ 1000000 → n + fillers_after n ≤ 1000000
fill_few n k = omega arith

some_rows : (way : Way) (n : ℕ) → 1 ≤ n → n % record_bytes way ≡ 0 → 1 ≤ n / record_bytes way
some_rows Way.Plain n k e = omega arith
some_rows Way.Lined n k e = omega arith

module _ (way : Way) where
  mended_none : (last : ℕ) (s : Sums) (h : List ℕ) → length (mended_from way last s h []) ≡ 0
  unfolding mended_from
  mended_none last s h = refl

  pub nine_length : (last : ℕ) (s : Sums) (h r : List ℕ) (rs : List (List ℕ)) → ends_file last r ≡ true
      → length (mended_from way last s h (r ∷ rs)) ≡ suc (fillers_after (s.records + 1))
  nine_length last s h r rs e = ap length (at_nine way last s h r rs e) ∙ ap suc (length-replicate (fillers_after (s.records + 1)) (closed_by way filler_record))

  pub other_length : (last : ℕ) (s : Sums) (h r : List ℕ) (rs : List (List ℕ)) → ends_file last r ≡ false
      → length (mended_from way last s h (r ∷ rs)) ≡ suc (length (mended_from way (type_of r) (sums_past s r) (header_past h r) rs))
  other_length last s h r rs e = ap length (at_other way last s h r rs e)

  -- no more records than a file may have, and at least one where there was one
  mended_few : (last : ℕ) (s : Sums) (h : List ℕ) (rs : List (List ℕ)) → s.records + length rs ≤ most_records → s.records + length (mended_from way last s h rs) ≤ most_records
  mended_few last s h [] k = omega (arith, k, mended_none last s h)
  mended_few last s h (r ∷ rs) k =
      by_test (ends_file last r)
      (λ e. omega (arith, k, nine_length last s h r rs e, fill_few (s.records + 1) (omega (arith, k))))
      (λ e.
      let one = records_next s (line_by (type_of r)) (take 94 r) in
      let rest = mended_few (type_of r) (sums_past s r) (header_past h r) rs (omega (arith, k, one)) in
      omega (arith, other_length last s h r rs e, one, rest))

  mended_some : (last : ℕ) (s : Sums) (h : List ℕ) (rs : List (List ℕ)) → 1 ≤ length rs → 1 ≤ length (mended_from way last s h rs)
  mended_some last s h [] k = absurd (omega arith)
  mended_some last s h (r ∷ rs) k =
      by_test (ends_file last r) (λ e. omega (arith, nine_length last s h r rs e)) (λ e. omega (arith, other_length last s h r rs e))

  count_fits : (n : ℕ) → 1 ≤ n → n ≤ most_records → length_fits way (record_bytes way * n) ≡ true
  count_fits n a b =
      let w = record_bytes way in
      rw (le-leb 1 (w * n) (one-le-mul (some_bytes way) a), mul-mod_right w n, le-leb (w * n) (w * most_records) (mul-le-mul_left w b))

  -- so 1 is the lent file's alone
  pub mended_fits : (f : List ℕ) → length_fits way (length f) ≡ true → length_fits way (length (mended_file way f)) ≡ true
  mended_fits f h =
      let w = record_bytes way in
      let raw = raw_records way f in
      let rs = mended_records way raw in
      let one = and_both (leb 1 (length f) && eqb (length f % w) 0) (leb (length f) (w * most_records)) h in
      let two = and_both (leb 1 (length f)) (eqb (length f % w) 0) one.0 in
      let counted : length raw ≡ length f / w = length_rows w (length f / w) f in
      let some = some_rows way (length f) (leb-true 1 (length f) two.0) (eqb-true (length f % w) 0 two.1) in
      let few = rows_few way (length f) (leb-true (length f) (w * most_records) one.1) in
      let long = length_joined w rs (mended_long way 0 start.sums start.header raw refl (raw_long way f)) in
      ap (length_fits way) long
      ∙ count_fits (length rs) (mended_some 0 start.sums start.header raw (omega (arith, counted, some)))
      (omega (arith, mended_few 0 start.sums start.header raw (omega (arith, counted, few))))

  -- and what the mended file's check gives is told by the mended records
  pub mended_checked : (f : List ℕ) → length_fits way (length f) ≡ true → checked_of way (mended_file way f) ≡ run_from start (map (piece_of way) (mended_records way (raw_records way f)))
  mended_checked f h =
      ap (λ t. pick t (run_from start (map (piece_of way) (raw_records way (mended_file way f)))) (refused Fault.Length 0 0)) (mended_fits f h)
      ∙ ap (λ rs. run_from start (map (piece_of way) rs)) (raw_mended way f)
