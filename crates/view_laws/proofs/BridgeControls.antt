-- The fields of the control records: all of them are right, but for the totals, on which the sums decide.
-- Assumes the sizes, and a number of records that the counts can hold.
use Rattle.std.specs.Prelude.{Ok}
use mathlib.Core.Path.{◌≡◌, refl, sym, subst}
use mathlib.Core.List.{List}
use Prim.Native.Nat.{ℕ, ◌+◌, ◌-◌, ◌^◌, ◌≤◌, ◌<◌}
use native.Mathlib.Nat.{mod-lt}
use native.Mathlib.Omega.{arith}
use lib.Dec.{lit<, lit≤}
use lib.ListN.{length, take, drop, length-drop}
use lib.Seq.{length-take-le}
use borrow.Author.Tests.{eq-eqb, le-leb}
use Rattle.text.specs.Decimal.{every, render}
use Rattle.text.proofs.DecimalLaws.{digits_render, value_render_lt, same_equal}
use Rattle.layout.specs.Fields.{batch_control, file_control}
use Rattle.check_alone.specs.Mark.{Mark}
use Rattle.check_across.specs.declared.Sums.{Sums}
use Rattle.check_field.specs.Field.{field_of, count_rule, hash_rule, total_rule, as_batch_rule, hash_of, total_limit}
use Rattle.check_sums.specs.Sums.{add_batch}
use Rattle.check_record.specs.Record.{most_records}
use Rattle.view.specs.View.{Batch, View, batch_record, batch_control_record, file_control_record, records_of, entries_of, records_in, debit_of, credit_of, sum_over}
use Rattle.view.specs.Sized.{All}
use Rattle.view_laws.proofs.Formed.{batch_fields, batch_control_fields, file_control_fields}
use Rattle.view_laws.proofs.BridgeSums.{after_entries, after_body, batch_sums, file_sums, records_length, body_length}

count_right : (n w : ℕ) → n < 10 ^ w → count_rule n (render w n) ≡ Ok tt
count_right n w l = rw (digits_render w n, value_render_lt w n l, eq-eqb n n refl)

hash_right : (n : ℕ) → hash_rule n (render 10 (hash_of n)) ≡ Ok tt
hash_right n = rw (digits_render 10 (hash_of n), value_render_lt 10 (hash_of n) (mod-lt n (lit< tt)), eq-eqb (hash_of n) (hash_of n) refl)

-- a total that is within the limit
pub total_right : (n : ℕ) → n ≤ total_limit → total_rule n (render 12 n) ≡ Ok tt
total_right n l = rw (digits_render 12 n, le-leb n total_limit l, value_render_lt 12 n (omega arith), eq-eqb n n refl)

as_batch_right : (h : List ℕ) (c w : ℕ) → c - 1 + w ≤ length h → as_batch_rule h c (take w (drop (c - 1) h)) ≡ Ok tt
as_batch_right h c w l =
    let long : length (take w (drop (c - 1) h)) ≡ w = length-take-le w (drop (c - 1) h) (rw length-drop (omega arith)) in
    rw (long, (same_equal (take w (drop (c - 1) h)) (take w (drop (c - 1) h))).1 refl)

-- Q is asked of the mark of each field
module _ (Q : Mark → Type 0) (q : Q (Ok tt)) where
  so : (m : Mark) → m ≡ Ok tt → Q m
  so m e = subst Q (sym e) q

  -- record 8
  pub control_marks : (s : Sums) (b : Batch) → length b.row ≡ 89 → sum_over records_in b.entries < 10 ^ 6
      → Q (total_rule (sum_over debit_of b.entries) (render 12 (sum_over debit_of b.entries)))
      → Q (total_rule (sum_over credit_of b.entries) (render 12 (sum_over credit_of b.entries)))
      → All (λ row. Q (field_of (after_entries (add_batch s (batch_record b)) b.entries) (batch_record b) (batch_control_record b) row)) batch_control
  unfolding every
  control_marks s b l n debit credit =
      let f = batch_control_fields b l in
      let sums = batch_sums s (batch_record b) b.entries in
      let header = (batch_fields b l).long in
      let same : (c w : ℕ) → c - 1 + w ≤ 94 → Q (as_batch_rule (batch_record b) c (take w (drop (c - 1) (batch_record b)))) = λ c w m. so _ (as_batch_right (batch_record b) c w (rw header m)) in (
        q,
        (
          rw f.class (same 2 3 (lit≤ tt)),
          (
            rw (sums.count, f.count) (so _ (count_right _ 6 n)),
            (
              rw (sums.hash, f.hash) (so _ (hash_right _)),
              (
                rw (sums.debit, f.debit) debit,
                (
                  rw (sums.credit, f.credit) credit,
                  (
                    rw f.company (same 41 10 (lit≤ tt)),
                    (
                      rw f.code q,
                      (
                        rw f.reserved q,
                        (
                          rw f.bank (same 80 8 (lit≤ tt)),
                          (rw f.number (same 88 7 (lit≤ tt)), tt),
                        ),
                      ),
                    ),
                  ),
                ),
              ),
            ),
          ),
        ),
      )

  -- record 9
  pub file_control_marks : (v : View) (h : List ℕ) → length (records_of v) ≤ most_records
      → Q (total_rule (sum_over debit_of (entries_of v)) (render 12 (sum_over debit_of (entries_of v))))
      → Q (total_rule (sum_over credit_of (entries_of v)) (render 12 (sum_over credit_of (entries_of v))))
      → All (λ row. Q (field_of (after_body v) h (file_control_record v) row)) file_control
  unfolding every
  file_control_marks v h m debit credit =
      let f = file_control_fields v in
      let sums = file_sums v in
      let all = records_length v in
      let body = body_length v in (
        q,
        (
          rw (sums.batches, f.batches) (so _ (count_right _ 6 (omega arith))),
          (
            rw (sums.records, f.blocked) (so _ (count_right _ 6 (omega arith))),
            (
              rw (sums.count, f.count) (so _ (count_right _ 8 (omega arith))),
              (
                rw (sums.hash, f.hash) (so _ (hash_right _)),
                (
                  rw (sums.debit, f.debit) debit,
                  (
                    rw (sums.credit, f.credit) credit,
                    (rw f.reserved q, tt),
                  ),
                ),
              ),
            ),
          ),
        ),
      )
