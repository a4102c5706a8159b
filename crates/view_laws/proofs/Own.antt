-- Own entries: the numbers that an acceptance gives are those of the file's own entries.
-- Assumes nothing.
use Rattle.std.proofs.Common.{rules}
use Rattle.std.specs.Prelude.{Ok}
use mathlib.Core.Path.{◌≡◌, refl, sym, ap, ◌∙◌, subst}
use mathlib.Core.Bool.{true}
use mathlib.Core.List.{List, [], ◌∷◌}
use Prim.Native.Nat.{ℕ, ◌+◌, ◌*◌, ◌<◌}
use native.Mathlib.Nat.{add_assoc, zero-add, add-zero}
use Rattle.std.proofs.Common.{arith}
use lib.Dec.{eqb}
use lib.ListN.{length, get_or, replicate, length-set, get_or-replicate}
use Rattle.std.proofs.lemmas.Bool.Decides.{nat_tests}
use Rattle.text.specs.Decimal.{pick, value}
use Rattle.layout.specs.Answers.{Checked}
use Rattle.check_codes.specs.Codes.{code_of, code_row, known}
use Rattle.check_across.specs.Across.{code_rule, batch_number, entry_trace}
use Rattle.check_sums.specs.Sums.{add_to_row}
use Rattle.check_record.specs.Record.{checked_of, columns_in}
use Rattle.view.specs.View.{Entry, Batch, View, batch_record, entry_record, records_in, sum_over, code_in, amount_of, debit_of, credit_of, entries_of, records_of, view_of}
use Rattle.view.specs.Table.{addenda_of, view_of_table, table_of}
use Rattle.view.specs.Sized.{All, SizedBatch}
use Rattle.view.specs.Keeps.{EntriesKeep, BatchesKeep, Keeps, codes, count_by, cents_by}
use Rattle.view_laws.proofs.Lists.{all_append}
use Rattle.view_laws.proofs.Formed.{BatchControlFields, batch_control_fields, FileControlFields, file_control_fields}
use Rattle.view_laws.proofs.Ways.{columns_back}
use Rattle.view_laws.proofs.Reading.{records_long}
use Rattle.view_laws.proofs.Tables.{entries_in, view_of_table_lem}
use Rattle.view_laws.proofs.BridgeSums.{codes_after, file_sums, count_records}
use Rattle.view_laws.proofs.BridgeWalk.{granted_of}
use Rattle.view_laws.proofs.Bridge.{accepted_view, accepted_gives}
use Rattle.layout.specs.declared.Way.{Way}

-- ---- the rows by code

-- a known code stands in its row
pub code_back : (n : ℕ) → known (code_of n) ≡ true → get_or codes (code_row n) 0 ≡ n
code_back n k = grind (arith, nat_tests)

-- there are twelve rows
code_row_small : (n : ℕ) → code_row n < 12
code_row_small n = search rules

-- so an entry counts in the row of its code
in_row : (n k : ℕ) → known (code_of n) ≡ true → k < 12 → eqb (code_row n) k ≡ eqb n (get_or codes k 0)
in_row n k c l = search rules

-- what one entry adds to its row, and to no other
module _ (c : List ℕ) (j x k : ℕ) (l : j < 12) (s : length c ≡ 24) where
  row_count : get_or (add_to_row c j x) (2 * k) 0 ≡ get_or c (2 * k) 0 + pick (eqb j k) 1 0
  row_count = search rules

  row_cents : get_or (add_to_row c j x) (2 * k + 1) 0 ≡ get_or c (2 * k + 1) 0 + pick (eqb j k) x 0
  row_cents = search rules

-- every entry of the file has a known code
code_known : (h p : List ℕ) → code_rule h p ≡ Ok tt → known (code_of (value p)) ≡ true
code_known h p e = search rules

entries_known : (h : List ℕ) (n t : ℕ) (es : List Entry) → EntriesKeep h n t es → All (λ e. known (code_of (code_in e)) ≡ true) es
entries_known h n t [] k = tt
entries_known h n t (e ∷ es) k = (code_known h _ k.0.fields.1.0, entries_known h (n + records_in e) (entry_trace (entry_record e)) es k.1)

batches_known : (number : ℕ) (bs : List Batch) → BatchesKeep number bs → All (λ e. known (code_of (code_in e)) ≡ true) (entries_in bs)
batches_known number [] k = tt
batches_known number (b ∷ bs) k = all_append _ b.entries (entries_in bs) (entries_known _ 0 0 b.entries k.0.entries) (batches_known (batch_number (batch_record b)) bs k.1)

-- ---- the rows behind entries

codes_long : (c : List ℕ) (e : Entry) → length (add_to_row c (code_row (code_in e)) (amount_of e)) ≡ length c
codes_long c e = rw (length-set, length-set)

-- what each entry adds at one place, and all of them together
codes_sum : (p : ℕ) (g : Entry → ℕ)
    → ((c : List ℕ) (e : Entry) → length c ≡ 24 → known (code_of (code_in e)) ≡ true → get_or (add_to_row c (code_row (code_in e)) (amount_of e)) p 0 ≡ get_or c p 0 + g e)
    → (c : List ℕ) → length c ≡ 24 → (es : List Entry) → All (λ e. known (code_of (code_in e)) ≡ true) es → get_or (codes_after c es) p 0 ≡ get_or c p 0 + sum_over g es
unfolding sum_over
codes_sum p g k c s [] a = sym (add-zero _)
codes_sum p g k c s (e ∷ es) a =
    codes_sum p g k (add_to_row c (code_row (code_in e)) (amount_of e)) (codes_long c e ∙ s) es a.1 ∙ rw (k c e s a.0) (add_assoc (get_or c p 0) (g e) (sum_over g es))

-- all rows begin with 0
from_zero : (p : ℕ) (g : Entry → ℕ) (es : List Entry) → p < 24 → get_or (codes_after (replicate 24 0) es) p 0 ≡ get_or (replicate 24 0) p 0 + sum_over g es
    → get_or (codes_after (replicate 24 0) es) p 0 ≡ sum_over g es
from_zero p g es l e = e ∙ rw (get_or-replicate {A = ℕ} 24 p 0 0 l) (zero-add (sum_over g es))

-- ---- what an acceptance tells

-- these are the numbers of the view
pub record Told (c : Checked) (v : View) : Type 0 where
  pub batches : c.batches ≡ length v.batches
  pub entries : c.entries ≡ length (entries_of v)
  pub addenda : c.addenda ≡ length (addenda_of v)
  pub debit : c.debit ≡ sum_over debit_of (entries_of v)
  pub credit : c.credit ≡ sum_over credit_of (entries_of v)
  -- of each of the twelve codes, how many entries have it and how many cents they are
  pub counts : (k : ℕ) → k < 12 → get_or c.bycode (2 * k) 0 ≡ count_by (get_or codes k 0) (entries_of v)
  pub cents : (k : ℕ) → k < 12 → get_or c.bycode (2 * k + 1) 0 ≡ cents_by (get_or codes k 0) (entries_of v)

-- the grant of a view tells its numbers
granted_told : (v : View) → Keeps v → Told (granted_of v) v
granted_told v k =
    let sums = file_sums v in
    let all = count_records (entries_of v) in
    let is_Known = batches_known 0 v.batches k.batches in
    record {
      batches = sums.batches;
      entries = sums.entries;
      addenda = omega (arith, sums.count, sums.entries);
      debit = sums.debit;
      credit = sums.credit;
      counts =
          λ i l.
          from_zero (2 * i) _ (entries_of v) (omega arith)
          (codes_sum (2 * i) _ (λ c e s g. row_count c (code_row (code_in e)) (amount_of e) i (code_row_small (code_in e)) s ∙ rw (in_row (code_in e) i g l)) (replicate 24 0) refl (entries_of v) is_Known);
      cents =
          λ i l.
          from_zero (2 * i + 1) _ (entries_of v) (omega arith)
          (codes_sum (2 * i + 1) _ (λ c e s g. row_cents c (code_row (code_in e)) (amount_of e) i (code_row_small (code_in e)) s ∙ rw (in_row (code_in e) i g l)) (replicate 24 0) refl (entries_of v) is_Known);
    }

-- the numbers of an acceptance are those of the file's own batches, entries and addenda
pub own_entries : (way : Way) (f : List ℕ) → (checked_of way f).answer ≡ Ok tt → Told (checked_of way f) (view_of way f)
own_entries way f e = subst (λ c. Told c (view_of way f)) (sym (accepted_gives way f e)) (granted_told (view_of way f) (accepted_view way f e).keeps)

-- the records of an accepted file, its controls among them, are those that its view makes
pub own_records : (way : Way) (f : List ℕ) → (checked_of way f).answer ≡ Ok tt → columns_in way f ≡ records_of (view_of way f)
own_records way f e =
    let p = accepted_view way f e in
    ap (columns_in way) p.form ∙ columns_back way (records_of (view_of way f)) (records_long (view_of way f) p.sized)

-- and every field of a control is the text of such a sum
pub own_controls : (way : Way) (f : List ℕ) → (checked_of way f).answer ≡ Ok tt → All BatchControlFields (view_of way f).batches × FileControlFields (view_of way f)
own_controls way f e = (each (view_of way f).batches (accepted_view way f e).sized.each, file_control_fields (view_of way f))
  where
    each : (bs : List Batch) → All SizedBatch bs → All BatchControlFields bs
    each [] l = tt
    each (b ∷ bs) l = (batch_control_fields b l.0.long, each bs l.1)

-- what the pay table's entries come to is the file's two totals
pub own_table : (way : Way) (f : List ℕ) → (checked_of way f).answer ≡ Ok tt
    → (sum_over debit_of (entries_of (view_of_table (table_of way f))) ≡ (checked_of way f).debit) × (sum_over credit_of (entries_of (view_of_table (table_of way f))) ≡ (checked_of way f).credit)
own_table way f e =
    let told = own_entries way f e in
    let same = view_of_table_lem (view_of way f) (accepted_view way f e).sized in
    (ap (λ v. sum_over debit_of (entries_of v)) same ∙ sym told.debit, ap (λ v. sum_over credit_of (entries_of v)) same ∙ sym told.credit)
