-- The answer of the question: of any list the first row over the limit; of a file's own list the answer from summing every entry.
-- Assumes nothing.
use mathlib.Core.Path.{◌≡◌, refl, sym, ap, ap₂, ◌∙◌}
use mathlib.Core.Bool.{Bool, true, false}
use mathlib.Core.List.{List, [], ◌∷◌, ◌++◌, append-nil, append_assoc}
use Prim.Native.Nat.{ℕ, zero, suc, ◌+◌, ◌*◌, ◌/◌, ◌%◌, ◌≤◌, ◌<◌}
use native.Mathlib.Omega.{arith}
use borrow.Author.Tests.{ltb-true, ltb-false}
use lib.Dec.{ltb}
use lib.ListN.{length, take, get_or, length-append}
use lib.Seq.{take_at}
use Rattle.text.specs.Decimal.{pick}
use Rattle.view.specs.View.{Batch, View, sum_over, records_in, credit_of, batch_records, batch_control_record}
use Rattle.view_laws.proofs.Amend.{records_for}
use Rattle.view_laws.proofs.BridgeFields.{never}
use Rattle.view_laws.proofs.BridgeSums.{entries_records}
use Rattle.view_laws.proofs.Lists.{fold_append, sum_append}
use Rattle.view_laws.proofs.Tables.{entries_in}
use Rattle.find_entry.proofs.Places.{length_entries}
use Rattle.funds.specs.RunsOut.{RunsOut}
use Rattle.funds.specs.Funds.{runs_out_from, runs_out, rows_from, rows_of}
use Rattle.funds.specs.Summed.{credits_to, control_at, summed_from, summed, FirstOver, NoneOver}

-- ---- of any list

-- the same, with k rows tried before
record FirstFrom (limit k : ℕ) (rows : List ℕ) (r : RunsOut) : Type 0 where
  index : ℕ
  whole : 2 * index + 2 ≤ length rows
  number : r.record ≡ get_or rows (2 * index) 0
  credits : r.credits ≡ get_or rows (2 * index + 1) 0
  over : limit < get_or rows (2 * index + 1) 0
  before : (i : ℕ) → i < index → get_or rows (2 * i + 1) 0 ≤ limit
  rows_to : r.rows ≡ k + index + 1

record NoneFrom (limit k : ℕ) (rows : List ℕ) (r : RunsOut) : Type 0 where
  number : r.record ≡ 0
  credits : r.credits ≡ 0
  none : (i : ℕ) → i < length rows / 2 → get_or rows (2 * i + 1) 0 ≤ limit
  rows_all : r.rows ≡ k + length rows / 2

abbrev Decided : ℕ → ℕ → List ℕ → RunsOut → Type 0
Decided limit k rows r = (r.found ≡ true → FirstFrom limit k rows r) × (r.found ≡ false → NoneFrom limit k rows r)

-- behind a first row that does not exceed
module _ (limit n c : ℕ) (rows : List ℕ) (h : c ≤ limit) where
  even : (i : ℕ) → get_or (n ∷ c ∷ rows) (2 * (i + 1)) 0 ≡ get_or rows (2 * i) 0
  even i = let two : 2 * (i + 1) ≡ suc (suc (2 * i)) = omega arith in rw two refl

  odd : (i : ℕ) → get_or (n ∷ c ∷ rows) (2 * (i + 1) + 1) 0 ≡ get_or rows (2 * i + 1) 0
  odd i = let two : 2 * (i + 1) + 1 ≡ suc (suc (2 * i + 1)) = omega arith in rw two refl

  earlier : (m : ℕ) → ((i : ℕ) → i < m → get_or rows (2 * i + 1) 0 ≤ limit) → (i : ℕ) → i < m + 1 → get_or (n ∷ c ∷ rows) (2 * i + 1) 0 ≤ limit
  earlier m e zero l = h
  earlier m e (suc i) l =
      let one : suc i ≡ i + 1 = omega arith in
      rw (one, odd i) (e i (omega (arith, l)))

  behind : (k : ℕ) (r : RunsOut) → Decided limit (k + 1) rows r → Decided limit k (n ∷ c ∷ rows) r
  behind k r d = (
    λ e.
        let f = d.0 e in
        record {
          index = f.index + 1;
          whole = omega (arith, f.whole);
          number = f.number ∙ sym (even f.index);
          credits = f.credits ∙ sym (odd f.index);
          over = rw (odd f.index) f.over;
          before = earlier f.index f.before;
          rows_to = omega (arith, f.rows_to);
        },
    λ e.
        let f = d.1 e in
        let more : suc (suc (length rows)) / 2 ≡ length rows / 2 + 1 = omega arith in
        record {
          number = f.number;
          credits = f.credits;
          none = λ i l. earlier (length rows / 2) f.none i (omega (arith, l, more));
          rows_all = omega (arith, f.rows_all, more);
        },
  )

decided : (limit k : ℕ) (rows : List ℕ) → Decided limit k rows (runs_out_from limit k rows)
unfolding runs_out_from
decided limit k [] = (λ e. never e, λ e. record { number = refl; credits = refl; none = λ i l. absurd (omega (arith, l)); rows_all = omega arith })
decided limit k (n ∷ []) = (λ e. never e, λ e. record { number = refl; credits = refl; none = λ i l. absurd (omega (arith, l)); rows_all = omega arith })
decided limit k (n ∷ c ∷ rows) = go (ltb limit c) refl (decided limit (k + 1) rows)
  where
    go : (b : Bool) → ltb limit c ≡ b → Decided limit (k + 1) rows (runs_out_from limit (k + 1) rows)
        → Decided limit k (n ∷ c ∷ rows) (pick b (record { found = true; «record» = n; credits = c; rows = k + 1 }) (runs_out_from limit (k + 1) rows))
    go true t d = (
      λ e. record { index = 0; whole = omega arith; number = refl; credits = refl; over = ltb-true limit c t; before = λ i l. absurd (omega (arith, l)); rows_to = omega arith },
      λ e. never (sym e),
    )
    go false t d = behind limit n c rows (ltb-false limit c t) k (runs_out_from limit (k + 1) rows) d

pub found_first : (limit : ℕ) (rows : List ℕ) → (runs_out limit rows).found ≡ true → FirstOver limit rows (runs_out limit rows)
found_first limit rows e =
    let f = (decided limit 0 rows).0 e in
    record { index = f.index; whole = f.whole; number = f.number; credits = f.credits; over = f.over; before = f.before; rows_to = omega (arith, f.rows_to) }

pub found_none : (limit : ℕ) (rows : List ℕ) → (runs_out limit rows).found ≡ false → NoneOver limit rows (runs_out limit rows)
found_none limit rows e =
    let f = (decided limit 0 rows).1 e in
    record { number = f.number; credits = f.credits; none = f.none; rows_all = omega (arith, f.rows_all) }

-- ---- of a file's own list

module _ (limit : ℕ) (v : View) where
  -- up to the end of the next batch
  module _ (done : List Batch) (b : Batch) (rest : List Batch) (e : v.batches ≡ done ++ (b ∷ rest)) where
    front : take (length done + 1) v.batches ≡ done ++ (b ∷ [])
    front =
        let whole : v.batches ≡ (done ++ (b ∷ [])) ++ rest = e ∙ sym (append_assoc done (b ∷ []) rest) in
        ap (take (length done + 1)) whole ∙ take_at (done ++ (b ∷ [])) rest (length done + 1) (length-append done (b ∷ []))

    credits_next : credits_to v (length done + 1) ≡ sum_over credit_of (entries_in done) + sum_over credit_of b.entries
    credits_next =
        ap (λ bs. sum_over credit_of (entries_in bs)) front
        ∙ ap (sum_over credit_of) (fold_append (λ x. x.entries) done (b ∷ []) ∙ ap (λ es. entries_in done ++ es) (append-nil b.entries))
        ∙ sum_append credit_of (entries_in done) b.entries

    records_next : length (records_for (done ++ (b ∷ []))) ≡ length (records_for done) + (sum_over records_in b.entries + 2)
    records_next =
        let own : length (batch_records b) ≡ sum_over records_in b.entries + 2 =
        omega (arith, length-append (entries_records b.entries) (batch_control_record b ∷ []), length_entries b.entries) in
        ap length (fold_append batch_records done (b ∷ []) ∙ ap (λ rs. records_for done ++ rs) (append-nil (batch_records b)))
        ∙ length-append (records_for done) (batch_records b)
        ∙ ap (λ n. length (records_for done) + n) own

    control_next_lem : control_at v (length done + 1) ≡ 2 + length (records_for done) + 1 + sum_over records_in b.entries
    control_next_lem = ap (λ bs. suc (length (records_for bs))) front ∙ omega (arith, records_next)

  own_from : (done rest : List Batch) → v.batches ≡ done ++ rest
      → runs_out_from limit (length done) (rows_from (2 + length (records_for done)) (sum_over credit_of (entries_in done)) rest) ≡ summed_from limit v (length done) (length rest)
  unfolding runs_out_from rows_from summed_from
  own_from done [] e = refl
  own_from done (b ∷ rest) e =
      let n = 2 + length (records_for done) in
      let sum = sum_over credit_of (entries_in done) in
      let c = sum + sum_over credit_of b.entries in
      let m = n + 1 + sum_over records_in b.entries in
      let next = done ++ (b ∷ []) in
      let later = own_from next rest (e ∙ sym (append_assoc done (b ∷ []) rest)) in
      let count : length next ≡ length done + 1 = length-append done (b ∷ []) in
      let records : 2 + length (records_for next) ≡ m + 1 = omega (arith, records_next done b rest e) in
      let credits : sum_over credit_of (entries_in next) ≡ c = ap (sum_over credit_of) (fold_append (λ x. x.entries) done (b ∷ []) ∙ ap (λ es. entries_in done ++ es) (append-nil b.entries)) ∙ sum_append credit_of (entries_in done) b.entries in
      let tail : runs_out_from limit (length done + 1) (rows_from (m + 1) c rest) ≡ summed_from limit v (length done + 1) (length rest) =
      ap₂ (λ k l. runs_out_from limit k l) (sym count) (ap₂ (λ x y. rows_from x y rest) (sym records) (sym credits)) ∙ later ∙ ap (λ k. summed_from limit v k (length rest)) count in
      step (length done) (sym (control_next_lem done b rest e)) (sym (credits_next done b rest e)) tail
    where
      step : (k : ℕ) {m m' c c' : ℕ} {x y : RunsOut} → m ≡ m' → c ≡ c' → x ≡ y
          → pick (ltb limit c) (record { found = true; «record» = m; credits = c; rows = k + 1 }) x
          ≡ pick (ltb limit c') (record { found = true; «record» = m'; credits = c'; rows = k + 1 }) y
      step k d e f = rw (d, e, f) refl

  -- "For the file's own list the answer equals the one from summing every entry"
  pub own_list : runs_out limit (rows_of v) ≡ summed limit v
  unfolding sum_over
  own_list = own_from [] v.batches refl

-- "a lone number at the end is no row"
pub lone_number : (limit k n : ℕ) (rows : List ℕ) → length rows % 2 ≡ 0 → runs_out_from limit k (rows ++ (n ∷ [])) ≡ runs_out_from limit k rows
unfolding runs_out_from
lone_number limit k n [] e = refl
lone_number limit k n (x ∷ []) e = absurd (omega (arith, e))
lone_number limit k n (x ∷ c ∷ rows) e = ap (pick (ltb limit c) (record { found = true; «record» = x; credits = c; rows = k + 1 })) (lone_number limit (k + 1) n rows (omega (arith, e)))
