-- One amount put into a view: what changes, and what does not.
-- Assumes the view's sizes, an entry that there is, and an amount of ten digits.
use mathlib.Core.Path.{◌≡◌, refl, sym, ap, ap₂, subst, ◌∙◌}
use mathlib.Core.List.{List, [], ◌∷◌, ◌++◌, map, foldr, map-append}
use Prim.Native.Nat.{ℕ, zero, suc, ◌+◌, ◌-◌, ◌*◌, ◌^◌, ◌≤◌, ◌<◌}
use native.Mathlib.Nat.{zero-add, add-zero}
use native.Mathlib.Omega.{arith}
use borrow.Author.Tests.{lt-ltb, le-ltb}
use lib.Dec.{lit<, lit≤}
use lib.ListN.{length, drop, get_or, set, length-append, length-set, length-map, get_or-append, get_or-map}
use lib.Seq.{map-set, sets, length-sets, get_or-append-add, set-append_left, get_or-set_same}
use Rattle.text.specs.Decimal.{value, render}
use Rattle.text.specs.Patch.{patch}
use Rattle.text.specs.Rows.{columns, joined, section}
use Rattle.text.proofs.DecimalLaws.{length_render, value_render_lt}
use Rattle.text.proofs.RowLaws.{length_joined}
use Rattle.text.proofs.SetLaws.{patch_set, length_patch, sets_left, sets_right, sets_joined, part_sets_before, part_sets_at, part_sets_behind}
use Rattle.layout.specs.Fields.{part, entry}
use Rattle.check_codes.specs.declared.Use.{Use}
use Rattle.check_codes.specs.declared.Code.{Code}
use Rattle.check_codes.specs.Codes.{code_of, debit_part, credit_part}
use Rattle.check_across.specs.Across.{entry_flag}
use Rattle.view.specs.View.{Entry, Batch, View, entry_record, entries_of, sum_over, records_in, bank_of, amount_of, code_in, debit_of, credit_of, batch_records}
use Rattle.view.specs.Table.{count_wide, entry_wide, batch_row, addenda_of, table_bytes}
use Rattle.view.specs.Outcome.{no_entry, entry_at, spot_from, spot_of, amended, amend_entry, amend_batch, amend, altered_table}
use Rattle.view.specs.Sized.{All, SizedEntry, SizedBatch, Sized}
use Rattle.view_laws.proofs.Lists.{by_lt, fold_append, set_right, all_mid, all_swap, all_set, all_at, sum_set}
use Rattle.view_laws.proofs.Tables.{entries_in, texts_in, entry_sections, entries_sized, rows_of_entries, entry_part_lem}

-- ---- an entry with another amount

-- its record is the old one with ten bytes set
pub amended_record : (e : Entry) (a : ℕ) → entry_record (amended e a) ≡ sets (entry_record e) 29 (render 10 a)
amended_record e a = let s = sets_right (54 ∷ []) e.row 28 (render 10 a) in ap (λ r. 54 ∷ drop 1 r) s ∙ sym s

-- and so is its row
pub amended_row : (e : Entry) (a : ℕ) → (amended e a).row ≡ sets e.row 28 (render 10 a)
amended_row e a = ap (drop 1) (sets_right (54 ∷ []) e.row 28 (render 10 a))

-- columns in front of the amount stay, and so do those behind it
pub amended_front : (e : Entry) (a p q : ℕ) → 1 ≤ p → p ≤ q → q < 30 → columns p q (entry_record (amended e a)) ≡ columns p q (entry_record e)
amended_front e a p q h g k = rw (amended_record e a) (part_sets_before (entry_record e) 29 (render 10 a) (p - 1) (q + 1 - p) (omega arith))

pub amended_back : (e : Entry) (a p q : ℕ) → 39 < p → columns p q (entry_record (amended e a)) ≡ columns p q (entry_record e)
amended_back e a p q h =
    rw (amended_record e a) (part_sets_behind (entry_record e) 29 (render 10 a) (p - 1) (q + 1 - p) (rw length_render (omega arith)))

-- the amount is the new one
pub amended_amount : (e : Entry) (a : ℕ) → length e.row ≡ 93 → a < 10 ^ 10 → amount_of (amended e a) ≡ a
amended_amount e a h k =
    let vs = render 10 a in
    let n = length_render 10 a in
    ap value (rw (amended_record e a) (rw n at (part_sets_at (entry_record e) 29 vs (rw n (omega arith))))) ∙ value_render_lt 10 a k

-- everything else that is read of it is the old entry's: code, bank, column 79, trace
pub amended_code : (e : Entry) (a : ℕ) → code_in (amended e a) ≡ code_in e
amended_code e a = ap value (amended_front e a 2 3 (lit≤ tt) (lit≤ tt) (lit< tt))

pub amended_bank : (e : Entry) (a : ℕ) → bank_of (amended e a) ≡ bank_of e
amended_bank e a = ap value (amended_front e a 4 11 (lit≤ tt) (lit≤ tt) (lit< tt))

pub amended_flag : (e : Entry) (a : ℕ) → entry_flag (entry_record (amended e a)) ≡ entry_flag (entry_record e)
amended_flag e a = amended_back e a 79 79 (lit< tt)

pub amended_trace : (e : Entry) (a : ℕ) → part entry 11 (entry_record (amended e a)) ≡ part entry 11 (entry_record e)
amended_trace e a = amended_back e a 80 94 (lit< tt)

-- what it adds to the totals: the new amount, on the old side
pub amended_debit : (e : Entry) (a : ℕ) → length e.row ≡ 93 → a < 10 ^ 10 → debit_of (amended e a) ≡ debit_part (code_of (code_in e)) a
amended_debit e a h k = rw (amended_code e a, amended_amount e a h k)

pub amended_credit : (e : Entry) (a : ℕ) → length e.row ≡ 93 → a < 10 ^ 10 → credit_of (amended e a) ≡ credit_part (code_of (code_in e)) a
amended_credit e a h k = rw (amended_code e a, amended_amount e a h k)

amended_sized : (e : Entry) (a : ℕ) → SizedEntry e → SizedEntry (amended e a)
amended_sized e a s =
    record {
      long = ap length (amended_row e a) ∙ length-sets e.row 28 (render 10 a) ∙ s.long;
      texts = s.texts;
      due = rw (amended_flag e a) s.due;
    }

-- ---- where an entry stands

abbrev pub records_for : List Batch → List (List ℕ)
records_for bs = foldr (λ b rs. batch_records b ++ rs) [] bs

-- the batches before the entry's, its batch, those behind it, and the entry's place in its batch
record Found (k : ℕ) (bs : List Batch) : Type 0 where
  before : List Batch
  batch : Batch
  behind : List Batch
  index : ℕ
  whole : bs ≡ before ++ (batch ∷ behind)
  place : k ≡ length (entries_in before) + index
  inside : index < length batch.entries

find : (k : ℕ) (bs : List Batch) → k < length (entries_in bs) → Found k bs
find k [] h = absurd (omega arith)
find k (b ∷ bs) h =
    let n = length-append b.entries (entries_in bs) in
    by_lt k (length b.entries)
    (λ g _. record { before = []; batch = b; behind = bs; index = k; whole = refl; place = sym (zero-add k); inside = g })
    (λ g _.
    let f = find (k - length b.entries) bs (omega arith) in
    record {
      before = b ∷ f.before;
      batch = f.batch;
      behind = f.behind;
      index = f.index;
      whole = ap (λ l. b ∷ l) f.whole;
      place = omega (arith, f.place, length-append b.entries (entries_in f.before));
      inside = f.inside;
    })

-- an amount put in by its place in a list of entries
pub amend_entry_lem : (es : List Entry) (k a : ℕ) → amend_entry k a es ≡ set es k (amended (get_or es k no_entry) a)
unfolding amend_entry
amend_entry_lem [] k a = refl
amend_entry_lem (e ∷ es) zero a = refl
amend_entry_lem (e ∷ es) (suc k) a = ap (λ l. e ∷ l) (amend_entry_lem es k a)

-- a batch with one amount put in
abbrev pub amended_batch : Batch → ℕ → ℕ → Batch
amended_batch b index a = record { row = b.row; entries = amend_entry index a b.entries }

module _ (b : Batch) (behind : List Batch) (index : ℕ) (inside : index < length b.entries) where
  -- that entry's spot
  spot_at : (before : List Batch) (n : ℕ)
      → spot_from (length (entries_in before) + index) n (before ++ (b ∷ behind))
      ≡ record { batch = b; opened = n + length (records_for before); index = index }
  unfolding spot_from
  spot_at [] n = rw (zero-add, add-zero, lt-ltb index (length b.entries) inside)
  spot_at (c ∷ before) n =
      let l = length-append c.entries (entries_in before) in
      let r = length-append (batch_records c) (records_for before) in
      let k = length (entries_in before) + index in
      let e : length (c.entries ++ entries_in before) + index - length c.entries ≡ k = omega arith in
      let m : n + length (batch_records c) + length (records_for before) ≡ n + length (batch_records c ++ records_for before) = omega arith in
      rw (le-ltb (length (c.entries ++ entries_in before) + index) (length c.entries) (omega arith), e, spot_at before (n + length (batch_records c)), m)

  -- and the batches with its amount put in
  amend_at : (before : List Batch) (a : ℕ)
      → amend_batch (length (entries_in before) + index) a (before ++ (b ∷ behind)) ≡ before ++ (amended_batch b index a ∷ behind)
  unfolding amend_batch
  amend_at [] a = rw (zero-add, lt-ltb index (length b.entries) inside)
  amend_at (c ∷ before) a =
      let l = length-append c.entries (entries_in before) in
      let k = length (entries_in before) + index in
      let e : length (c.entries ++ entries_in before) + index - length c.entries ≡ k = omega arith in
      rw (le-ltb (length (c.entries ++ entries_in before) + index) (length c.entries) (omega arith), e, amend_at before a)

-- ---- a list of entries with one amount put in

length_amend : (es : List Entry) (k a : ℕ) → length (amend_entry k a es) ≡ length es
length_amend es k a = ap length (amend_entry_lem es k a) ∙ length-set es k (amended (get_or es k no_entry) a)

texts_amend : (es : List Entry) (k a : ℕ) → texts_in (amend_entry k a es) ≡ texts_in es
unfolding amend_entry
texts_amend [] k a = refl
texts_amend (e ∷ es) zero a = refl
texts_amend (e ∷ es) (suc k) a = ap (λ l. e.addenda ++ l) (texts_amend es k a)

-- the old number of the entry goes out of a sum, the new one comes in
sum_amend : (f : Entry → ℕ) (es : List Entry) (k a : ℕ) → k < length es
    → sum_over f (amend_entry k a es) + f (get_or es k no_entry) ≡ sum_over f es + f (amended (get_or es k no_entry) a)
sum_amend f es k a h = rw (amend_entry_lem es k a) (sum_set f es k (amended (get_or es k no_entry) a) no_entry h)

-- the sums of the entries' numbers, amended, against what they were
pub record Moved (es : List Entry) (e : Entry) (a : ℕ) (es' : List Entry) : Type 0 where
  pub records : sum_over records_in es' ≡ sum_over records_in es
  pub banks : sum_over bank_of es' ≡ sum_over bank_of es
  pub debits : sum_over debit_of es' + debit_of e ≡ sum_over debit_of es + debit_part (code_of (code_in e)) a
  pub credits : sum_over credit_of es' + credit_of e ≡ sum_over credit_of es + credit_part (code_of (code_in e)) a

-- one amount put into a list of entries moves them so
pub moved : (es : List Entry) (k a : ℕ) → All SizedEntry es → k < length es → a < 10 ^ 10 → Moved es (get_or es k no_entry) a (amend_entry k a es)
moved es k a s h few =
    let e = get_or es k no_entry in
    let long = (all_at SizedEntry es k no_entry s h).long in
    record {
      records = omega (arith, sum_amend records_in es k a h);
      banks = omega (arith, sum_amend bank_of es k a h, amended_bank e a);
      debits = sum_amend debit_of es k a h ∙ ap (λ n. sum_over debit_of es + n) (amended_debit e a long few);
      credits = sum_amend credit_of es k a h ∙ ap (λ n. sum_over credit_of es + n) (amended_credit e a long few);
    }

-- so a debit's amount moves the debits alone, and a credit's the credits alone
pub debit_moved : {es es' : List Entry} {e : Entry} {a : ℕ} → Moved es e a es' → (u : Use) → code_of (code_in e) ≡ Code.Debit u
    → (sum_over debit_of es' + amount_of e ≡ sum_over debit_of es + a) × (sum_over credit_of es' ≡ sum_over credit_of es)
debit_moved m u c = (rw c at m.debits, omega (arith, rw c at m.credits))

pub credit_moved : {es es' : List Entry} {e : Entry} {a : ℕ} → Moved es e a es' → (u : Use) → code_of (code_in e) ≡ Code.Credit u
    → (sum_over debit_of es' ≡ sum_over debit_of es) × (sum_over credit_of es' + amount_of e ≡ sum_over credit_of es + a)
credit_moved m u c = (omega (arith, rw c at m.debits), rw c at m.credits)

-- the batches of a view and of the amended one, parted at the entry's batch
pub record Stands (v : View) (k a : ℕ) : Type 0 where
  pub before : List Batch
  pub batch : Batch
  pub behind : List Batch
  pub index : ℕ
  pub inside : index < length batch.entries
  pub sized : SizedBatch batch
  pub were : v.batches ≡ before ++ (batch ∷ behind)
  pub are : (amend v k a).batches ≡ before ++ (amended_batch batch index a ∷ behind)
  pub spot : spot_of v k ≡ record { batch = batch; opened = 2 + length (records_for before); index = index }
  pub entry : entry_at v k ≡ get_or batch.entries index no_entry

-- ---- a view with one amount put in

module _ (v : View) (k a : ℕ) (s : Sized v) (first : 1 ≤ k) (last : k ≤ length (entries_of v)) (few : a < 10 ^ 10) where
  at : Found (k - 1) v.batches
  at = find (k - 1) v.batches (omega arith)

  spot_is : spot_of v k ≡ record { batch = at.batch; opened = 2 + length (records_for at.before); index = at.index }
  spot_is = ap₂ (λ n bs. spot_from n 2 bs) at.place at.whole ∙ spot_at at.batch at.behind at.index at.inside at.before 2

  batches_are : (amend v k a).batches ≡ at.before ++ (amended_batch at.batch at.index a ∷ at.behind)
  batches_are =
      ap₂ (λ n bs. amend_batch n a bs) at.place at.whole ∙ amend_at at.batch at.behind at.index at.inside at.before a

  entries_were : entries_of v ≡ entries_in at.before ++ (at.batch.entries ++ entries_in at.behind)
  entries_were = ap entries_in at.whole ∙ fold_append (λ b. b.entries) at.before (at.batch ∷ at.behind)

  entries_are : entries_of (amend v k a) ≡ entries_in at.before ++ (amend_entry at.index a at.batch.entries ++ entries_in at.behind)
  entries_are = ap entries_in batches_are ∙ fold_append (λ b. b.entries) at.before (amended_batch at.batch at.index a ∷ at.behind)

  -- the entry itself, in its batch
  entry_is : entry_at v k ≡ get_or at.batch.entries at.index no_entry
  entry_is =
      let es = at.batch.entries in
      rw (entries_were, at.place, get_or-append-add (entries_in at.before) (es ++ entries_in at.behind) at.index no_entry)
      (get_or-append es (entries_in at.behind) no_entry at.index at.inside)

  -- the entries are the old ones with one of them amended
  pub entries_amended : entries_of (amend v k a) ≡ set (entries_of v) (k - 1) (amended (entry_at v k) a)
  entries_amended =
      let es = at.batch.entries in
      let x = amended (get_or es at.index no_entry) a in
      rw (entries_are, entry_is, entries_were, at.place, set_right (entries_in at.before) (es ++ entries_in at.behind) at.index x, set-append_left es (entries_in at.behind) at.index x at.inside, amend_entry_lem es at.index a)

  -- as many as before; the k-th is amended, the others are as they were
  pub entries_length : length (entries_of (amend v k a)) ≡ length (entries_of v)
  entries_length = rw entries_amended (length-set (entries_of v) (k - 1) (amended (entry_at v k) a))

  pub entry_amended : entry_at (amend v k a) k ≡ amended (entry_at v k) a
  entry_amended = rw entries_amended (get_or-set_same (entries_of v) (k - 1) (amended (entry_at v k) a) no_entry (omega arith))

  -- the addenda stay
  pub addenda_amended : addenda_of (amend v k a) ≡ addenda_of v
  addenda_amended = ap texts_in (entries_amended ∙ sym (amend_entry_lem (entries_of v) (k - 1) a)) ∙ texts_amend (entries_of v) (k - 1) a

  batches_were : All SizedBatch (at.before ++ (at.batch ∷ at.behind))
  batches_were = subst (All SizedBatch) at.whole s.each

  batch_was : SizedBatch at.batch
  batch_was = all_mid SizedBatch at.before at.batch at.behind batches_were

  batch_sized : SizedBatch (amended_batch at.batch at.index a)
  batch_sized =
      let es = at.batch.entries in
      let e = get_or es at.index no_entry in
      record {
        long = batch_was.long;
        each = rw (amend_entry_lem es at.index a) (all_set SizedEntry es at.index (amended e a) batch_was.each
            (amended_sized e a (all_at SizedEntry es at.index no_entry batch_was.each at.inside)));
      }

  -- as many batches as before
  pub batches_length : length (amend v k a).batches ≡ length v.batches
  batches_length = ap length batches_are ∙ rw length-append (sym (length-append at.before (at.batch ∷ at.behind))) ∙ ap length (sym at.whole)

  -- the sizes stay
  pub amend_sized : Sized (amend v k a)
  amend_sized =
      record {
        long = s.long;
        each = subst (All SizedBatch) (sym batches_are) (all_swap SizedBatch at.before at.batch (amended_batch at.batch at.index a) at.behind batches_were batch_sized);
        batches = rw batches_length s.batches;
        entries = rw entries_length s.entries;
        addenda = rw addenda_amended s.addenda;
      }

  -- the entry stands where it stood, in its batch with the amount put in
  pub spot_amended : spot_of (amend v k a) k ≡ record { batch = amended_batch (spot_of v k).batch (spot_of v k).index a; opened = (spot_of v k).opened; index = (spot_of v k).index }
  spot_amended =
      let es = at.batch.entries in
      ap₂ (λ n bs. spot_from n 2 bs) at.place batches_are
      ∙ spot_at (amended_batch at.batch at.index a) at.behind at.index (rw (length_amend es at.index a) at.inside) at.before 2
      ∙ ap (λ p. record { batch = amended_batch p.batch p.index a; opened = p.opened; index = p.index }) (sym spot_is)

  -- its spot is a place in its batch, it is the entry there, and the batch has its sizes
  pub spot_inside : (spot_of v k).index < length (spot_of v k).batch.entries
  spot_inside = rw spot_is at.inside

  pub spot_entry : get_or (spot_of v k).batch.entries (spot_of v k).index no_entry ≡ entry_at v k
  spot_entry = rw spot_is (sym entry_is)

  pub spot_sized : SizedBatch (spot_of v k).batch
  spot_sized = rw spot_is batch_was

  -- the sums of the file, and of the batch
  pub file_moved : Moved (entries_of v) (entry_at v k) a (entries_of (amend v k a))
  file_moved =
      rw (entries_amended, ← amend_entry_lem (entries_of v) (k - 1) a)
      (moved (entries_of v) (k - 1) a (entries_sized v.batches s.each) (omega arith) few)

  pub batch_moved : Moved (spot_of v k).batch.entries (entry_at v k) a (spot_of (amend v k a) k).batch.entries
  batch_moved = rw (spot_amended, ← spot_entry) (moved (spot_of v k).batch.entries (spot_of v k).index a spot_sized.each spot_inside few)

  -- the batches' rows of the table stay, and one entry's row has ten bytes set
  batch_rows_amended : map batch_row (amend v k a).batches ≡ map batch_row v.batches
  batch_rows_amended =
      ap (map batch_row) batches_are
      ∙ map-append batch_row at.before (amended_batch at.batch at.index a ∷ at.behind)
      ∙ rw (length_amend at.batch.entries at.index a) (sym (map-append batch_row at.before (at.batch ∷ at.behind)))
      ∙ ap (map batch_row) (sym at.whole)

  entry_rows_amended : map (λ e. e.row) (entries_of (amend v k a)) ≡ patch (map (λ e. e.row) (entries_of v)) (k - 1) 28 (render 10 a)
  entry_rows_amended =
      rw (entries_amended, map-set (λ e. e.row) (entries_of v) (k - 1) (amended (entry_at v k) a), amended_row (entry_at v k) a, patch_set)
      (ap (λ r. set (map (λ e. e.row) (entries_of v)) (k - 1) (sets r 28 (render 10 a))) (sym (get_or-map (λ e. e.row) (entries_of v) (k - 1) no_entry)))

  -- the table is the old one with ten bytes set
  pub table_amended : altered_table (table_bytes v) k a ≡ table_bytes (amend v k a)
  table_amended =
      let vs = render 10 a in
      let rs = map (λ e. e.row) (entries_of v) in
      let files = section count_wide (v.row ∷ []) in
      let batches = section count_wide (map batch_row v.batches) in
      let count = render count_wide (length rs) in
      let addenda = section count_wide (addenda_of v) in
      let long = rows_of_entries (entries_of v) (entries_sized v.batches s.each) in
      let many : length rs ≡ length (entries_of v) = length-map (entries_of v) (λ e. e.row) in
      let o = 93 * (k - 1) + 28 in
      let m = length-append files (batches ++ entry_sections v) in
      let n = length-append batches (entry_sections v) in
      let c = length_render count_wide (length rs) in
      let ten = length_render 10 a in
      let p : length (table_bytes v) - length (entry_sections v) + count_wide + entry_wide * (k - 1) + 28 ≡ length files + (length batches + (length count + o)) = omega arith in
      let fits : length count + o + length vs ≤ length (count ++ joined rs) =
      rw (length-append, length_joined 93 rs long) (omega arith) in
      rw (entry_part_lem v s, p, sets_right files (batches ++ entry_sections v) (length batches + (length count + o)) vs, sets_right batches (entry_sections v) (length count + o) vs, sets_left (count ++ joined rs) addenda (length count + o) vs fits, sets_right count (joined rs) o vs, sets_joined 93 rs (k - 1) 28 vs long (omega arith) (omega arith), batch_rows_amended, addenda_amended, entry_rows_amended, length_patch)

  -- where all of this stands in the list of batches
  pub stands : Stands v k a
  stands =
      record {
        before = at.before;
        batch = at.batch;
        behind = at.behind;
        index = at.index;
        inside = at.inside;
        sized = batch_was;
        were = at.whole;
        are = batches_are;
        spot = spot_is;
        entry = entry_is;
      }
