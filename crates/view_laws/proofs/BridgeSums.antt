-- What the run has summed up behind each part of a view.
-- Assumes nothing.
use mathlib.Core.Path.{◌≡◌, refl, ◌∙◌}
use mathlib.Core.Bool.{true, false}
use mathlib.Core.List.{List, [], ◌∷◌, ◌++◌, foldr, map}
use Prim.Native.Nat.{ℕ, suc, ◌+◌, ◌*◌}
use native.Mathlib.Nat.{add_assoc, zero-add}
use Rattle.std.proofs.Common.{rules}
use native.Mathlib.Omega.{arith}
use lib.ListN.{length, replicate, length-append, length-map, length-replicate}
use Rattle.check_codes.specs.Codes.{code_row}
use Rattle.check_across.specs.declared.Sums.{Sums}
use Rattle.check_across.specs.Across.{entry_trace, batch_number}
use Rattle.check_order.specs.Order.{filled}
use Rattle.check_sums.specs.Sums.{no_sums, add_record, add_batch, add_entry, add_addendum, add_to_row}
use Rattle.view.specs.View.{Entry, Batch, View, sum_over, records_in, bank_of, debit_of, credit_of, amount_of, code_in, entry_record, addendum_record, entry_records, batch_record, batch_records, batch_control_record, file_control_record, body_of, records_of, entries_of, fillers_after, filler_record}
use Rattle.view_laws.proofs.Lists.{sum_append}
use Rattle.view_laws.proofs.Tables.{entries_in, texts_in}
use Rattle.view_laws.proofs.BridgeRecords.{batch_control_by, file_control_by}

-- ---- where the run stands

-- the sums behind addenda, an entry with them, entries, a batch with its control, batches
abbrev pub after_addenda : Sums → List (List ℕ) → Sums
after_addenda s [] = s
after_addenda s (text ∷ texts) = after_addenda (add_addendum s) texts

abbrev pub after_entry : Sums → Entry → Sums
after_entry s e = after_addenda (add_entry s (entry_record e)) e.addenda

abbrev pub after_entries : Sums → List Entry → Sums
after_entries s [] = s
after_entries s (e ∷ es) = after_entries (after_entry s e) es

abbrev pub after_batch : Sums → Batch → Sums
after_batch s b = add_record (after_entries (add_batch s (batch_record b)) b.entries)

abbrev pub after_batches : Sums → List Batch → Sums
after_batches s [] = s
after_batches s (b ∷ bs) = after_batches (after_batch s b) bs

-- the records of entries, of batches
abbrev pub entries_records : List Entry → List (List ℕ)
entries_records es = foldr (λ e rs. entry_records e ++ rs) [] es

abbrev pub batches_records : List Batch → List (List ℕ)
batches_records bs = foldr (λ b rs. batch_records b ++ rs) [] bs

-- the rows by code behind entries
abbrev pub codes_after : List ℕ → List Entry → List ℕ
codes_after c [] = c
codes_after c (e ∷ es) = codes_after (add_to_row c (code_row (code_in e)) (amount_of e)) es

-- entries behind entries
pub codes_append : (c : List ℕ) (xs ys : List Entry) → codes_after c (xs ++ ys) ≡ codes_after (codes_after c xs) ys
codes_append c [] ys = refl
codes_append c (x ∷ xs) ys = codes_append (add_to_row c (code_row (code_in x)) (amount_of x)) xs ys

-- ---- fillers

-- a filled block wants none; else there is one, and then those behind it
pub fillers_none : (n : ℕ) → filled n ≡ true → fillers_after n ≡ 0
fillers_none n e = search rules

pub fillers_more : (n : ℕ) → filled n ≡ false → fillers_after n ≡ suc (fillers_after (n + 1))
fillers_more n e = search rules

-- and the other way round
pub fillers_full : (n : ℕ) → fillers_after n ≡ 0 → filled n ≡ true
fillers_full n e = search rules

pub fillers_due : (n k : ℕ) → fillers_after n ≡ suc k → filled n ≡ false
fillers_due n k e = search rules

-- ---- a number of the sums that each entry adds to

addenda_keep : {A : Type 0} (Y : Sums → A) → ((s : Sums) → Y (add_addendum s) ≡ Y s) → (s : Sums) (texts : List (List ℕ)) → Y (after_addenda s texts) ≡ Y s
addenda_keep Y k s [] = refl
addenda_keep Y k s (text ∷ texts) = addenda_keep Y k (add_addendum s) texts ∙ k s

addenda_count : (X : Sums → ℕ) → ((s : Sums) → X (add_addendum s) ≡ X s + 1) → (s : Sums) (texts : List (List ℕ)) → X (after_addenda s texts) ≡ X s + length texts
addenda_count X k s [] = omega arith
addenda_count X k s (text ∷ texts) = addenda_count X k (add_addendum s) texts ∙ rw (k s) (omega arith)

-- what entries leave alone
entries_keep : {A : Type 0} (Y : Sums → A) → ((s : Sums) (r : List ℕ) → Y (add_entry s r) ≡ Y s) → ((s : Sums) → Y (add_addendum s) ≡ Y s)
    → (s : Sums) (es : List Entry) → Y (after_entries s es) ≡ Y s
entries_keep Y j k s [] = refl
entries_keep Y j k s (e ∷ es) =
    entries_keep Y j k (after_entry s e) es ∙ addenda_keep Y k (add_entry s (entry_record e)) e.addenda ∙ j s (entry_record e)

-- what entries sum up: g of each entry
entries_sum : (X : Sums → ℕ) (g : Entry → ℕ) → ((s : Sums) (e : Entry) → X (after_entry s e) ≡ X s + g e)
    → (s : Sums) (es : List Entry) → X (after_entries s es) ≡ X s + sum_over g es
unfolding sum_over
entries_sum X g k s [] = omega arith
entries_sum X g k s (e ∷ es) = entries_sum X g k (after_entry s e) es ∙ rw (k s e) (add_assoc (X s) (g e) (sum_over g es))

-- a number that no addendum adds to
plain_sum : (X : Sums → ℕ) (g : Entry → ℕ) → ((s : Sums) (e : Entry) → X (add_entry s (entry_record e)) ≡ X s + g e) → ((s : Sums) → X (add_addendum s) ≡ X s)
    → (s : Sums) (es : List Entry) → X (after_entries s es) ≡ X s + sum_over g es
plain_sum X g j k = entries_sum X g (λ s e. addenda_keep X k (add_entry s (entry_record e)) e.addenda ∙ j s e)

-- a number of records
record_sum : (X : Sums → ℕ) → ((s : Sums) (e : Entry) → X (add_entry s (entry_record e)) ≡ X s + 1) → ((s : Sums) → X (add_addendum s) ≡ X s + 1)
    → (s : Sums) (es : List Entry) → X (after_entries s es) ≡ X s + sum_over records_in es
record_sum X j k =
    entries_sum X records_in (λ s e. addenda_count X k (add_entry s (entry_record e)) e.addenda ∙ rw (j s e) (add_assoc (X s) 1 (length e.addenda)))

-- behind an entry: as many records of its batch more
pub entry_count : (s : Sums) (e : Entry) → (after_entry s e).batchrecords ≡ s.batchrecords + records_in e
entry_count s e = addenda_count (λ x. x.batchrecords) (λ x. refl) (add_entry s (entry_record e)) e.addenda ∙ add_assoc s.batchrecords 1 (length e.addenda)

-- and its trace
pub entry_trace_lem : (s : Sums) (e : Entry) → (after_entry s e).trace ≡ entry_trace (entry_record e)
entry_trace_lem s e = addenda_keep (λ x. x.trace) (λ x. refl) (add_entry s (entry_record e)) e.addenda

-- ---- the sums of a batch, before its control

-- s holds the sums of these entries
pub record BatchSums (s : Sums) (es : List Entry) : Type 0 where
  pub count : s.batchrecords ≡ sum_over records_in es
  pub hash : s.batchhash ≡ sum_over bank_of es
  pub debit : s.batchdebit ≡ sum_over debit_of es
  pub credit : s.batchcredit ≡ sum_over credit_of es

-- so do the sums of a batch, behind its entries
pub batch_sums : (s : Sums) (r : List ℕ) (es : List Entry) → BatchSums (after_entries (add_batch s r) es) es
batch_sums s r es =
    record {
      count = record_sum (λ x. x.batchrecords) (λ x e. refl) (λ x. refl) (add_batch s r) es ∙ zero-add _;
      hash = plain_sum (λ x. x.batchhash) bank_of (λ x e. refl) (λ x. refl) (add_batch s r) es ∙ zero-add _;
      debit = plain_sum (λ x. x.batchdebit) debit_of (λ x e. refl) (λ x. refl) (add_batch s r) es ∙ zero-add _;
      credit = plain_sum (λ x. x.batchcredit) credit_of (λ x e. refl) (λ x. refl) (add_batch s r) es ∙ zero-add _;
    }

-- behind a batch: its number
pub batch_number_lem : (s : Sums) (b : Batch) → (after_batch s b).number ≡ batch_number (batch_record b)
batch_number_lem s b = entries_keep (λ x. x.number) (λ x r. refl) (λ x. refl) (add_batch s (batch_record b)) b.entries

-- ---- the sums over the file, before its control

-- what batches sum up: g of each entry
batches_sum : (X : Sums → ℕ) (g : Entry → ℕ) → ((s : Sums) (b : Batch) → X (after_batch s b) ≡ X s + sum_over g b.entries)
    → (s : Sums) (bs : List Batch) → X (after_batches s bs) ≡ X s + sum_over g (entries_in bs)
unfolding sum_over
batches_sum X g k s [] = omega arith
batches_sum X g k s (b ∷ bs) =
    batches_sum X g k (after_batch s b) bs
    ∙ rw (k s b, sum_append g b.entries (entries_in bs)) (add_assoc (X s) (sum_over g b.entries) (sum_over g (entries_in bs)))

-- as many records as were run over
pub entries_length : (es : List Entry) → length (entries_records es) ≡ sum_over records_in es
unfolding sum_over
entries_length [] = refl
entries_length (e ∷ es) = rw (length-append (map (addendum_record e) e.addenda) (entries_records es), length-map, entries_length es) (omega arith)

batches_length : (bs : List Batch) → length (batches_records bs) ≡ 2 * length bs + sum_over records_in (entries_in bs)
unfolding sum_over
batches_length [] = refl
batches_length (b ∷ bs) =
    let inside = entries_records b.entries in
    rw (length-append (inside ++ batch_control_record b ∷ []) (batches_records bs), length-append inside (batch_control_record b ∷ []), entries_length b.entries, batches_length bs, sum_append records_in b.entries (entries_in bs))
    (omega arith)

-- entries and addenda are the records 6 and 7
pub count_records : (es : List Entry) → sum_over records_in es ≡ length es + length (texts_in es)
unfolding sum_over
count_records [] = refl
count_records (e ∷ es) = rw (length-append e.addenda (texts_in es), count_records es) (omega arith)

-- how many records a file has, and how many of them stand before the file control
pub records_length : (v : View) → length (records_of v) ≡ length (body_of v) + 1 + fillers_after (length (body_of v) + 1)
records_length v =
    let n = length (body_of v) in
    rw (length-append (body_of v) (file_control_record v ∷ replicate (fillers_after (n + 1)) filler_record), length-replicate) (omega arith)

pub body_length : (v : View) → length (body_of v) ≡ 1 + 2 * length v.batches + sum_over records_in (entries_of v)
body_length v = rw (batches_length v.batches) (omega arith)

batches_records_lem : (s : Sums) (bs : List Batch) → (after_batches s bs).records ≡ s.records + length (batches_records bs)
batches_records_lem s [] = omega arith
batches_records_lem s (b ∷ bs) =
    let inside = entries_records b.entries in
    batches_records_lem (after_batch s b) bs
    ∙ rw (length-append (inside ++ batch_control_record b ∷ []) (batches_records bs), length-append inside (batch_control_record b ∷ []), entries_length b.entries, record_sum (λ x. x.records) (λ x e. refl) (λ x. refl) (add_batch s (batch_record b)) b.entries)
    (omega arith)

batches_count : (s : Sums) (bs : List Batch) → (after_batches s bs).batches ≡ s.batches + length bs
batches_count s [] = omega arith
batches_count s (b ∷ bs) =
    batches_count (after_batch s b) bs
    ∙ rw (entries_keep (λ x. x.batches) (λ x r. refl) (λ x. refl) (add_batch s (batch_record b)) b.entries) (omega arith)

-- behind the file header and all batches
abbrev pub after_body : View → Sums
after_body v = after_batches (add_record no_sums) v.batches

-- s holds the sums of this view
pub record FileSums (s : Sums) (v : View) : Type 0 where
  pub batches : s.batches ≡ length v.batches
  pub records : s.records ≡ length (body_of v)
  pub entries : s.entries ≡ length (entries_of v)
  pub count : s.entries + s.addenda ≡ sum_over records_in (entries_of v)
  pub hash : s.hash ≡ sum_over bank_of (entries_of v)
  pub debit : s.debit ≡ sum_over debit_of (entries_of v)
  pub credit : s.credit ≡ sum_over credit_of (entries_of v)

-- a number that no addendum adds to, over the file
file_sum : (X : Sums → ℕ) (g : Entry → ℕ) → ((s : Sums) (e : Entry) → X (add_entry s (entry_record e)) ≡ X s + g e) → ((s : Sums) → X (add_addendum s) ≡ X s)
    → ((s : Sums) (r : List ℕ) → X (add_batch s r) ≡ X s) → ((s : Sums) → X (add_record s) ≡ X s) → X no_sums ≡ 0 → (v : View) → X (after_body v) ≡ sum_over g (entries_of v)
file_sum X g j k m o z v =
    batches_sum X g (λ s b. o _ ∙ plain_sum X g j k (add_batch s (batch_record b)) b.entries ∙ rw (m s (batch_record b))) (add_record no_sums) v.batches
    ∙ rw (o no_sums, z) (zero-add (sum_over g (entries_of v)))

sum_ones : {A : Type 0} (xs : List A) → sum_over (λ x. 1) xs ≡ length xs
unfolding sum_over
sum_ones [] = refl
sum_ones (x ∷ xs) = rw (sum_ones xs) (omega arith)

-- so do the sums before the file control
pub file_sums : (v : View) → FileSums (after_body v) v
file_sums v =
    record {
      batches = batches_count (add_record no_sums) v.batches ∙ zero-add (length v.batches);
      records = batches_records_lem (add_record no_sums) v.batches ∙ omega arith;
      entries = file_sum (λ x. x.entries) (λ e. 1) (λ x e. refl) (λ x. refl) (λ x r. refl) (λ x. refl) refl v ∙ sum_ones (entries_of v);
      count =
          batches_sum (λ x. x.entries + x.addenda) records_in
          (λ x b. record_sum (λ y. y.entries + y.addenda) (λ y e. omega arith) (λ y. omega arith) (add_batch x (batch_record b)) b.entries) (add_record no_sums) v.batches
          ∙ zero-add (sum_over records_in (entries_of v));
      hash = file_sum (λ x. x.hash) bank_of (λ x e. refl) (λ x. refl) (λ x r. refl) (λ x. refl) refl v;
      debit = file_sum (λ x. x.debit) debit_of (λ x e. refl) (λ x. refl) (λ x r. refl) (λ x. refl) refl v;
      credit = file_sum (λ x. x.credit) credit_of (λ x e. refl) (λ x. refl) (λ x r. refl) (λ x. refl) refl v;
    }

-- ---- the control records, as those sums make them, are the view's

-- record 8
pub control_same : (s : Sums) (b : Batch) → batch_control_by (after_entries (add_batch s (batch_record b)) b.entries) (batch_record b) ≡ batch_control_record b
control_same s b =
    let sums = batch_sums s (batch_record b) b.entries in
    rw (sums.count, sums.hash, sums.debit, sums.credit)

-- record 9
pub file_control_same : (v : View) → file_control_by (after_body v) ≡ file_control_record v
file_control_same v =
    let sums = file_sums v in
    rw (sums.batches, sums.records, sums.count, sums.hash, sums.debit, sums.credit)
