-- What stays and what goes: the entries in order, their sums, the records and the bytes.
-- Assumes nothing but the sizes, where bytes are counted.
use mathlib.Core.Path.{◌≡◌, refl, sym, ap, ◌∙◌}
use mathlib.Core.Bool.{Bool, true, false}
use mathlib.Core.List.{List, [], ◌∷◌, ◌++◌}
use Prim.Native.Nat.{ℕ, suc, ◌+◌, ◌≤◌, ◌<◌}
use native.Mathlib.Nat.{add-zero, mul-le-mul_left}
use native.Mathlib.Omega.{arith}
use borrow.Author.Tests.{leb-true, eqb-false, eq-eqb, ne_eqb}
use lib.Dec.{leb}
use lib.ListN.{length, length-append}
use Rattle.text.proofs.DecimalLaws.{and_both}
use Rattle.layout.specs.declared.Way.{Way}
use Rattle.layout.specs.Ways.{record_bytes}
use Rattle.view.specs.View.{Entry, Batch, View, sum_over, records_in, entries_of, body_of, fillers_after, records_of, file_of}
use Rattle.view.specs.Outcome.{exists}
use Rattle.view.specs.Sized.{All, SizedEntry, SizedBatch, Sized}
use Rattle.view_laws.proofs.Tables.{entries_in, texts_in}
use Rattle.view_laws.proofs.Reading.{file_length}
use Rattle.view_laws.proofs.BridgeFields.{by_eq}
use Rattle.view_laws.proofs.BridgeSums.{count_records, records_length, body_length}
use Rattle.recall_view.specs.RecallView.{named, entries_left, unless_empty, batches_left, without, all_exist}
use Rattle.recall_view.specs.Gone.{entries_gone, gone_of, distinct}

-- ---- one entry after another

-- an entry goes or stays, with the test's value
pub by_named : {P : Type 0} (k : ℕ) (ns : List ℕ) → (named k ns ≡ true → P) → (named k ns ≡ false → P) → P
by_named {P} k ns f g = go (named k ns) refl
  where
    go : (t : Bool) → named k ns ≡ t → P
    go true e = f e
    go false e = g e

-- one entry, which goes or stays
module _ (ns : List ℕ) (k : ℕ) (e : Entry) (es : List Entry) where
  pub gone_step : named k ns ≡ true → entries_left ns k (e ∷ es) ≡ entries_left ns (k + 1) es
  unfolding entries_left
  gone_step h = rw h

  pub stay_step : named k ns ≡ false → entries_left ns k (e ∷ es) ≡ e ∷ entries_left ns (k + 1) es
  unfolding entries_left
  stay_step h = rw h

-- a batch with no entry left is dropped, another stays
pub unless_empty_lem : (P : List Batch → Type 0) (row : List ℕ) (es : List Entry) (bs : List Batch)
    → P bs → (1 ≤ length es → P (record { row = row; entries = es } ∷ bs)) → P (unless_empty row es bs)
unless_empty_lem P row [] bs p q = p
unless_empty_lem P row (e ∷ es) bs p q = q (omega arith)

-- either way its entries are there
entries_kept : (row : List ℕ) (es : List Entry) (bs : List Batch) → entries_in (unless_empty row es bs) ≡ es ++ entries_in bs
entries_kept row [] bs = refl
entries_kept row (e ∷ es) bs = refl

module _ (ns : List ℕ) where
  -- of entries behind entries
  pub left_append : (k : ℕ) (xs ys : List Entry) → entries_left ns k (xs ++ ys) ≡ entries_left ns k xs ++ entries_left ns (k + length xs) ys
  unfolding entries_left
  left_append k [] ys = ap (λ j. entries_left ns j ys) (sym (add-zero k))
  left_append k (x ∷ xs) ys =
      let place : k + 1 + length xs ≡ k + length (x ∷ xs) = omega arith in
      let on = left_append (k + 1) xs ys ∙ ap (λ j. entries_left ns (k + 1) xs ++ entries_left ns j ys) place in
      by_named k ns (λ h. rw (h, on)) (λ h. rw (h, on))

  -- what stays and what goes come to the whole
  pub sum_parts : (f : Entry → ℕ) (k : ℕ) (es : List Entry) → sum_over f (entries_left ns k es) + sum_over f (entries_gone ns k es) ≡ sum_over f es
  unfolding entries_left entries_gone sum_over
  sum_parts f k [] = refl
  sum_parts f k (e ∷ es) =
      let on = sum_parts f (k + 1) es in
      by_named k ns (λ h. rw h (omega arith)) (λ h. rw h (omega arith))

  -- so what stays comes to no more
  pub sum_less : (f : Entry → ℕ) (k : ℕ) (es : List Entry) → sum_over f (entries_left ns k es) ≤ sum_over f es
  sum_less f k es = omega (arith, sum_parts f k es)

  -- what holds of each holds of each that stays
  pub all_left : (P : Entry → Type 0) (k : ℕ) (es : List Entry) → All P es → All P (entries_left ns k es)
  unfolding entries_left
  all_left P k [] a = tt
  all_left P k (e ∷ es) a =
      let on = all_left P (k + 1) es a.1 in
      by_named k ns (λ h. rw h on) (λ h. rw h (a.0, on))

  -- ---- one batch after another

  -- the entries that stay are those of the file that are not in the list, in order: numbers count through the file
  pub entries_left_lem : (k : ℕ) (bs : List Batch) → entries_in (batches_left ns k bs) ≡ entries_left ns k (entries_in bs)
  unfolding batches_left entries_left
  entries_left_lem k [] = refl
  entries_left_lem k (b ∷ bs) =
      let rest = batches_left ns (k + length b.entries) bs in
      entries_kept b.row (entries_left ns k b.entries) rest
      ∙ ap (λ l. entries_left ns k b.entries ++ l) (entries_left_lem (k + length b.entries) bs)
      ∙ sym (left_append k b.entries (entries_in bs))

  -- batches become no more
  batches_fewer : (k : ℕ) (bs : List Batch) → length (batches_left ns k bs) ≤ length bs
  unfolding batches_left
  batches_fewer k [] = omega arith
  batches_fewer k (b ∷ bs) =
      let on = batches_fewer (k + length b.entries) bs in
      unless_empty_lem (λ l. length l ≤ suc (length bs)) b.row (entries_left ns k b.entries) (batches_left ns (k + length b.entries) bs) (omega arith) (λ h. omega arith)

  -- rows and texts stay as long as they are
  batches_sized : (k : ℕ) (bs : List Batch) → All SizedBatch bs → All SizedBatch (batches_left ns k bs)
  unfolding batches_left
  batches_sized k [] a = tt
  batches_sized k (b ∷ bs) a =
      let on = batches_sized (k + length b.entries) bs a.1 in
      unless_empty_lem (All SizedBatch) b.row (entries_left ns k b.entries) (batches_left ns (k + length b.entries) bs) on
      (λ h. (record { long = a.0.long; each = all_left SizedEntry k b.entries a.0.each }, on))

-- ---- how many go

-- a list with a number in it has one
pub some_distinct : (n : ℕ) (ns : List ℕ) → 1 ≤ distinct (n ∷ ns)
unfolding named distinct
some_distinct n [] = omega arith
some_distinct n (m ∷ ns) = let on = some_distinct m ns in by_named n (m ∷ ns) (λ h. rw h on) (λ h. rw h (omega arith))

module _ (n : ℕ) (ns : List ℕ) where
  -- a number before these entries takes none of them out
  gone_past : (k : ℕ) (es : List Entry) → n < k → entries_gone (n ∷ ns) k es ≡ entries_gone ns k es
  unfolding named entries_gone
  gone_past k [] h = refl
  gone_past k (e ∷ es) h = rw (ne_eqb n k (λ z. omega arith), gone_past (k + 1) es (omega arith))

  -- nor does one that is named already
  gone_again : (k : ℕ) (es : List Entry) → named n ns ≡ true → entries_gone (n ∷ ns) k es ≡ entries_gone ns k es
  unfolding named entries_gone
  gone_again k [] h = refl
  gone_again k (e ∷ es) h =
      let on = gone_again (k + 1) es h in
      by_eq n k (λ e. rw (eq-eqb n k e, rw e at h, on)) (λ d. rw (d, on))

  -- another takes one more out
  gone_more : (k : ℕ) (es : List Entry) → named n ns ≡ false → k ≤ n → n < k + length es → length (entries_gone (n ∷ ns) k es) ≡ length (entries_gone ns k es) + 1
  unfolding named entries_gone
  gone_more k [] h a b = absurd (omega arith)
  gone_more k (x ∷ es) h a b =
      by_eq n k
      (λ e. rw (eq-eqb n k e, rw e at h, gone_past (k + 1) es (omega arith)) (omega arith))
      (λ d.
      let apart = eqb-false n k d in
      let on = gone_more (k + 1) es h (omega arith) (omega arith) in
      by_named k ns (λ g. rw (d, g, on) (omega arith)) (λ g. rw (d, g, on)))

gone_none : (k : ℕ) (es : List Entry) → entries_gone [] k es ≡ []
unfolding named entries_gone
gone_none k [] = refl
gone_none k (e ∷ es) = gone_none (k + 1) es

-- ---- of a view

-- addenda, one entry after another
texts_length : (es : List Entry) → length (texts_in es) ≡ sum_over (λ e. length e.addenda) es
unfolding sum_over
texts_length [] = refl
texts_length (e ∷ es) = rw (length-append e.addenda (texts_in es), texts_length es)

-- entries are their records without the addenda
entries_counted : (es : List Entry) → length es + sum_over (λ e. length e.addenda) es ≡ sum_over records_in es
entries_counted es = omega (arith, count_records es, texts_length es)

-- "up to the next multiple of ten records": fewer records need no more
blocks_fewer : (n m : ℕ) → n ≤ m → n + fillers_after n ≤ m + fillers_after m
blocks_fewer n m h = omega arith

module _ (v : View) (ns : List ℕ) where
  pub entries_without : entries_of (without v ns) ≡ entries_left ns 1 (entries_of v)
  entries_without = entries_left_lem ns 1 v.batches

  -- debits, credits, hashes, records: what stays and what goes come to the whole file
  pub sum_without : (f : Entry → ℕ) → sum_over f (entries_of (without v ns)) + sum_over f (gone_of v ns) ≡ sum_over f (entries_of v)
  sum_without f = ap (λ es. sum_over f es + sum_over f (gone_of v ns)) entries_without ∙ sum_parts ns f 1 (entries_of v)

  pub length_without : length (entries_of (without v ns)) + length (gone_of v ns) ≡ length (entries_of v)
  length_without = omega (arith, sum_without records_in, sum_without (λ e. length e.addenda), entries_counted (entries_of (without v ns)), entries_counted (gone_of v ns), entries_counted (entries_of v))

  -- records become no more, control records and fillers among them
  pub records_fewer : length (records_of (without v ns)) ≤ length (records_of v)
  records_fewer =
      let less : length (body_of (without v ns)) ≤ length (body_of v) =
      omega (arith, body_length (without v ns), body_length v, batches_fewer ns 1 v.batches, sum_without records_in) in
      omega (arith, records_length (without v ns), records_length v, blocks_fewer (length (body_of (without v ns)) + 1) (length (body_of v) + 1) (omega arith))

  pub without_sized : Sized v → Sized (without v ns)
  without_sized s =
      let texts = sum_without (λ e. length e.addenda) in
      record {
        long = s.long;
        each = batches_sized ns 1 v.batches s.each;
        batches = omega (arith, s.batches, batches_fewer ns 1 v.batches);
        entries = omega (arith, s.entries, length_without);
        addenda = omega (arith, s.addenda, texts, texts_length (entries_of v), texts_length (entries_of (without v ns)));
      }

  -- the new file is never longer than the old one
  pub bytes_fewer : (way : Way) → Sized v → length (file_of way (without v ns)) ≤ length (file_of way v)
  bytes_fewer way s = rw (file_length way (without v ns) (without_sized s), file_length way v s) (mul-le-mul_left (record_bytes way) records_fewer)

-- as many go as the list has different numbers
pub length_gone : (v : View) (ns : List ℕ) → all_exist v ns ≡ true → length (gone_of v ns) ≡ distinct ns
unfolding all_exist distinct
length_gone v [] a = ap length (gone_none 1 (entries_of v))
length_gone v (n ∷ ns) a =
    let both = and_both (exists v n) (all_exist v ns) a in
    let there = and_both (leb 1 n) (leb n (length (entries_of v))) both.0 in
    let first = leb-true 1 n there.0 in
    let last = leb-true n (length (entries_of v)) there.1 in
    let on = length_gone v ns both.1 in
    by_named n ns
    (λ h. rw (h, gone_again n ns 1 (entries_of v) h) on)
    (λ h. rw (h, gone_more n ns 1 (entries_of v) h first (omega arith), on))
