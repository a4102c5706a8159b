-- The count along the old file's records is the number of batches of the view without the entries that are flagged.
-- Assumes that the flags are those of the list's numbers, and an accepted file for the walk along it.
use Prim.Native.Nat.{ℕ, zero, suc, ◌+◌, ◌≤◌, ◌<◌}
use native.Mathlib.Nat.{add-zero, zero-add}
use native.Mathlib.Omega.{arith}
use mathlib.Core.Path.{◌≡◌, refl, sym, ap, ap₂, ◌∙◌}
use mathlib.Core.Bool.{Bool, true, false}
use mathlib.Core.List.{List, [], ◌∷◌, ◌++◌, map, append_assoc}
use lib.Dec.{eqb, lit<}
use lib.ListN.{length, take, get_or}
use lib.Seq.{take_at, get_or-take}
use Rattle.text.specs.Decimal.{pick}
use Rattle.layout.specs.declared.Way.{Way}
use Rattle.layout.specs.Ways.{record_bytes}
use Rattle.view.specs.View.{Entry, Batch, View, file_record, batch_record, entry_record, addendum_record, batch_control_record, body_of, view_of}
use Rattle.view_laws.proofs.BridgeSums.{entries_records, batches_records}
use Rattle.view_laws.proofs.Own.{own_records}
use Rattle.check_record.specs.Record.{columns_in}
use Rattle.find_entry.proofs.Walk.{columns_chunk, columns_none}
use Rattle.recall_view.specs.RecallView.{named, entries_left, unless_empty, batches_left, without}
use Rattle.recall_view.proofs.Left.{by_named}
use Rattle.recall_close.specs.WorkMoving.{gone}
use Rattle.recall_close.specs.WorkReady.{Walkable}
use Rattle.recall.specs.declared.batches.Kept.{Kept}
use Rattle.recall.specs.WorkCounting.{kept_so, entry_counted, record_counted, counted_from}
use Rattle.recall.proofs.LeftLaws.{typed}

-- ---- one record, by its first byte

module _ (flags : List ℕ) (c : Kept) (r : List ℕ) (rs : List (List ℕ)) where
  batch_counts : get_or r 0 0 ≡ 53 → counted_from flags c (r ∷ rs) ≡ counted_from flags (kept_so c.entries true c.batches) rs
  unfolding counted_from
  batch_counts e = rw e refl

  entry_counts : get_or r 0 0 ≡ 54 → counted_from flags c (r ∷ rs) ≡ counted_from flags (entry_counted flags c) rs
  unfolding counted_from
  entry_counts e = rw e refl

  other_counts : (b : ℕ) → get_or r 0 0 ≡ b → eqb b 53 ≡ false → eqb b 54 ≡ false → counted_from flags c (r ∷ rs) ≡ counted_from flags c rs
  unfolding counted_from
  other_counts b e p q = rw (e, p, q) refl

-- ---- the entries of a batch

module _ (flags : List ℕ) where
  addenda_count : (e : Entry) (c : Kept) (ts more : List (List ℕ)) → counted_from flags c (map (addendum_record e) ts ++ more) ≡ counted_from flags c more
  addenda_count e c [] more = refl
  addenda_count e c (t ∷ ts) more =
      other_counts flags c (addendum_record e t) (map (addendum_record e) ts ++ more) 55 (typed 55 _) refl refl ∙ addenda_count e c ts more

  -- an entry with its addenda
  one_counts : (e : Entry) (es : List Entry) (c : Kept) (more : List (List ℕ))
      → counted_from flags c (entries_records (e ∷ es) ++ more) ≡ counted_from flags (entry_counted flags c) (entries_records es ++ more)
  one_counts e es c more =
      let rest = entries_records es ++ more in
      ap (λ l. counted_from flags c (entry_record e ∷ l)) (append_assoc (map (addendum_record e) e.addenda) (entries_records es) more)
      ∙ entry_counts flags c (entry_record e) (map (addendum_record e) e.addenda ++ rest) refl
      ∙ addenda_count e (entry_counted flags c) e.addenda rest

-- behind the entries of a batch, of which these stay: it counts, or it is left empty
abbrev behind_entries : List Entry → ℕ → ℕ → Kept
behind_entries [] k n = kept_so k true n
behind_entries (e ∷ es) k n = kept_so k false (n + 1)

module _ (flags ns : List ℕ) (same : (k : ℕ) → gone flags k ≡ named k ns) where
  number_on : (k : ℕ) (es : List Entry) → k + 1 + length es ≡ k + suc (length es)
  number_on k es = omega arith

  -- the batch counts already
  entries_more : (es : List Entry) (k n : ℕ) (more : List (List ℕ))
      → counted_from flags (kept_so k false n) (entries_records es ++ more) ≡ counted_from flags (kept_so (k + length es) false n) more
  entries_more [] k n more = ap (λ j. counted_from flags (kept_so j false n) more) (sym (add-zero k))
  entries_more (e ∷ es) k n more =
      let on = entries_more es (k + 1) n more ∙ ap (λ j. counted_from flags (kept_so j false n) more) (number_on k es) in
      one_counts flags e es (kept_so k false n) more ∙ by_named (k + 1) ns (λ g. rw (same (k + 1), g) on) (λ g. rw (same (k + 1), g) on)

  -- none of its entries stays so far
  entries_first : (es : List Entry) (k n : ℕ) (more : List (List ℕ))
      → counted_from flags (kept_so k true n) (entries_records es ++ more) ≡ counted_from flags (behind_entries (entries_left ns (k + 1) es) (k + length es) n) more
  unfolding entries_left
  entries_first [] k n more = ap (λ j. counted_from flags (kept_so j true n) more) (sym (add-zero k))
  entries_first (e ∷ es) k n more =
      one_counts flags e es (kept_so k true n) more
      ∙ by_named (k + 1) ns
      (λ g.
      rw (same (k + 1), g)
      (entries_first es (k + 1) n more ∙ ap (λ j. counted_from flags (behind_entries (entries_left ns (k + 1 + 1) es) j n) more) (number_on k es)))
      (λ g. rw (same (k + 1), g) (entries_more es (k + 1) (n + 1) more ∙ ap (λ j. counted_from flags (kept_so j false (n + 1)) more) (number_on k es)))

  -- ---- batches

  -- what is counted behind the control is one more where an entry stays
  behind_empty : (row : List ℕ) (es : List Entry) (k n : ℕ) (bs : List Batch) (more : List (List ℕ))
      → ((empty : Bool) (m : ℕ) → counted_from flags (kept_so k empty m) more ≡ m + length bs)
      → counted_from flags (behind_entries es k n) more ≡ n + length (unless_empty row es bs)
  behind_empty row [] k n bs more on = on true n
  behind_empty row (e ∷ es) k n bs more on = on false (n + 1) ∙ omega arith

  batches_count : (bs : List Batch) (k n : ℕ) (empty : Bool) → counted_from flags (kept_so k empty n) (batches_records bs) ≡ n + length (batches_left ns (k + 1) bs)
  unfolding counted_from batches_left
  batches_count [] k n empty = sym (add-zero n)
  batches_count (b ∷ bs) k n empty =
      let r = batch_record b in
      let es = b.entries in
      let control = batch_control_record b in
      let left = entries_left ns (k + 1) es in
      let rest = batches_records bs in
      let number : k + length es + 1 ≡ k + 1 + length es = omega arith in
      ap (λ l. counted_from flags (kept_so k empty n) (r ∷ l)) (append_assoc (entries_records es) (control ∷ []) rest)
      ∙ batch_counts flags (kept_so k empty n) r (entries_records es ++ (control ∷ rest)) (typed 53 _)
      ∙ entries_first es k n (control ∷ rest)
      ∙ other_counts flags (behind_entries left (k + length es) n) control rest 56 (typed 56 _) refl refl
      ∙ behind_empty b.row left (k + length es) n (batches_left ns (k + length es + 1) bs) rest (λ later m. batches_count bs (k + length es) m later)
      ∙ ap (λ j. n + length (unless_empty b.row left (batches_left ns j bs))) number

  -- the whole file
  pub counted_whole : (v : View) → counted_from flags (kept_so 0 false 0) (body_of v) ≡ length (without v ns).batches
  counted_whole v =
      other_counts flags (kept_so 0 false 0) (file_record v) (batches_records v.batches) 49 (typed 49 _) refl refl
      ∙ batches_count v.batches 0 0 false
      ∙ zero-add (length (batches_left ns 1 v.batches))

-- ---- the walk along the file

-- a record counts no more than one entry and one batch
step_small : (flags : List ℕ) (c : Kept) (b : ℕ) → ((record_counted flags c b).entries ≤ c.entries + 1) × ((record_counted flags c b).batches ≤ c.batches + 1)
step_small flags c b = go (eqb b 53) (eqb b 54) (gone flags (c.entries + 1)) c.empty
  where
    go : (header entry goes empty : Bool)
        → let next = pick header (kept_so c.entries true c.batches) (pick entry (pick goes (kept_so (c.entries + 1) c.empty c.batches) (kept_so (c.entries + 1) false (pick empty (c.batches + 1) c.batches))) c) in
        (next.entries ≤ c.entries + 1) × (next.batches ≤ c.batches + 1)
    go true entry goes empty = (omega arith, omega arith)
    go false true true empty = (omega arith, omega arith)
    go false true false true = (omega arith, omega arith)
    go false true false false = (omega arith, omega arith)
    go false false goes empty = (omega arith, omega arith)

-- so many records are to be counted, of those that stand in `rest`: they tell the whole
pub record Counted (way : Way) (flags f : List ℕ) (count : ℕ) (c : Kept) (left wide : ℕ) (rest : List ℕ) : Type 0 where
  pub size : wide ≡ record_bytes way
  pub entries : c.entries + left ≤ count
  pub batches : c.batches + left ≤ count
  pub whole : counted_from flags c (take left (columns_in way rest)) ≡ counted_from flags (kept_so 0 false 0) (body_of (view_of way f))

pub counted_first : (way : Way) (flags f : List ℕ) (count : ℕ) → Walkable way f count → {left wide : ℕ} {rest : List ℕ} → wide ≡ record_bytes way → left ≡ count → rest ≡ f
    → Counted way flags f count (kept_so 0 false 0) left wide rest
counted_first way flags f count ok {left} {wide} {rest} z l r =
    let body = body_of (view_of way f) in
    let records : take left (columns_in way rest) ≡ body = ap₂ (λ n xs. take n (columns_in way xs)) l r ∙ ap (take count) (own_records way f ok.accepted) ∙ take_at body _ count (sym ok.counted) in
    record { size = z; entries = omega (arith, l); batches = omega (arith, l); whole = ap (counted_from flags (kept_so 0 false 0)) records }

module _ {way : Way} {flags f : List ℕ} {count : ℕ} {c : Kept} {left wide : ℕ} {rest : List ℕ} (a : Counted way flags f count c left wide rest) where
  pub counted_next : (x tail : List ℕ) (less : ℕ) (next : Kept) → rest ≡ x ++ tail → length x ≡ wide → less + 1 ≡ left → next ≡ record_counted flags c (get_or x 0 0)
      → Counted way flags f count next less wide tail
  unfolding counted_from
  counted_next x tail less next e l m n =
      let small = step_small flags c (get_or x 0 0) in
      let more : left ≡ suc less = omega (arith, m) in
      let records : take left (columns_in way rest) ≡ take 94 x ∷ take less (columns_in way tail) = ap₂ take more (ap (columns_in way) e ∙ columns_chunk way x tail (l ∙ a.size)) in
      record {
        size = a.size;
        entries = omega (arith, ap (λ (k : Kept). k.entries) n, small.0, a.entries, m);
        batches = omega (arith, ap (λ (k : Kept). k.batches) n, small.1, a.batches, m);
        whole =
            ap (λ k. counted_from flags k (take less (columns_in way tail))) (n ∙ ap (record_counted flags c) (sym (get_or-take 94 x 0 0 (lit< tt))))
            ∙ sym (ap (counted_from flags c) records)
            ∙ a.whole;
      }

  -- none is left, or no record stands there
  pub counted_end : (0 < left → length rest < wide) → c.batches ≡ counted_from flags (kept_so 0 false 0) (body_of (view_of way f))
  unfolding counted_from
  counted_end h = ap (counted_from flags c) (sym (none left h)) ∙ a.whole
    where
      none : (n : ℕ) → (0 < n → length rest < wide) → take n (columns_in way rest) ≡ []
      none zero h = refl
      none (suc n) h = rw (columns_none way rest (omega (arith, h (omega arith), a.size))) refl
