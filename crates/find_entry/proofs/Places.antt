-- Where an entry, its batch's control and the file's control stand among the records of a view.
-- Assumes an entry that there is.
use mathlib.Core.Path.{◌≡◌, refl, sym, ap, ◌∙◌}
use mathlib.Core.List.{List, [], ◌∷◌, ◌++◌, map, append_assoc}
use Prim.Native.Nat.{ℕ, suc, ◌+◌, ◌-◌, ◌*◌, ◌≤◌, ◌<◌}
use native.Mathlib.Nat.{zero-add, add-zero, mul-zero, mul-suc, mul-add}
use native.Mathlib.Omega.{arith}
use borrow.Author.Tests.{eq-eqb, ne_eqb}
use lib.Dec.{eqb}
use lib.ListN.{length, take, drop, get_or, replicate, length-append, length-map, take-append-drop}
use lib.Seq.{get_or-append-add, drop-cons, drop_at, length-take-le}
use mathlib.Core.Bool.{false}
use Rattle.text.specs.Decimal.{pick}
use Rattle.text.specs.Rows.{joined}
use Rattle.view.specs.View.{Entry, Batch, View, file_record, entry_record, addendum_record, entry_records, batch_record, batch_records, batch_control_record, file_control_record, filler_record, fillers_after, entries_of, sum_over, records_in, body_of, records_of}
use Rattle.view.specs.Outcome.{no_entry, spot_from, spot_of, entry_number, batch_control_number, file_control_number}
use Rattle.view_laws.proofs.Lists.{by_lt, fold_append, sum_append}
use Rattle.view_laws.proofs.Tables.{entries_in}
use Rattle.view_laws.proofs.Amend.{records_for}
use Rattle.view_laws.proofs.BridgeFields.{by_eq}
use Rattle.view_laws.proofs.BridgeSums.{entries_records}
use Rattle.find_entry.specs.WorkFind.{count_of, nth_of}

-- ---- records by their first byte

-- the record behind those that hold k of them is number k
nth_split : (b : ℕ) (xs : List (List ℕ)) (y : List ℕ) (ys : List (List ℕ)) → get_or y 0 0 ≡ b → nth_of b (count_of b xs) (xs ++ (y ∷ ys)) ≡ length xs
unfolding nth_of count_of
nth_split b [] y ys e = rw (eq-eqb (get_or y 0 0) b e)
nth_split b (x ∷ xs) y ys e =
    let n = count_of b xs in
    let less : 1 + n - 1 ≡ n = omega arith in
    by_eq (get_or x 0 0) b
    (λ h. rw (eq-eqb (get_or x 0 0) b h, ne_eqb (1 + n) 0 (omega arith), less, nth_split b xs y ys e) (omega arith))
    (λ h. rw (h, zero-add n, nth_split b xs y ys e) (omega arith))

count_append : (b : ℕ) (xs ys : List (List ℕ)) → count_of b (xs ++ ys) ≡ count_of b xs + count_of b ys
unfolding count_of
count_append b [] ys = sym (zero-add (count_of b ys))
count_append b (x ∷ xs) ys = rw (count_append b xs ys) (omega arith)

-- a record that begins with byte c, in front of others
count_cons : (b c : ℕ) (fs rs : List (List ℕ)) → count_of b (joined ((c ∷ []) ∷ fs) ∷ rs) ≡ pick (eqb c b) 1 0 + count_of b rs
unfolding count_of joined
count_cons b c fs rs = refl

first_byte : (c : ℕ) (fs : List (List ℕ)) → get_or (joined ((c ∷ []) ∷ fs)) 0 0 ≡ c
unfolding joined
first_byte c fs = refl

-- the records of a file and of its batches, in front of others
module _ (b : ℕ) (rs : List (List ℕ)) where
  count_file : (v : View) → count_of b (file_record v ∷ rs) ≡ pick (eqb 49 b) 1 0 + count_of b rs
  count_file v = count_cons b 49 _ rs

  count_header : (x : Batch) → count_of b (batch_record x ∷ rs) ≡ pick (eqb 53 b) 1 0 + count_of b rs
  count_header x = count_cons b 53 _ rs

  count_control : (x : Batch) → count_of b (batch_control_record x ∷ rs) ≡ pick (eqb 56 b) 1 0 + count_of b rs
  count_control x = count_cons b 56 _ rs

-- addenda begin with '7', and so count for no other byte
count_addenda : (b : ℕ) → eqb 55 b ≡ false → (e : Entry) (ts : List (List ℕ)) → count_of b (map (addendum_record e) ts) ≡ 0
unfolding count_of
count_addenda b h e [] = refl
count_addenda b h e (t ∷ ts) = count_cons b 55 _ (map (addendum_record e) ts) ∙ rw (h, count_addenda b h e ts)

-- an entry's records count n for it, and a batch's as much for each of its entries
module _ (b n : ℕ) (addendum : eqb 55 b ≡ false) (entry : pick (eqb 54 b) 1 0 ≡ n) where
  count_entries : (es : List Entry) → count_of b (entries_records es) ≡ n * length es
  unfolding count_of
  count_entries [] = sym (mul-zero n)
  count_entries (e ∷ es) =
      rw (count_append b (map (addendum_record e) e.addenda) (entries_records es), count_addenda b addendum e e.addenda, count_entries es, entry)
      (omega (arith, mul-suc n (length es)))

  count_batches : eqb 53 b ≡ false → eqb 56 b ≡ false → (bs : List Batch) → count_of b (records_for bs) ≡ n * length (entries_in bs)
  unfolding count_of
  count_batches h g [] = sym (mul-zero n)
  count_batches h g (x ∷ bs) =
      let m = mul-add n (length x.entries) (length (entries_in bs)) in
      count_append b (batch_records x) (records_for bs)
      ∙ ap (λ c. c + count_of b (records_for bs)) (count_header b (entries_records x.entries ++ (batch_control_record x ∷ [])) x)
      ∙ rw (h, count_append b (entries_records x.entries) (batch_control_record x ∷ []), count_control b [] x, g, count_entries x.entries, count_batches h g bs, length-append x.entries (entries_in bs)) (omega arith)

-- ---- the batches, parted at the one with entry k

record Parted (k n : ℕ) (bs : List Batch) : Type 0 where
  before : List Batch
  batch : Batch
  behind : List Batch
  index : ℕ
  whole : bs ≡ before ++ (batch ∷ behind)
  place : k ≡ length (entries_in before) + index
  inside : index < length batch.entries
  spot : spot_from k n bs ≡ record { batch = batch; opened = n + length (records_for before); index = index }

parted : (k n : ℕ) (bs : List Batch) → k < length (entries_in bs) → Parted k n bs
unfolding spot_from
parted k n [] h = absurd (omega arith)
parted k n (b ∷ bs) h =
    let l = length-append b.entries (entries_in bs) in
    by_lt k (length b.entries)
    (λ g t. record { before = []; batch = b; behind = bs; index = k; whole = refl; place = sym (zero-add k); inside = g; spot = rw (t, add-zero n) })
    (λ g t.
    let p = parted (k - length b.entries) (n + length (batch_records b)) bs (omega arith) in
    let m : n + length (batch_records b) + length (records_for p.before) ≡ n + length (batch_records b ++ records_for p.before) =
    omega (arith, length-append (batch_records b) (records_for p.before)) in
    record {
      before = b ∷ p.before;
      batch = p.batch;
      behind = p.behind;
      index = p.index;
      whole = ap (λ r. b ∷ r) p.whole;
      place = omega (arith, p.place, length-append b.entries (entries_in p.before));
      inside = p.inside;
      spot = rw (t, p.spot, m);
    })

-- ---- the records, parted at the entry, at its batch's control and at the file's

-- an entry has as many records as are counted for it
pub length_entries : (es : List Entry) → length (entries_records es) ≡ sum_over records_in es
unfolding sum_over
length_entries [] = refl
length_entries (e ∷ es) =
    rw (length-append (entry_records e) (entries_records es), length_entries es) (omega (arith, length-map e.addenda (addendum_record e)))

-- the records in front of the three, and those between them
regroup : (x b c : List ℕ) (p t d q e : List (List ℕ))
    → (x ∷ (p ++ ((b ∷ ((t ++ d) ++ (c ∷ []))) ++ q))) ++ e ≡ (x ∷ (p ++ (b ∷ t))) ++ (d ++ (c ∷ (q ++ e)))
regroup x b c p t d q e = ap (λ l. x ∷ l) (simp append_assoc)

-- a record's only addendum is the second of its records
second : (r : List ℕ) (e : Entry) (text : List ℕ) (texts : List (List ℕ)) (p q : List (List ℕ)) → texts ≡ text ∷ []
    → get_or (r ∷ ((map (addendum_record e) texts ++ p) ++ q)) 1 [] ≡ addendum_record e text
second r e text texts p q h = rw h

module _ (v : View) (k : ℕ) (first : 1 ≤ k) (last : k ≤ length (entries_of v)) where
  at : Parted (k - 1) 2 v.batches
  at = parted (k - 1) 2 v.batches (omega arith)

  es : List Entry
  es = at.batch.entries

  front : List (List ℕ)
  front = file_record v ∷ (records_for at.before ++ (batch_record at.batch ∷ entries_records (take at.index es)))

  end : List (List ℕ)
  end = file_control_record v ∷ replicate (fillers_after (length (body_of v) + 1)) filler_record

  tail : List (List ℕ)
  tail = entries_records (drop at.index es) ++ (batch_control_record at.batch ∷ (records_for at.behind ++ end))

  records_parted : records_of v ≡ front ++ tail
  unfolding front tail end es
  records_parted =
      let i = at.index in
      ap (λ bs. (file_record v ∷ records_for bs) ++ end) at.whole
      ∙ ap (λ rs. (file_record v ∷ rs) ++ end) (fold_append batch_records at.before (at.batch ∷ at.behind))
      ∙ ap (λ rs. (file_record v ∷ (records_for at.before ++ ((batch_record at.batch ∷ (rs ++ (batch_control_record at.batch ∷ []))) ++ records_for at.behind))) ++ end)
      (ap entries_records (sym (take-append-drop i es)) ∙ fold_append entry_records (take i es) (drop i es))
      ∙ regroup (file_record v) (batch_record at.batch) (batch_control_record at.batch) (records_for at.before) (entries_records (take i es)) (entries_records (drop i es)) (records_for at.behind) end

  -- k - 1 entries stand in front
  count_front : count_of 54 front ≡ k - 1
  unfolding front es
  count_front =
      let i = at.index in
      let rs = entries_records (take i es) in
      count_file 54 (records_for at.before ++ (batch_record at.batch ∷ rs)) v
      ∙ rw (count_append 54 (records_for at.before) (batch_record at.batch ∷ rs), count_header 54 rs at.batch, count_batches 54 1 refl refl refl refl at.before, count_entries 54 1 refl refl (take i es), length-take-le i es (omega (arith, at.inside)))
      (omega (arith, at.place))

  length_front : length front + 1 ≡ entry_number (spot_of v k)
  unfolding front es
  length_front =
      let i = at.index in
      rw (at.spot, length-append (records_for at.before) (batch_record at.batch ∷ entries_records (take i es)), length_entries (take i es)) (omega arith)

  -- then comes the entry
  tail_head : tail ≡ entry_record (get_or es at.index no_entry) ∷ ((map (addendum_record (get_or es at.index no_entry)) (get_or es at.index no_entry).addenda ++ entries_records (drop (suc at.index) es)) ++ (batch_control_record at.batch ∷ (records_for at.behind ++ end)))
  unfolding tail es
  tail_head = rw (drop-cons es at.index no_entry at.inside)

  entry_index : nth_of 54 (k - 1) (records_of v) ≡ length front
  entry_index = rw (records_parted, ← count_front, tail_head) (nth_split 54 front (entry_record (get_or es at.index no_entry)) _ refl)

  -- and its addendum, if it has one
  pub addendum_behind : (text : List ℕ) → (get_or (spot_of v k).batch.entries (spot_of v k).index no_entry).addenda ≡ text ∷ []
      → get_or (records_of v) (entry_number (spot_of v k)) [] ≡ addendum_record (get_or (spot_of v k).batch.entries (spot_of v k).index no_entry) text
  unfolding es
  addendum_behind text h =
      let e = get_or es at.index no_entry in
      let one : e.addenda ≡ text ∷ [] = ap (λ s. (get_or s.batch.entries s.index no_entry).addenda) (sym at.spot) ∙ h in
      ap (λ n. get_or (records_of v) n []) (sym length_front)
      ∙ ap (λ rs. get_or rs (length front + 1) []) records_parted
      ∙ get_or-append-add front tail 1 []
      ∙ ap (λ rs. get_or rs 1 []) tail_head
      ∙ second (entry_record e) e text e.addenda _ _ one
      ∙ ap (λ s. addendum_record (get_or s.batch.entries s.index no_entry) text) (sym at.spot)

  -- behind its batch's entries the batch's control
  control_index : nth_of 56 0 (drop (length front) (records_of v)) ≡ length (entries_records (drop at.index es))
  unfolding tail
  control_index =
      let d = entries_records (drop at.index es) in
      let none : 0 ≡ count_of 56 d = omega (arith, count_entries 56 0 refl refl (drop at.index es)) in
      rw (records_parted, drop_at front tail (length front) refl, none)
      (nth_split 56 d (batch_control_record at.batch) _ (first_byte 56 _))

  -- and behind all batches the file's control
  last_index : nth_of 57 0 (drop (length front) (records_of v)) ≡ length (entries_records (drop at.index es)) + suc (length (records_for at.behind))
  unfolding tail end count_of
  last_index =
      let d = entries_records (drop at.index es) in
      let q = records_for at.behind in
      let c = batch_control_record at.batch in
      let none : 0 ≡ count_of 57 (d ++ (c ∷ q)) =
      omega (arith, count_append 57 d (c ∷ q), count_entries 57 0 refl refl (drop at.index es), count_control 57 q at.batch, count_batches 57 0 refl refl refl refl at.behind) in
      rw (records_parted, drop_at front tail (length front) refl, none, ← append_assoc d (c ∷ q) end)
      (nth_split 57 (d ++ (c ∷ q)) (file_control_record v) _ (first_byte 57 _) ∙ length-append d (c ∷ q))

  -- how far they stand apart
  length_to_control : length front + length (entries_records (drop at.index es)) + 1 ≡ batch_control_number (spot_of v k)
  unfolding es
  length_to_control =
      let i = at.index in
      let all : sum_over records_in (take i es) + sum_over records_in (drop i es) ≡ sum_over records_in es =
      sym (sum_append records_in (take i es) (drop i es)) ∙ ap (sum_over records_in) (take-append-drop i es) in
      rw (length_entries (drop i es)) (omega (arith, length_front, all, ap entry_number at.spot, ap batch_control_number at.spot))

  length_to_last : length front + (length (entries_records (drop at.index es)) + suc (length (records_for at.behind))) + 1 ≡ file_control_number v
  unfolding tail end
  length_to_last =
      let d = entries_records (drop at.index es) in
      let q = records_for at.behind in
      omega (arith, ap length records_parted, length-append (body_of v) end, length-append front tail, length-append d (batch_control_record at.batch ∷ (q ++ end)), length-append q end)

  -- so they have these numbers
  pub entry_found : nth_of 54 (k - 1) (records_of v) + 1 ≡ entry_number (spot_of v k)
  entry_found = ap (λ n. n + 1) entry_index ∙ length_front

  pub control_found : (i : ℕ) → i + 1 ≡ entry_number (spot_of v k) → i + nth_of 56 0 (drop i (records_of v)) + 1 ≡ batch_control_number (spot_of v k)
  control_found i e =
      let here : i ≡ length front = omega (arith, length_front) in
      rw (here, control_index) length_to_control

  pub last_found : (i : ℕ) → i + 1 ≡ entry_number (spot_of v k) → i + nth_of 57 0 (drop i (records_of v)) + 1 ≡ file_control_number v
  last_found i e =
      let here : i ≡ length front = omega (arith, length_front) in
      rw (here, last_index) length_to_last

  -- and stand in this order
  pub in_order : (entry_number (spot_of v k) < batch_control_number (spot_of v k)) × (batch_control_number (spot_of v k) < file_control_number v) × (file_control_number v ≤ length (records_of v))
  unfolding es
  in_order = (
    omega (arith, length_front, length_to_control, ap length (ap entries_records (drop-cons es at.index no_entry at.inside))),
    omega (arith, length_to_control, length_to_last),
    rw (length-append (body_of v) (file_control_record v ∷ replicate (fillers_after (length (body_of v) + 1)) filler_record)) (omega arith),
  )

  -- the batch's entries are among the file's
  pub batch_part_lem : (g : Entry → ℕ) → sum_over g (spot_of v k).batch.entries ≤ sum_over g (entries_of v)
  unfolding es
  batch_part_lem g =
      let whole : entries_of v ≡ entries_in at.before ++ (es ++ entries_in at.behind) =
      ap entries_in at.whole ∙ fold_append (λ b. b.entries) at.before (at.batch ∷ at.behind) in
      rw (at.spot, whole) (omega (arith, sum_append g (entries_in at.before) (es ++ entries_in at.behind), sum_append g es (entries_in at.behind)))
