-- One amount put into a file: the bytes that are set, and that no other byte changes.
-- Assumes the view's sizes, an entry that there is, and an amount of ten digits.
use mathlib.Core.Path.{◌≡◌, refl, sym, ap, ap₂, ◌∙◌}
use mathlib.Core.Logic.{◌⊎◌, inl, inr}
use mathlib.Core.List.{List, [], ◌∷◌, ◌++◌, map, append_assoc}
use Prim.Native.Nat.{ℕ, zero, suc, ◌+◌, ◌-◌, ◌*◌, ◌^◌, ◌≤◌, ◌<◌}
use native.Mathlib.Nat.{le_of_suc-le-suc}
use native.Mathlib.Numerals.{add-one}
use native.Mathlib.Omega.{arith}
use lib.Dec.{lit<, lit≤}
use lib.ListN.{length, take, get_or, set, replicate, length-append, length-set, length-map, get_or-append}
use lib.Seq.{sets, length-sets, get_or-append-add, get_or-append_seam, set-append_left, set_at, get_or_at}
use Rattle.text.specs.Decimal.{render}
use Rattle.text.specs.Rows.{columns, joined}
use Rattle.text.specs.Widths.{Wide, total}
use Rattle.text.proofs.DecimalLaws.{length_render}
use Rattle.text.proofs.SetLaws.{get_d_sets_before, get_d_sets_behind}
use Rattle.layout.specs.declared.Row.{Row}
use Rattle.layout.specs.declared.Way.{Way}
use Rattle.layout.specs.Ways.{record_bytes}
use Rattle.layout.specs.Fields.{no_row, entry, batch_control, file_control}
use Rattle.check_codes.specs.declared.Use.{Use}
use Rattle.check_codes.specs.declared.Code.{Code}
use Rattle.check_codes.specs.Codes.{code_of}
use Rattle.view.specs.View.{Entry, Batch, View, closed_by, written, file_record, entry_record, addendum_record, entry_records, batch_record, batch_records, batch_control_record, file_control_record, filler_record, fillers_after, entries_of, sum_over, records_in, code_in, debit_of, credit_of, body_of, records_of, file_of}
use Rattle.view.specs.Outcome.{no_entry, entry_at, spot_of, entry_number, batch_control_number, file_control_number, amended, amend_entry, amend}
use Rattle.view.specs.Sized.{Sized}
use Rattle.view_laws.proofs.Lists.{fold_append, set_right, set_field, wide_set, three_set, Inside, puts, further}
use Rattle.view_laws.proofs.Ways.{closed_three}
use Rattle.view_laws.proofs.Formed.{batch_control_widths, batch_control_texts, batch_control_wide, file_control_widths, file_control_texts, file_control_wide}
use Rattle.view_laws.proofs.Reading.{records_long}
use Rattle.view_laws.proofs.BridgeSums.{entries_records, entries_length}
use Rattle.view_laws.proofs.Amend.{records_for, amended_batch, amended_record, amended_trace, Moved, moved, debit_moved, credit_moved, batches_length, spot_amended, spot_sized, Stands, stands, file_moved, batch_moved}

-- the byte, from 0, where field k of record n begins
abbrev pub field_at : Way → List Row → ℕ → ℕ → ℕ
field_at way table k n = record_bytes way * (n - 1) + ((get_or table (k - 1) no_row).first - 1)

-- byte p is none of the n bytes from there on
abbrev pub Outside : ℕ → ℕ → ℕ → Type 0
Outside p at n = (p < at) ⊎ (at + n ≤ p)

-- a number set in n columns leaves it alone
stays : (f : List ℕ) (at n x p : ℕ) → Outside p at n → get_or (sets f at (render n x)) p 0 ≡ get_or f p 0
stays f at n x p (inl h) = get_d_sets_before f at (render n x) p 0 h
stays f at n x p (inr h) = get_d_sets_behind f at (render n x) p 0 (rw length_render h)

-- ---- the records of one batch

-- an entry has as many records as are counted for it
length_entry : (e : Entry) → length (entry_records e) ≡ records_in e
length_entry e = omega (arith, length-map e.addenda (addendum_record e))

-- the records behind i entries begin inside those of all
entry_inside : (es : List Entry) (i : ℕ) → i < length es → sum_over records_in (take i es) < sum_over records_in es
unfolding sum_over
entry_inside [] i h = absurd (omega arith)
entry_inside (e ∷ es) zero h = omega arith
entry_inside (e ∷ es) (suc i) h = omega (arith, entry_inside es i (le_of_suc-le-suc h))

-- an amended entry's addenda have the old records
addenda_same : (e : Entry) (a : ℕ) (ts : List (List ℕ)) → map (addendum_record (amended e a)) ts ≡ map (addendum_record e) ts
addenda_same e a ts =
    ap (λ trace. map (λ t. joined ((55 ∷ []) ∷ render 2 5 ∷ t ∷ render 4 1 ∷ columns 9 15 trace ∷ [])) ts) (amended_trace e a)

-- and the entry itself has another one
entries_set : (es : List Entry) (i a : ℕ) → i < length es
    → entries_records (amend_entry i a es) ≡ set (entries_records es) (sum_over records_in (take i es)) (entry_record (amended (get_or es i no_entry) a))
unfolding amend_entry sum_over
entries_set [] i a h = absurd (omega arith)
entries_set (e ∷ es) zero a h = ap (λ l. entry_record (amended e a) ∷ (l ++ entries_records es)) (addenda_same e a e.addenda)
entries_set (e ∷ es) (suc i) a h =
    rw (entries_set es i a (le_of_suc-le-suc h), ← length_entry e)
    (sym (set_right (entry_records e) (entries_records es) (sum_over records_in (take i es)) (entry_record (amended (get_or es i no_entry) a))))

-- which stood there
entries_get : (es : List Entry) (i : ℕ) → i < length es → get_or (entries_records es) (sum_over records_in (take i es)) [] ≡ entry_record (get_or es i no_entry)
unfolding sum_over
entries_get [] i h = absurd (omega arith)
entries_get (e ∷ es) zero h = refl
entries_get (e ∷ es) (suc i) h =
    rw (← length_entry e, get_or-append-add (entry_records e) (entries_records es) (sum_over records_in (take i es)) []) (entries_get es i (le_of_suc-le-suc h))

-- a batch with one amount put in has two other records
module _ (b : Batch) (i a : ℕ) (inside : i < length b.entries) where
  batch_set : batch_records (amended_batch b i a)
      ≡ set (set (batch_records b) (suc (sum_over records_in (take i b.entries))) (entry_record (amended (get_or b.entries i no_entry) a)))
      (suc (sum_over records_in b.entries)) (batch_control_record (amended_batch b i a))
  batch_set =
      let es = b.entries in
      let rs = entries_records es in
      let j = sum_over records_in (take i es) in
      let x = entry_record (amended (get_or es i no_entry) a) in
      let l : length (set rs j x) ≡ sum_over records_in es = length-set rs j x ∙ entries_length es in
      let g : j < length rs = rw entries_length (entry_inside es i inside) in
      ap (λ t. batch_record b ∷ t)
      (rw (set-append_left rs (batch_control_record b ∷ []) j x g, set_at (set rs j x) (batch_control_record b) [] (batch_control_record (amended_batch b i a)) (sum_over records_in es) l, entries_set es i a inside))

  batch_entry : get_or (batch_records b) (suc (sum_over records_in (take i b.entries))) [] ≡ entry_record (get_or b.entries i no_entry)
  batch_entry =
      let es = b.entries in
      let j = sum_over records_in (take i es) in
      let g : j < length (entries_records es) = rw entries_length (entry_inside es i inside) in
      get_or-append (entries_records es) (batch_control_record b ∷ []) [] j g ∙ entries_get es i inside

-- its control is its last record
batch_control_lem : (b : Batch) → get_or (batch_records b) (suc (sum_over records_in b.entries)) [] ≡ batch_control_record b
batch_control_lem b = get_or_at (entries_records b.entries) (batch_control_record b) [] [] (sum_over records_in b.entries) (entries_length b.entries)

length_batch : (b : Batch) → length (batch_records b) ≡ suc (suc (sum_over records_in b.entries))
length_batch b = ap suc (length-append (entries_records b.entries) (batch_control_record b ∷ []) ∙ rw entries_length (add-one (sum_over records_in b.entries)))

-- ---- control records with other totals

-- a field of twelve digits put into joined fields
total_put : (ws : List ℕ) (fs : List (List ℕ)) (j n : ℕ) → Wide ws fs → j < length ws → get_or ws j 0 ≡ 12
    → (sets (joined fs) (total (take j ws)) (render 12 n) ≡ joined (set fs j (render 12 n))) × Wide ws (set fs j (render 12 n))
total_put ws fs j n wide h e =
    let l = length_render 12 n ∙ sym e in
    (set_field ws fs j (render 12 n) wide h l, wide_set ws fs j (render 12 n) wide l)

-- a batch's control with the other batch's totals, if nothing else differs: both put in, or the one that differs
module _ (b b' : Batch) (e : Entry) (a : ℕ) (long : length b.row ≡ 89) (row : b'.row ≡ b.row) (m : Moved b.entries e a b'.entries) where
  batch_totals : batch_control_record b' ≡ puts (batch_control_record b) ((20, render 12 (sum_over debit_of b'.entries)) ∷ (32, render 12 (sum_over credit_of b'.entries)) ∷ [])
  batch_totals =
      let d = total_put batch_control_widths (batch_control_texts b) 4 (sum_over debit_of b'.entries) (batch_control_wide b long) (lit< tt) refl in
      let c = total_put batch_control_widths (set (batch_control_texts b) 4 (render 12 (sum_over debit_of b'.entries))) 5 (sum_over credit_of b'.entries) d.1 (lit< tt) refl in
      rw (d.0, c.0, m.records, m.banks, row)

  batch_debit : sum_over credit_of b'.entries ≡ sum_over credit_of b.entries
      → batch_control_record b' ≡ puts (batch_control_record b) ((20, render 12 (sum_over debit_of b'.entries)) ∷ [])
  batch_debit same =
      rw ((total_put batch_control_widths (batch_control_texts b) 4 (sum_over debit_of b'.entries) (batch_control_wide b long) (lit< tt) refl).0, m.records, m.banks, row, same)

  batch_credit : sum_over debit_of b'.entries ≡ sum_over debit_of b.entries
      → batch_control_record b' ≡ puts (batch_control_record b) ((32, render 12 (sum_over credit_of b'.entries)) ∷ [])
  batch_credit same =
      rw ((total_put batch_control_widths (batch_control_texts b) 5 (sum_over credit_of b'.entries) (batch_control_wide b long) (lit< tt) refl).0, m.records, m.banks, row, same)

-- the same of the file's control
module _ (v v' : View) (e : Entry) (a : ℕ) (batches : length v'.batches ≡ length v.batches) (body : length (body_of v') ≡ length (body_of v)) (m : Moved (entries_of v) e a (entries_of v')) where
  file_totals : file_control_record v' ≡ puts (file_control_record v) ((31, render 12 (sum_over debit_of (entries_of v'))) ∷ (43, render 12 (sum_over credit_of (entries_of v'))) ∷ [])
  file_totals =
      let d = total_put file_control_widths (file_control_texts v) 5 (sum_over debit_of (entries_of v')) (file_control_wide v) (lit< tt) refl in
      let c = total_put file_control_widths (set (file_control_texts v) 5 (render 12 (sum_over debit_of (entries_of v')))) 6 (sum_over credit_of (entries_of v')) d.1 (lit< tt) refl in
      rw (d.0, c.0, m.records, m.banks, batches, body)

  file_debit : sum_over credit_of (entries_of v') ≡ sum_over credit_of (entries_of v)
      → file_control_record v' ≡ puts (file_control_record v) ((31, render 12 (sum_over debit_of (entries_of v'))) ∷ [])
  file_debit same =
      rw ((total_put file_control_widths (file_control_texts v) 5 (sum_over debit_of (entries_of v')) (file_control_wide v) (lit< tt) refl).0, m.records, m.banks, batches, body, same)

  file_credit : sum_over debit_of (entries_of v') ≡ sum_over debit_of (entries_of v)
      → file_control_record v' ≡ puts (file_control_record v) ((43, render 12 (sum_over credit_of (entries_of v'))) ∷ [])
  file_credit same =
      rw ((total_put file_control_widths (file_control_texts v) 6 (sum_over credit_of (entries_of v')) (file_control_wide v) (lit< tt) refl).0, m.records, m.banks, batches, body, same)

-- ---- the records of the file

-- a list parted at one batch
parted : (x : List ℕ) (p b q t : List (List ℕ)) → (x ∷ (p ++ (b ++ q))) ++ t ≡ (x ∷ p) ++ (b ++ (q ++ t))
parted x p b q t = ap (λ l. x ∷ l) (simp append_assoc)

length_parted : (p b q : List (List ℕ)) → length (p ++ (b ++ q)) ≡ length p + (length b + length q)
length_parted p b q = rw (length-append p (b ++ q), length-append b q)

module _ (v : View) (k a : ℕ) (s : Sized v) (first : 1 ≤ k) (last : k ≤ length (entries_of v)) (few : a < 10 ^ 10) where
  st : Stands v k a
  st = stands v k a s first last few

  batch' : Batch
  batch' = amended_batch st.batch st.index a

  counts_same : sum_over records_in batch'.entries ≡ sum_over records_in st.batch.entries
  unfolding batch'
  counts_same = (moved st.batch.entries st.index a st.sized.each st.inside few).records

  body_was : records_for v.batches ≡ records_for st.before ++ (batch_records st.batch ++ records_for st.behind)
  body_was = ap records_for st.were ∙ fold_append batch_records st.before (st.batch ∷ st.behind)

  body_is : records_for (amend v k a).batches ≡ records_for st.before ++ (batch_records batch' ++ records_for st.behind)
  unfolding batch'
  body_is = ap records_for st.are ∙ fold_append batch_records st.before (batch' ∷ st.behind)

  batch_length : length (batch_records batch') ≡ length (batch_records st.batch)
  unfolding batch'
  batch_length = length_batch batch' ∙ ap (λ n. suc (suc n)) counts_same ∙ sym (length_batch st.batch)

  body_size : length (records_for v.batches) ≡ length (records_for st.before) + (length (batch_records st.batch) + length (records_for st.behind))
  body_size = ap length body_was ∙ length_parted (records_for st.before) (batch_records st.batch) (records_for st.behind)

  body_length : length (body_of (amend v k a)) ≡ length (body_of v)
  body_length =
      ap suc (ap length body_is ∙ length_parted (records_for st.before) (batch_records batch') (records_for st.behind)
      ∙ ap (λ n. length (records_for st.before) + (n + length (records_for st.behind))) batch_length ∙ sym body_size)

  -- the records, parted at the batch and at the file control
  front : List (List ℕ)
  front = file_record v ∷ records_for st.before

  end : List (List ℕ)
  end = replicate (fillers_after (length (body_of v) + 1)) filler_record

  records_were : records_of v ≡ front ++ (batch_records st.batch ++ (records_for st.behind ++ (file_control_record v ∷ end)))
  unfolding front end
  records_were =
      ap (λ rs. (file_record v ∷ rs) ++ (file_control_record v ∷ end)) body_was
      ∙ parted (file_record v) (records_for st.before) (batch_records st.batch) (records_for st.behind) (file_control_record v ∷ end)

  records_are : records_of (amend v k a) ≡ front ++ (batch_records batch' ++ (records_for st.behind ++ (file_control_record (amend v k a) ∷ end)))
  unfolding front end
  records_are =
      ap₂ (λ rs n. (file_record v ∷ rs) ++ (file_control_record (amend v k a) ∷ replicate (fillers_after (n + 1)) filler_record)) body_is body_length
      ∙ parted (file_record v) (records_for st.before) (batch_records batch') (records_for st.behind) (file_control_record (amend v k a) ∷ end)

  -- where the three records stand
  entry_place : entry_number (spot_of v k) - 1 ≡ length front + suc (sum_over records_in (take st.index st.batch.entries))
  unfolding front
  entry_place = rw st.spot (omega arith)

  control_place : batch_control_number (spot_of v k) - 1 ≡ length front + suc (sum_over records_in st.batch.entries)
  unfolding front
  control_place = rw st.spot (omega arith)

  file_place : file_control_number v - 1 ≡ length front + (length (batch_records st.batch) + length (records_for st.behind))
  unfolding front
  file_place = rw body_size (omega arith)

  entry_in : suc (sum_over records_in (take st.index st.batch.entries)) < length (batch_records st.batch)
  entry_in = rw length_batch (omega (arith, entry_inside st.batch.entries st.index st.inside))

  control_in : suc (sum_over records_in st.batch.entries) < length (batch_records st.batch)
  control_in = rw length_batch (omega arith)

  control_is : (spot_of (amend v k a) k).batch ≡ batch'
  unfolding batch'
  control_is = ap (λ p. p.batch) (spot_amended v k a s first last few) ∙ ap (λ p. amended_batch p.batch p.index a) st.spot

  -- a record of the batch, among all
  in_batch_lem : {i : ℕ} → i < length (batch_records st.batch)
      → get_or (front ++ (batch_records st.batch ++ (records_for st.behind ++ (file_control_record v ∷ end)))) (length front + i) [] ≡ get_or (batch_records st.batch) i []
  in_batch_lem {i} h =
      let b = batch_records st.batch in
      let t = records_for st.behind ++ (file_control_record v ∷ end) in
      get_or-append-add front (b ++ t) i [] ∙ get_or-append b t [] i h

  -- three records are replaced
  pub records_amended : records_of (amend v k a)
      ≡ set (set (set (records_of v)
      (entry_number (spot_of v k) - 1) (entry_record (amended (entry_at v k) a)))
      (batch_control_number (spot_of v k) - 1) (batch_control_record (spot_of (amend v k a) k).batch))
      (file_control_number v - 1) (file_control_record (amend v k a))
  unfolding batch'
  records_amended =
      let b = st.batch in
      let x = entry_record (amended (get_or b.entries st.index no_entry) a) in
      let i = suc (sum_over records_in (take st.index b.entries)) in
      let j = suc (sum_over records_in b.entries) in
      let q = records_for st.behind in
      let z = file_control_record (amend v k a) in
      rw (records_were, entry_place, control_place, file_place, st.entry, control_is, three_set front (batch_records b) q end (file_control_record v) i j x (batch_control_record batch') z entry_in control_in)
      (records_are ∙ ap (λ bs. front ++ (bs ++ (q ++ (z ∷ end)))) (batch_set b st.index a st.inside))

  -- in the place of these
  pub entry_record_lem : get_or (records_of v) (entry_number (spot_of v k) - 1) [] ≡ entry_record (entry_at v k)
  entry_record_lem = rw (records_were, entry_place, st.entry) (in_batch_lem entry_in ∙ batch_entry st.batch st.index a st.inside)

  pub batch_control_record_lem : get_or (records_of v) (batch_control_number (spot_of v k) - 1) [] ≡ batch_control_record (spot_of v k).batch
  batch_control_record_lem = rw (records_were, control_place, st.spot) (in_batch_lem control_in ∙ batch_control_lem st.batch)

  pub file_control_record_lem : get_or (records_of v) (file_control_number v - 1) [] ≡ file_control_record v
  file_control_record_lem =
      let b = batch_records st.batch in
      let q = records_for st.behind in
      let t = file_control_record v ∷ end in
      rw (records_were, file_place, get_or-append-add front (b ++ (q ++ t)) (length b + length q) [], get_or-append-add b (q ++ t) (length q) [])
      (get_or-append_seam q (file_control_record v) end [])

  -- the three records stand in this order
  in_order : (entry_number (spot_of v k) - 1 < batch_control_number (spot_of v k) - 1)
      × (batch_control_number (spot_of v k) - 1 < file_control_number v - 1) × (file_control_number v - 1 < length (records_of v))
  in_order = (
    rw (entry_place, control_place) (omega (arith, entry_inside st.batch.entries st.index st.inside)),
    rw (control_place, file_place) (omega (arith, control_in)),
    rw (length-append (body_of v) (file_control_record v ∷ replicate (fillers_after (length (body_of v) + 1)) filler_record)) (omega arith),
  )

  -- so the file is the old one with the amount put in, and in the two controls what was put into them
  file_puts : (way : Way) (qs us : List (ℕ × List ℕ)) → Inside 94 qs → Inside 94 us
      → batch_control_record (spot_of (amend v k a) k).batch ≡ puts (batch_control_record (spot_of v k).batch) qs
      → file_control_record (amend v k a) ≡ puts (file_control_record v) us
      → file_of way (amend v k a)
      ≡ puts (puts (sets (file_of way v) (record_bytes way * (entry_number (spot_of v k) - 1) + 29) (render 10 a)) (further (record_bytes way * (batch_control_number (spot_of v k) - 1)) qs)) (further (record_bytes way * (file_control_number v - 1)) us)
  file_puts way qs us fq fu eq eu =
      let amount = puts (entry_record (entry_at v k)) ((29, render 10 a) ∷ []) in
      let totals = puts (batch_control_record (spot_of v k).batch) qs in
      let new = set (set (set (records_of v) (entry_number (spot_of v k) - 1) amount) (batch_control_number (spot_of v k) - 1) totals) (file_control_number v - 1) (puts (file_control_record v) us) in
      let are : records_of (amend v k a) ≡ new = records_amended ∙ rw (amended_record (entry_at v k) a, eq, eu) in
      ap (λ rs. joined (map (closed_by way) rs)) are
      ∙ closed_three way (records_of v) (entry_number (spot_of v k) - 1) (batch_control_number (spot_of v k) - 1) (file_control_number v - 1)
      (entry_record (entry_at v k)) (batch_control_record (spot_of v k).batch) (file_control_record v)
      ((29, render 10 a) ∷ []) qs us (records_long v s) in_order.0 in_order.1 in_order.2
      entry_record_lem batch_control_record_lem file_control_record_lem (rw length_render (lit≤ tt), tt) fq fu

  -- the batch before and after
  row_same : (spot_of (amend v k a) k).batch.row ≡ (spot_of v k).batch.row
  row_same = ap (λ p. p.batch.row) (spot_amended v k a s first last few)

  row_long : length (spot_of v k).batch.row ≡ 89
  row_long = (spot_sized v k a s first last few).long

  batch_sums : Moved (spot_of v k).batch.entries (entry_at v k) a (spot_of (amend v k a) k).batch.entries
  batch_sums = batch_moved v k a s first last few

  file_sums : Moved (entries_of v) (entry_at v k) a (entries_of (amend v k a))
  file_sums = file_moved v k a s first last few

  batches_same : length (amend v k a).batches ≡ length v.batches
  batches_same = batches_length v k a s first last few

  -- five fields are set: the amount, the batch's two totals and the file's
  pub file_amended : (way : Way) → file_of way (amend v k a)
      ≡ sets (sets (sets (sets (sets (file_of way v)
      (field_at way entry 6 (entry_number (spot_of v k))) (written entry 6 a))
      (field_at way batch_control 5 (batch_control_number (spot_of v k))) (written batch_control 5 (sum_over debit_of (spot_of (amend v k a) k).batch.entries)))
      (field_at way batch_control 6 (batch_control_number (spot_of v k))) (written batch_control 6 (sum_over credit_of (spot_of (amend v k a) k).batch.entries)))
      (field_at way file_control 6 (file_control_number v)) (written file_control 6 (sum_over debit_of (entries_of (amend v k a)))))
      (field_at way file_control 7 (file_control_number v)) (written file_control 7 (sum_over credit_of (entries_of (amend v k a))))
  file_amended way =
      let es = (spot_of (amend v k a) k).batch.entries in
      let fs = entries_of (amend v k a) in
      file_puts way ((20, render 12 (sum_over debit_of es)) ∷ (32, render 12 (sum_over credit_of es)) ∷ [])
      ((31, render 12 (sum_over debit_of fs)) ∷ (43, render 12 (sum_over credit_of fs)) ∷ [])
      (rw length_render (lit≤ tt), (rw length_render (lit≤ tt), tt)) (rw length_render (lit≤ tt), (rw length_render (lit≤ tt), tt))
      (batch_totals (spot_of v k).batch (spot_of (amend v k a) k).batch (entry_at v k) a row_long row_same batch_sums)
      (file_totals v (amend v k a) (entry_at v k) a batches_same body_length file_sums)

  -- three of them differ where the entry is a debit
  pub file_amended_debit : (way : Way) (u : Use) → code_of (code_in (entry_at v k)) ≡ Code.Debit u
      → file_of way (amend v k a)
      ≡ sets (sets (sets (file_of way v)
      (field_at way entry 6 (entry_number (spot_of v k))) (written entry 6 a))
      (field_at way batch_control 5 (batch_control_number (spot_of v k))) (written batch_control 5 (sum_over debit_of (spot_of (amend v k a) k).batch.entries)))
      (field_at way file_control 6 (file_control_number v)) (written file_control 6 (sum_over debit_of (entries_of (amend v k a))))
  file_amended_debit way u code =
      let b' = (spot_of (amend v k a) k).batch in
      file_puts way ((20, render 12 (sum_over debit_of b'.entries)) ∷ []) ((31, render 12 (sum_over debit_of (entries_of (amend v k a)))) ∷ [])
      (rw length_render (lit≤ tt), tt) (rw length_render (lit≤ tt), tt)
      (batch_debit (spot_of v k).batch b' (entry_at v k) a row_long row_same batch_sums (debit_moved batch_sums u code).1)
      (file_debit v (amend v k a) (entry_at v k) a batches_same body_length file_sums (debit_moved file_sums u code).1)

  -- and three where it is a credit
  pub file_amended_credit : (way : Way) (u : Use) → code_of (code_in (entry_at v k)) ≡ Code.Credit u
      → file_of way (amend v k a)
      ≡ sets (sets (sets (file_of way v)
      (field_at way entry 6 (entry_number (spot_of v k))) (written entry 6 a))
      (field_at way batch_control 6 (batch_control_number (spot_of v k))) (written batch_control 6 (sum_over credit_of (spot_of (amend v k a) k).batch.entries)))
      (field_at way file_control 7 (file_control_number v)) (written file_control 7 (sum_over credit_of (entries_of (amend v k a))))
  file_amended_credit way u code =
      let b' = (spot_of (amend v k a) k).batch in
      file_puts way ((32, render 12 (sum_over credit_of b'.entries)) ∷ []) ((43, render 12 (sum_over credit_of (entries_of (amend v k a)))) ∷ [])
      (rw length_render (lit≤ tt), tt) (rw length_render (lit≤ tt), tt)
      (batch_credit (spot_of v k).batch b' (entry_at v k) a row_long row_same batch_sums (credit_moved batch_sums u code).0)
      (file_credit v (amend v k a) (entry_at v k) a batches_same body_length file_sums (credit_moved file_sums u code).0)

  -- the file is as long as before
  pub file_length_amended : (way : Way) → length (file_of way (amend v k a)) ≡ length (file_of way v)
  file_length_amended way = ap length (file_amended way) ∙ simp length-sets

  -- and every byte outside of the fields that are set is as before
  pub bytes_stay : (way : Way) (p : ℕ)
      → Outside p (field_at way entry 6 (entry_number (spot_of v k))) 10
      → Outside p (field_at way batch_control 5 (batch_control_number (spot_of v k))) 12
      → Outside p (field_at way batch_control 6 (batch_control_number (spot_of v k))) 12
      → Outside p (field_at way file_control 6 (file_control_number v)) 12
      → Outside p (field_at way file_control 7 (file_control_number v)) 12
      → get_or (file_of way (amend v k a)) p 0 ≡ get_or (file_of way v) p 0
  bytes_stay way p o₁ o₂ o₃ o₄ o₅ =
      ap (λ f. get_or f p 0) (file_amended way) ∙ stays _ _ _ _ p o₅ ∙ stays _ _ _ _ p o₄ ∙ stays _ _ _ _ p o₃ ∙ stays _ _ _ _ p o₂ ∙ stays _ _ _ _ p o₁

  pub bytes_stay_debit : (way : Way) (p : ℕ) (u : Use) → code_of (code_in (entry_at v k)) ≡ Code.Debit u
      → Outside p (field_at way entry 6 (entry_number (spot_of v k))) 10
      → Outside p (field_at way batch_control 5 (batch_control_number (spot_of v k))) 12
      → Outside p (field_at way file_control 6 (file_control_number v)) 12
      → get_or (file_of way (amend v k a)) p 0 ≡ get_or (file_of way v) p 0
  bytes_stay_debit way p u code o₁ o₂ o₃ =
      ap (λ f. get_or f p 0) (file_amended_debit way u code) ∙ stays _ _ _ _ p o₃ ∙ stays _ _ _ _ p o₂ ∙ stays _ _ _ _ p o₁

  pub bytes_stay_credit : (way : Way) (p : ℕ) (u : Use) → code_of (code_in (entry_at v k)) ≡ Code.Credit u
      → Outside p (field_at way entry 6 (entry_number (spot_of v k))) 10
      → Outside p (field_at way batch_control 6 (batch_control_number (spot_of v k))) 12
      → Outside p (field_at way file_control 7 (file_control_number v)) 12
      → get_or (file_of way (amend v k a)) p 0 ≡ get_or (file_of way v) p 0
  bytes_stay_credit way p u code o₁ o₂ o₃ =
      ap (λ f. get_or f p 0) (file_amended_credit way u code) ∙ stays _ _ _ _ p o₃ ∙ stays _ _ _ _ p o₂ ∙ stays _ _ _ _ p o₁
