-- The passes over the records of a view write the sections of its pay table.
-- Assumes the view's sizes.
use Prim.Native.Nat.{ℕ, zero, suc, ◌+◌, ◌*◌, ◌/◌}
use native.Mathlib.Nat.{zero-add, mul-zero}
use native.Mathlib.Omega.{arith}
use mathlib.Core.Path.{◌≡◌, refl, sym, ap, ◌∙◌}
use mathlib.Core.Bool.{true, false}
use mathlib.Core.List.{List, [], ◌∷◌, ◌++◌, map, foldr, append_assoc, append-nil}
use lib.Dec.{eqb}
use lib.ListN.{length, get_or, take, drop, replicate, length-append, length-map, take-append-drop, get_or-map}
use lib.Seq.{take-take}
use Rattle.text.specs.Decimal.{render}
use Rattle.text.specs.Rows.{joined, section}
use Rattle.text.specs.Widths.{AllLong}
use Rattle.text.proofs.DecimalLaws.{length_render}
use Rattle.text.proofs.RowLaws.{joined_append, long_append, length_rows, get_d_rows, length_section}
use Rattle.layout.specs.declared.Way.{Way}
use Rattle.layout.specs.Ways.{record_bytes}
use Rattle.check_record.specs.Record.{raw_records, columns_in}
use Rattle.view.specs.View.{Entry, Batch, View, addendum_record, entry_record, entry_records, batch_record, batch_records, batch_control_record, file_record, file_control_record, fillers_after, filler_record, body_of, records_of, entries_of}
use Rattle.view.specs.Table.{count_wide, file_wide, batch_wide, entry_wide, addendum_wide, batch_row, addenda_of, table_bytes}
use Rattle.view.specs.Sized.{All, SizedEntry, SizedBatch, Sized}
use Rattle.view_laws.proofs.Lists.{fold_append}
use Rattle.view_laws.proofs.Formed.{file_fields, batch_fields, entry_fields, addendum_fields, batch_control_fields, file_control_fields}
use Rattle.view_laws.proofs.Tables.{entries_in, texts_in, entries_sized, rows_of_entries}
use Rattle.table_read.specs.WorkPasses.{between, row_of, row_bytes, batch_bytes, head_bytes, tail_bytes, whole_bytes}

abbrev entries_records : List Entry → List (List ℕ)
entries_records es = foldr (λ e rs. entry_records e ++ rs) [] es

abbrev batches_records : List Batch → List (List ℕ)
batches_records bs = foldr (λ b rs. batch_records b ++ rs) [] bs

-- what stands behind the batches
abbrev end_of : View → List (List ℕ)
end_of v = file_control_record v ∷ replicate (fillers_after (length (body_of v) + 1)) filler_record

-- ---- the pass for one kind of record

module _ (kind from end : ℕ) where
  rows_none : row_bytes kind from end [] ≡ []
  unfolding row_bytes
  rows_none = refl

  rows_append : (rs ss : List (List ℕ)) → row_bytes kind from end (rs ++ ss) ≡ row_bytes kind from end rs ++ row_bytes kind from end ss
  unfolding row_bytes
  rows_append [] ss = refl
  rows_append (r ∷ rs) ss = rw (rows_append rs ss) (sym (append_assoc (row_of kind from end r) (row_bytes kind from end rs) (row_bytes kind from end ss)))

  rows_skip : (r : List ℕ) (rs : List (List ℕ)) (k : ℕ) → get_or r 0 0 ≡ k → eqb k kind ≡ false → row_bytes kind from end (r ∷ rs) ≡ row_bytes kind from end rs
  unfolding row_bytes
  rows_skip r rs k e d = rw (e, d)

  rows_take : (r : List ℕ) (rs : List (List ℕ)) → eqb (get_or r 0 0) kind ≡ true → row_bytes kind from end (r ∷ rs) ≡ between from end r ++ row_bytes kind from end rs
  unfolding row_bytes
  rows_take r rs e = rw e

  rows_fillers : (n : ℕ) → eqb 57 kind ≡ false → row_bytes kind from end (replicate n filler_record) ≡ []
  rows_fillers zero d = rows_none
  rows_fillers (suc n) d = rows_skip filler_record (replicate n filler_record) 57 refl d ∙ rows_fillers n d

  -- each entry's records give its text, and no other record gives any
  module _ (text : Entry → List ℕ) (each : (e : Entry) → SizedEntry e → row_bytes kind from end (entry_records e) ≡ text e)
      (no1 : eqb 49 kind ≡ false) (no5 : eqb 53 kind ≡ false) (no8 : eqb 56 kind ≡ false) (no9 : eqb 57 kind ≡ false) where
    abbrev texts : List Entry → List ℕ
    texts es = foldr (λ e r. text e ++ r) [] es

    rows_of_entries_records : (es : List Entry) → All SizedEntry es → row_bytes kind from end (entries_records es) ≡ texts es
    rows_of_entries_records [] a = rows_none
    rows_of_entries_records (e ∷ es) a =
        rows_append (entry_records e) (entries_records es) ∙ rw (each e a.0, rows_of_entries_records es a.1)

    rows_of_batches_records : (bs : List Batch) → All SizedBatch bs → row_bytes kind from end (batches_records bs) ≡ texts (entries_in bs)
    rows_of_batches_records [] a = rows_none
    rows_of_batches_records (b ∷ bs) a =
        let h = a.0 in
        let es = entries_records b.entries in
        let control = batch_control_record b ∷ [] in
        let closed : row_bytes kind from end control ≡ [] = rows_skip (batch_control_record b) [] 56 (batch_control_fields b h.long).type no8 ∙ rows_none in
        rows_skip (batch_record b) ((es ++ control) ++ batches_records bs) 53 (batch_fields b h.long).type no5
        ∙ rows_append (es ++ control) (batches_records bs)
        ∙ rw (rows_append es control, closed, append-nil (row_bytes kind from end es), rows_of_entries_records b.entries h.each, rows_of_batches_records bs a.1)
        (sym (fold_append text b.entries (entries_in bs)))

    rows_of_view : (v : View) → Sized v → row_bytes kind from end (records_of v) ≡ texts (entries_of v)
    rows_of_view v s =
        let last : row_bytes kind from end (end_of v) ≡ [] =
        rows_skip (file_control_record v) (replicate (fillers_after (length (body_of v) + 1)) filler_record) 57 (file_control_fields v).type no9
        ∙ rows_fillers (fillers_after (length (body_of v) + 1)) no9 in
        rows_skip (file_record v) (batches_records v.batches ++ end_of v) 49 (file_fields v s.long).type no1
        ∙ rows_append (batches_records v.batches) (end_of v)
        ∙ rw (last, append-nil (row_bytes kind from end (batches_records v.batches))) (rows_of_batches_records v.batches s.each)

-- the entries: an addendum gives none
addenda_no_row : (e : Entry) → length e.row ≡ 93 → (ts : List (List ℕ)) → AllLong 80 ts → row_bytes 54 1 94 (map (addendum_record e) ts) ≡ []
addenda_no_row e h [] a = rows_none 54 1 94
addenda_no_row e h (t ∷ ts) a =
    rows_skip 54 1 94 (addendum_record e t) (map (addendum_record e) ts) 55 (addendum_fields e t h a.0).type refl ∙ addenda_no_row e h ts a.1

entry_row : (e : Entry) → SizedEntry e → row_bytes 54 1 94 (entry_records e) ≡ e.row
entry_row e s =
    rows_take 54 1 94 (entry_record e) (map (addendum_record e) e.addenda) refl
    ∙ ap (λ l. between 1 94 (entry_record e) ++ l) (addenda_no_row e s.long e.addenda s.texts)
    ∙ append-nil (between 1 94 (entry_record e))
    ∙ (entry_fields e s.long).whole

-- the addenda: an entry gives none
addenda_texts : (e : Entry) → length e.row ≡ 93 → (ts : List (List ℕ)) → AllLong 80 ts → row_bytes 55 3 83 (map (addendum_record e) ts) ≡ joined ts
unfolding row_bytes joined
addenda_texts e h [] a = refl
addenda_texts e h (t ∷ ts) a =
    let f = addendum_fields e t h a.0 in
    rw (f.type, f.whole, addenda_texts e h ts a.1)

entry_texts : (e : Entry) → SizedEntry e → row_bytes 55 3 83 (entry_records e) ≡ joined e.addenda
entry_texts e s = rows_skip 55 3 83 (entry_record e) (map (addendum_record e) e.addenda) 54 refl refl ∙ addenda_texts e s.long e.addenda s.texts

-- rows one behind the other, in one list or in many
joined_rows_of : (es : List Entry) → foldr (λ e r. e.row ++ r) [] es ≡ joined (map (λ e. e.row) es)
unfolding joined
joined_rows_of [] = refl
joined_rows_of (e ∷ es) = ap (λ l. e.row ++ l) (joined_rows_of es)

joined_texts_of : (es : List Entry) → foldr (λ e r. joined e.addenda ++ r) [] es ≡ joined (texts_in es)
unfolding joined
joined_texts_of [] = refl
joined_texts_of (e ∷ es) = rw (joined_texts_of es) (sym (joined_append e.addenda (texts_in es)))

entries_pass : (v : View) → Sized v → row_bytes 54 1 94 (records_of v) ≡ joined (map (λ e. e.row) (entries_of v))
entries_pass v s = rows_of_view 54 1 94 (λ e. e.row) entry_row refl refl refl refl v s ∙ joined_rows_of (entries_of v)

addenda_pass : (v : View) → Sized v → row_bytes 55 3 83 (records_of v) ≡ joined (addenda_of v)
addenda_pass v s = rows_of_view 55 3 83 (λ e. joined e.addenda) entry_texts refl refl refl refl v s ∙ joined_texts_of (entries_of v)

-- ---- the pass for the batches

module _ (n : ℕ) (r : List ℕ) (rs : List (List ℕ)) where
  batch_other : (k : ℕ) → get_or r 0 0 ≡ k → eqb k 53 ≡ false → eqb k 54 ≡ false → eqb k 56 ≡ false → batch_bytes n (r ∷ rs) ≡ batch_bytes n rs
  unfolding batch_bytes
  batch_other k e a b c = rw (e, a, b, c)

  batch_entry : get_or r 0 0 ≡ 54 → batch_bytes n (r ∷ rs) ≡ batch_bytes (n + 1) rs
  unfolding batch_bytes
  batch_entry e = rw e

  batch_open : get_or r 0 0 ≡ 53 → batch_bytes n (r ∷ rs) ≡ (between 1 75 r ++ between 79 94 r) ++ batch_bytes 0 rs
  unfolding batch_bytes
  batch_open e = rw e

  batch_close : get_or r 0 0 ≡ 56 → batch_bytes n (r ∷ rs) ≡ render 6 n ++ batch_bytes n rs
  unfolding batch_bytes
  batch_close e = rw e

count_addenda : (n : ℕ) (e : Entry) → length e.row ≡ 93 → (ts : List (List ℕ)) → AllLong 80 ts → (rest : List (List ℕ))
    → batch_bytes n (map (addendum_record e) ts ++ rest) ≡ batch_bytes n rest
count_addenda n e h [] a rest = refl
count_addenda n e h (t ∷ ts) a rest =
    batch_other n (addendum_record e t) (map (addendum_record e) ts ++ rest) 55 (addendum_fields e t h a.0).type refl refl refl
    ∙ count_addenda n e h ts a.1 rest

count_entries : (n : ℕ) (es : List Entry) → All SizedEntry es → (rest : List (List ℕ)) → batch_bytes n (entries_records es ++ rest) ≡ batch_bytes (n + length es) rest
count_entries n [] a rest = let e : n + 0 ≡ n = omega arith in rw e
count_entries n (e ∷ es) a rest =
    let ts = map (addendum_record e) e.addenda in
    let more : n + 1 + length es ≡ n + length (e ∷ es) = omega arith in
    batch_entry n (entry_record e) ((ts ++ entries_records es) ++ rest) refl
    ∙ ap (batch_bytes (n + 1)) (append_assoc ts (entries_records es) rest)
    ∙ count_addenda (n + 1) e a.0.long e.addenda a.0.texts (entries_records es ++ rest)
    ∙ count_entries (n + 1) es a.1 rest
    ∙ ap (λ m. batch_bytes m rest) more

-- where what follows gives nothing
batches_rows : (n : ℕ) (bs : List Batch) → All SizedBatch bs → (rest : List (List ℕ)) → ((m : ℕ) → batch_bytes m rest ≡ [])
    → batch_bytes n (batches_records bs ++ rest) ≡ joined (map batch_row bs)
unfolding joined
batches_rows n [] a rest none = none n
batches_rows n (b ∷ bs) a rest none =
    let h = a.0 in
    let f = batch_fields b h.long in
    let es = entries_records b.entries in
    let control = batch_control_record b in
    let more = batches_records bs ++ rest in
    let count = length b.entries in
    let start : 0 + count ≡ count = zero-add count in
    let row : between 1 75 (batch_record b) ++ between 79 94 (batch_record b) ≡ b.row = rw (f.front, f.back) (take-append-drop 74 b.row) in
    let behind : batch_bytes 0 (((es ++ (control ∷ [])) ++ batches_records bs) ++ rest) ≡ render 6 count ++ joined (map batch_row bs) =
    ap (batch_bytes 0) (append_assoc (es ++ (control ∷ [])) (batches_records bs) rest ∙ append_assoc es (control ∷ []) more)
    ∙ count_entries 0 b.entries h.each (control ∷ more)
    ∙ ap (λ m. batch_bytes m (control ∷ more)) start
    ∙ batch_close count control more (batch_control_fields b h.long).type
    ∙ ap (λ l. render 6 count ++ l) (batches_rows count bs a.1 rest none) in
    batch_open n (batch_record b) (((es ++ (control ∷ [])) ++ batches_records bs) ++ rest) f.type
    ∙ rw (row, behind) (sym (append_assoc b.row (render 6 count) (joined (map batch_row bs))))

fillers_none : (k m : ℕ) → batch_bytes m (replicate k filler_record) ≡ []
unfolding batch_bytes
fillers_none zero m = refl
fillers_none (suc k) m = batch_other m filler_record (replicate k filler_record) 57 refl refl refl refl ∙ fillers_none k m

batches_pass : (v : View) → Sized v → batch_bytes 0 (records_of v) ≡ joined (map batch_row v.batches)
batches_pass v s =
    let k = fillers_after (length (body_of v) + 1) in
    batch_other 0 (file_record v) (batches_records v.batches ++ end_of v) 49 (file_fields v s.long).type refl refl refl
    ∙ batches_rows 0 v.batches s.each (end_of v)
    (λ m. batch_other m (file_control_record v) (replicate k filler_record) 57 (file_control_fields v).type refl refl refl ∙ fillers_none k m)

-- ---- all passes

-- the pieces as they are written, and as the sections have them
pieces : (one front back na : List ℕ) {row nb nb' bs bs' ne ne' es es' ts ts' : List ℕ} → front ++ back ≡ row → nb ≡ nb' → bs ≡ bs' → ne ≡ ne' → es ≡ es' → ts ≡ ts'
    → (one ++ (front ++ (back ++ nb))) ++ (bs ++ (ne ++ (es ++ (na ++ ts)))) ≡ (one ++ (row ++ [])) ++ ((nb' ++ bs') ++ ((ne' ++ es') ++ (na ++ ts')))
pieces one front back na e b bs n es ts = rw (← e, b, bs, n, es, ts) (simp (append_assoc, append-nil))

-- what is written for the records of a view is its pay table
passes_table : (v : View) → Sized v
    → head_bytes (file_record v) (length v.batches)
    ++ (batch_bytes 0 (records_of v) ++ tail_bytes (length (entries_of v)) (length (addenda_of v)) (records_of v)) ≡ table_bytes v
unfolding joined
passes_table v s =
    let f = file_fields v s.long in
    let front = between 3 34 (file_record v) in
    let back = between 40 94 (file_record v) in
    let row : front ++ back ≡ v.row = rw (f.front, f.back) (take-append-drop 31 v.row) in
    let batches = ap (render 6) (sym (length-map v.batches batch_row)) in
    let entries = ap (render 6) (sym (length-map (entries_of v) (λ e. e.row))) in
    pieces (render 6 1) front back (render 6 (length (addenda_of v))) row batches (batches_pass v s) entries (entries_pass v s) (addenda_pass v s)

-- the first of a file's records
first_record : (way : Way) (f r : List ℕ) (rs : List (List ℕ)) → columns_in way f ≡ r ∷ rs → take 94 f ≡ r
first_record way f r rs e =
    let w = record_bytes way in
    let n = length f / w in
    let raw = raw_records way f in
    let many : n ≡ length (r ∷ rs) = sym (length_rows w n f) ∙ sym (length-map raw (take 94)) ∙ ap length e in
    let head : get_or (map (take 94) raw) 0 (take 94 []) ≡ take 94 (get_or raw 0 []) = get_or-map (take 94) raw 0 [] in
    let cut : take 94 (get_or raw 0 []) ≡ take 94 f = ap (take 94) (get_d_rows w n f 0 (omega arith) ∙ ap (λ k. take w (drop k f)) (mul-zero w)) ∙ take-take 94 w f (omega arith) in
    sym cut ∙ sym head ∙ ap (λ l. get_or l 0 []) e

-- and for a file of these records
pub file_table : (way : Way) (f : List ℕ) (v : View) → Sized v → columns_in way f ≡ records_of v
    → whole_bytes way f (length v.batches) (length (entries_of v)) (length (addenda_of v)) ≡ table_bytes v
file_table way f v s e =
    let rest = batches_records v.batches ++ end_of v in
    rw (first_record way f (file_record v) rest e, e) (passes_table v s)

-- the length that "109 + 95 × batches + 93 × entries + 80 × addenda" tells
batch_rows_long : (bs : List Batch) → All SizedBatch bs → AllLong batch_wide (map batch_row bs)
batch_rows_long [] a = tt
batch_rows_long (b ∷ bs) a = (rw (length-append, length_render, a.0.long), batch_rows_long bs a.1)

texts_long : (es : List Entry) → All SizedEntry es → AllLong addendum_wide (texts_in es)
texts_long [] a = tt
texts_long (e ∷ es) a = long_append addendum_wide e.addenda (texts_in es) a.0.texts (texts_long es a.1)

pub table_length : (v : View) → Sized v
    → length (table_bytes v) ≡ 109 + 95 * length v.batches + 93 * length (entries_of v) + 80 * length (addenda_of v)
table_length v s =
    let es = entries_sized v.batches s.each in
    let b = section count_wide (map batch_row v.batches) in
    let e = section count_wide (map (λ e. e.row) (entries_of v)) in
    let a = section count_wide (addenda_of v) in
    omega (
      arith,
      length-append (section count_wide (v.row ∷ [])) (b ++ (e ++ a)),
      length-append b (e ++ a),
      length-append e a,
      length_section count_wide file_wide (v.row ∷ []) (s.long, tt),
      length_section count_wide batch_wide (map batch_row v.batches) (batch_rows_long v.batches s.each),
      length_section count_wide entry_wide (map (λ e. e.row) (entries_of v)) (rows_of_entries (entries_of v) es),
      length_section count_wide addendum_wide (addenda_of v) (texts_long (entries_of v) es),
      length-map v.batches batch_row,
      length-map (entries_of v) (λ e. e.row),
    )
