-- A table of right shape is the pay table of a view of right sizes, and the view that it says is that view.
-- Assumes nothing but the sizes, or the shape.
use mathlib.Core.Path.{◌≡◌, refl, sym, ap, ◌∙◌}
use mathlib.Core.Logic.{◌↔◌}
use mathlib.Core.Bool.{true}
use mathlib.Core.List.{List, [], ◌∷◌, ◌++◌, map, foldr, append_assoc, append-nil}
use Prim.Native.Nat.{ℕ, ◌+◌, ◌*◌, ◌^◌, ◌≤◌, ◌<◌}
use native.Mathlib.Nat.{le_of_eq}
use Rattle.std.proofs.Common.{rules}
use native.Mathlib.Omega.{arith}
use borrow.Author.Tests.{eqb-true}
use lib.Dec.{lit<, lit≤}
use lib.ListN.{length, take, drop, take-append-drop, length-append, length-drop, length-map, drop_of_length-le}
use lib.Seq.{take_at, drop_at, length-take-le}
use Rattle.text.specs.Decimal.{digits, value, render}
use Rattle.text.specs.Rows.{joined, rows, section}
use Rattle.text.specs.Widths.{AllLong}
use Rattle.text.proofs.DecimalLaws.{and_both, both_and, length_render, digits_render, value_render_lt, render_value, value_lt}
use Rattle.text.proofs.RowLaws.{long_append, rows_long, length_rows, section_count, section_rows, section_rest, length_section}
use Rattle.view.specs.View.{Entry, Batch, View, entries_of, sum_over, file_of, view_of}
use Rattle.view.specs.Table.{count_wide, file_wide, head_wide, batch_wide, entry_wide, addendum_wide, batch_row, addenda_of, table_bytes, behind, count_of, rows_in, batch_part, entry_part, addendum_part, addenda_due, with_addenda, entries_due, with_entries, view_of_table, every_row, shaped, formed, table_of}
use Rattle.view.specs.Sized.{All, SizedEntry, SizedBatch, Sized}
use Rattle.view_laws.proofs.Lists.{nil_of_length, all_append, all_take, all_drop, long_all, all_long, section_cut}
use Rattle.view_laws.proofs.Reading.{view_of_file}
use Rattle.layout.specs.declared.Way.{Way}

abbrev pub entries_in : List Batch → List Entry
entries_in bs = foldr (λ b es. b.entries ++ es) [] bs

abbrev pub texts_in : List Entry → List (List ℕ)
texts_in es = foldr (λ e texts. e.addenda ++ texts) [] es

-- ---- from a view to its table and back

-- the entries of all batches
pub entries_sized : (bs : List Batch) → All SizedBatch bs → All SizedEntry (entries_in bs)
entries_sized [] a = tt
entries_sized (b ∷ bs) a = all_append SizedEntry b.entries (entries_in bs) a.0.each (entries_sized bs a.1)

-- rows as long as the table wants them
pub rows_of_batches : (bs : List Batch) → All SizedBatch bs → AllLong batch_wide (map batch_row bs)
rows_of_batches [] a = tt
rows_of_batches (b ∷ bs) a = (rw (length-append, length_render, a.0.long), rows_of_batches bs a.1)

pub rows_of_entries : (es : List Entry) → All SizedEntry es → AllLong entry_wide (map (λ e. e.row) es)
rows_of_entries [] a = tt
rows_of_entries (e ∷ es) a = (a.0.long, rows_of_entries es a.1)

pub texts_of_entries : (es : List Entry) → All SizedEntry es → AllLong addendum_wide (texts_in es)
texts_of_entries [] a = tt
texts_of_entries (e ∷ es) a = long_append addendum_wide e.addenda (texts_in es) a.0.texts (texts_of_entries es a.1)

-- each entry gets its own addenda back
addenda_back : (es : List Entry) → All SizedEntry es → with_addenda (map (λ e. e.row) es) (texts_in es) ≡ es
unfolding with_addenda
addenda_back [] a = refl
addenda_back (e ∷ es) a =
    let ts = texts_in es in
    let h = a.0.due in
    rw (take_at e.addenda ts (addenda_due e.row) h, drop_at e.addenda ts (addenda_due e.row) h, addenda_back es a.1)

-- the number of entries behind a batch's row
module _ (b : Batch) (long : length b.row ≡ head_wide) where
  head_of_row : take head_wide (batch_row b) ≡ b.row
  head_of_row = take_at b.row (render count_wide (length b.entries)) head_wide long

  count_of_row : drop head_wide (batch_row b) ≡ render count_wide (length b.entries)
  count_of_row = drop_at b.row (render count_wide (length b.entries)) head_wide long

  due_of_row : length b.entries < 10 ^ count_wide → entries_due (batch_row b) ≡ length b.entries
  due_of_row h = ap value count_of_row ∙ value_render_lt count_wide (length b.entries) h

-- each batch gets its own entries back
entries_back : (bs : List Batch) → All SizedBatch bs → length (entries_in bs) < 10 ^ count_wide → with_entries (map batch_row bs) (entries_in bs) ≡ bs
unfolding with_entries
entries_back [] a h = refl
entries_back (b ∷ bs) a h =
    let es = b.entries in
    let rest = entries_in bs in
    let n = length-append es rest in
    rw (head_of_row b a.0.long, due_of_row b a.0.long (omega arith), take_at es rest (length es) refl, drop_at es rest (length es) refl, entries_back bs a.1 (omega arith))

-- the batches' numbers of entries are digits, and sum to the entries
numbers_of_batches : (bs : List Batch) → All SizedBatch bs → every_row (λ r. digits (drop head_wide r)) (map batch_row bs) ≡ true
unfolding every_row
numbers_of_batches [] a = refl
numbers_of_batches (b ∷ bs) a =
    both_and (ap digits (count_of_row b a.0.long) ∙ digits_render count_wide (length b.entries)) (numbers_of_batches bs a.1)

sum_of_batches : (bs : List Batch) → All SizedBatch bs → length (entries_in bs) < 10 ^ count_wide → sum_over entries_due (map batch_row bs) ≡ length (entries_in bs)
unfolding sum_over
sum_of_batches [] a h = refl
sum_of_batches (b ∷ bs) a h =
    let n = length-append b.entries (entries_in bs) in
    rw (due_of_row b a.0.long (omega arith), sum_of_batches bs a.1 (omega arith)) (sym n)

-- the entries take as many addenda as there are
sum_of_entries : (es : List Entry) → All SizedEntry es → sum_over addenda_due (map (λ e. e.row) es) ≡ length (texts_in es)
unfolding sum_over
sum_of_entries [] a = refl
sum_of_entries (e ∷ es) a = rw (← a.0.due, sum_of_entries es a.1) (sym (length-append e.addenda (texts_in es)))

-- what a section at the front of some bytes says: its count, its rows, and what follows
record Section (w : ℕ) (rs : List (List ℕ)) (rest t : List ℕ) : Type 0 where
  plain : digits (take count_wide t) ≡ true
  counted : count_of t ≡ length rs
  held : rows_in w t ≡ rs
  left : behind w (count_of t) t ≡ rest
  size : length (section count_wide rs ++ rest) ≡ count_wide + w * count_of t + length rest

section_says : (w : ℕ) (rs : List (List ℕ)) (rest t : List ℕ) → t ≡ section count_wide rs ++ rest → AllLong w rs → length rs < 10 ^ count_wide → Section w rs rest t
section_says w rs rest t e long few =
    let n = render count_wide (length rs) in
    let counted : count_of t ≡ length rs = ap count_of e ∙ section_count count_wide rs rest few in
    record {
      plain = rw (e, append_assoc n (joined rs) rest, take_at n (joined rs ++ rest) count_wide (length_render count_wide (length rs))) (digits_render count_wide (length rs));
      counted = counted;
      held = rw counted (rw e (section_rows count_wide w rs rest long));
      left = rw counted (rw e (section_rest count_wide w rs rest long));
      size = rw (counted, length-append, length_section count_wide w rs long);
    }

abbrev pub entry_sections : View → List ℕ
entry_sections v = section count_wide (map (λ e. e.row) (entries_of v)) ++ section count_wide (addenda_of v)

abbrev batch_sections : View → List ℕ
batch_sections v = section count_wide (map batch_row v.batches) ++ entry_sections v

-- the four sections of a view's table
record Says (v : View) : Type 0 where
  files : Section file_wide (v.row ∷ []) (batch_sections v) (table_bytes v)
  batches : Section batch_wide (map batch_row v.batches) (entry_sections v) (batch_part (table_bytes v))
  entries : Section entry_wide (map (λ e. e.row) (entries_of v)) (section count_wide (addenda_of v)) (entry_part (table_bytes v))
  addenda : Section addendum_wide (addenda_of v) [] (addendum_part (table_bytes v))

says : (v : View) → Sized v → Says v
says v s =
    let t = table_bytes v in
    let es = entries_sized v.batches s.each in
    let files = section_says file_wide (v.row ∷ []) (batch_sections v) t refl (s.long, tt) (lit< tt) in
    let batches = section_says batch_wide (map batch_row v.batches) (entry_sections v) (batch_part t)
    (section_rest count_wide file_wide (v.row ∷ []) (batch_sections v) (s.long, tt)) (rows_of_batches v.batches s.each) (rw length-map s.batches) in
    let entries = section_says entry_wide (map (λ e. e.row) (entries_of v)) (section count_wide (addenda_of v)) (entry_part t)
    batches.left (rows_of_entries (entries_of v) es) (rw length-map s.entries) in
    record {
      files = files;
      batches = batches;
      entries = entries;
      addenda = section_says addendum_wide (addenda_of v) [] (addendum_part t)
          (entries.left ∙ sym (append-nil (section count_wide (addenda_of v)))) (texts_of_entries (entries_of v) es) s.addenda;
    }

-- where the entries' section stands
pub entry_part_lem : (v : View) → Sized v → entry_part (table_bytes v) ≡ entry_sections v
entry_part_lem v s = (says v s).batches.left

-- a table says the view that it was made of
pub view_of_table_lem : (v : View) → Sized v → view_of_table (table_bytes v) ≡ v
unfolding rows
view_of_table_lem v s =
    let t = says v s in
    let e = section_rows count_wide file_wide (v.row ∷ []) (batch_sections v) (s.long, tt) in
    let row : take file_wide (drop count_wide (table_bytes v)) ≡ v.row = cc in
    rw (row, t.batches.held, t.entries.held, t.addenda.held, addenda_back (entries_of v) (entries_sized v.batches s.each), entries_back v.batches s.each s.entries)

-- what a right shape is, test by test
record Shape (t : List ℕ) : Type 0 where
  files : digits (take count_wide t) ≡ true
  batches : digits (take count_wide (batch_part t)) ≡ true
  entries : digits (take count_wide (entry_part t)) ≡ true
  addenda : digits (take count_wide (addendum_part t)) ≡ true
  numbers : every_row (λ r. digits (drop head_wide r)) (rows_in batch_wide (batch_part t)) ≡ true
  one : count_of t ≡ 1
  size : length t ≡ 109 + batch_wide * count_of (batch_part t) + entry_wide * count_of (entry_part t) + addendum_wide * count_of (addendum_part t)
  taken : sum_over entries_due (rows_in batch_wide (batch_part t)) ≡ count_of (entry_part t)
  due : sum_over addenda_due (rows_in entry_wide (entry_part t)) ≡ count_of (addendum_part t)

shape : (t : List ℕ) → shaped t ≡ true → Shape t
shape t h =
    let a = and_both _ _ h in
    let b = and_both _ _ a.0 in
    let c = and_both _ _ b.0 in
    let d = and_both _ _ c.0 in
    let e = and_both _ _ d.0 in
    let f = and_both _ _ e.0 in
    let g = and_both _ _ f.0 in
    let i = and_both _ _ g.0 in
    record {
      files = i.0;
      batches = i.1;
      entries = g.1;
      addenda = f.1;
      numbers = e.1;
      one = eqb-true _ _ d.1;
      size = eqb-true _ _ c.1;
      taken = eqb-true _ _ b.1;
      due = eqb-true _ _ a.1;
    }

right_shape : (t : List ℕ) → Shape t → shaped t ≡ true
right_shape t s = search rules

-- the table of a view has the right shape
pub table_shaped : (v : View) → Sized v → shaped (table_bytes v) ≡ true
table_shaped v s =
    let t = says v s in
    let es = entries_sized v.batches s.each in
    right_shape (table_bytes v) (record {
      files = t.files.plain;
      batches = t.batches.plain;
      entries = t.entries.plain;
      addenda = t.addenda.plain;
      numbers = rw t.batches.held (numbers_of_batches v.batches s.each);
      one = t.files.counted;
      size = omega (arith, t.files.size, t.files.counted, t.batches.size, t.entries.size, t.addenda.size, length-append (section count_wide (addenda_of v)) []);
      taken = rw t.batches.held (sum_of_batches v.batches s.each s.entries ∙ sym (t.entries.counted ∙ length-map (entries_of v) (λ e. e.row)));
      due = rw t.entries.held (sum_of_entries (entries_of v) es ∙ sym t.addenda.counted);
    })

-- ---- from a table of right shape to its view and back

-- the rows of entries stay, and so do the addenda if they are as many as are taken
rows_stay : (rs ts : List (List ℕ)) → map (λ e. e.row) (with_addenda rs ts) ≡ rs
unfolding with_addenda
rows_stay [] ts = refl
rows_stay (r ∷ rs) ts = ap (λ l. r ∷ l) (rows_stay rs (drop (addenda_due r) ts))

texts_stay : (rs ts : List (List ℕ)) → sum_over addenda_due rs ≡ length ts → texts_in (with_addenda rs ts) ≡ ts
unfolding with_addenda sum_over
texts_stay [] ts h = sym (nil_of_length ts (sym h))
texts_stay (r ∷ rs) ts h =
    let n = addenda_due r in
    rw (texts_stay rs (drop n ts) (rw length-drop (omega arith))) (take-append-drop n ts)

entries_are_sized : (rs ts : List (List ℕ)) → AllLong entry_wide rs → AllLong addendum_wide ts → sum_over addenda_due rs ≡ length ts
    → All SizedEntry (with_addenda rs ts)
unfolding with_addenda sum_over
entries_are_sized [] ts a b h = tt
entries_are_sized (r ∷ rs) ts a b h =
    let n = addenda_due r in
    let c = long_all addendum_wide ts b in (
      record { long = a.0; texts = all_long addendum_wide (take n ts) (all_take _ n ts c); due = length-take-le n ts (omega arith) },
      entries_are_sized rs (drop n ts) a.1 (all_long addendum_wide (drop n ts) (all_drop _ n ts c)) (rw length-drop (omega arith)),
    )

-- the same of the entries and their batches
entries_stay : (rs : List (List ℕ)) (es : List Entry) → sum_over entries_due rs ≡ length es → entries_in (with_entries rs es) ≡ es
unfolding with_entries sum_over
entries_stay [] es h = sym (nil_of_length es (sym h))
entries_stay (r ∷ rs) es h =
    let n = entries_due r in
    rw (entries_stay rs (drop n es) (rw length-drop (omega arith))) (take-append-drop n es)

batches_stay : (rs : List (List ℕ)) (es : List Entry) → AllLong batch_wide rs → every_row (λ r. digits (drop head_wide r)) rs ≡ true
    → sum_over entries_due rs ≡ length es → map batch_row (with_entries rs es) ≡ rs
unfolding with_entries sum_over every_row
batches_stay [] es a d h = refl
batches_stay (r ∷ rs) es a d h =
    let n = entries_due r in
    let p = and_both _ _ d in
    let k : count_wide ≡ length (drop head_wide r) = rw (length-drop, a.0) in
    let e : render count_wide n ≡ drop head_wide r = ap (λ w. render w n) k ∙ render_value (drop head_wide r) p.0 in
    rw (length-take-le n es (omega arith), e, take-append-drop head_wide r, batches_stay rs (drop n es) a.1 p.1 (rw length-drop (omega arith)))

batches_are_sized : (rs : List (List ℕ)) (es : List Entry) → AllLong batch_wide rs → All SizedEntry es → All SizedBatch (with_entries rs es)
unfolding with_entries
batches_are_sized [] es a b = tt
batches_are_sized (r ∷ rs) es a b =
    let n = entries_due r in (
      record { long = length-take-le head_wide r (rw a.0 (lit≤ tt)); each = all_take SizedEntry n es b },
      batches_are_sized rs (drop n es) a.1 (all_drop SizedEntry n es b),
    )

-- six digits count fewer than a million
count_few : (s : List ℕ) → count_wide ≤ length s → count_of s < 10 ^ count_wide
count_few s h = rw (length-take-le count_wide s h) at (value_lt (take count_wide s))

-- where the sections of a table of right shape stand
module _ (t : List ℕ) (s : Shape t) where
  batches_at : length (batch_part t) + (count_wide + file_wide) ≡ length t
  batches_at = rw (length-drop (count_wide + file_wide * 1) t) (omega (arith, s.size))

  entries_at : length (entry_part t) + (count_wide + batch_wide * count_of (batch_part t)) ≡ length (batch_part t)
  entries_at = rw (length-drop (count_wide + batch_wide * count_of (batch_part t)) (batch_part t)) (omega (arith, s.size, batches_at))

  addenda_at : length (addendum_part t) + (count_wide + entry_wide * count_of (entry_part t)) ≡ length (entry_part t)
  addenda_at = rw (length-drop (count_wide + entry_wide * count_of (entry_part t)) (entry_part t)) (omega (arith, s.size, batches_at, entries_at))

  addenda_end : length (addendum_part t) ≡ count_wide + addendum_wide * count_of (addendum_part t)
  addenda_end = omega (arith, s.size, batches_at, entries_at, addenda_at)

  batch_rows_lem : AllLong batch_wide (rows_in batch_wide (batch_part t))
  batch_rows_lem = rows_long batch_wide (count_of (batch_part t)) (drop count_wide (batch_part t)) (rw length-drop (omega (arith, entries_at)))

  entry_rows_lem : AllLong entry_wide (rows_in entry_wide (entry_part t))
  entry_rows_lem = rows_long entry_wide (count_of (entry_part t)) (drop count_wide (entry_part t)) (rw length-drop (omega (arith, addenda_at)))

  addendum_rows : AllLong addendum_wide (rows_in addendum_wide (addendum_part t))
  addendum_rows = rows_long addendum_wide (count_of (addendum_part t)) (drop count_wide (addendum_part t)) (rw length-drop (omega (arith, addenda_end)))

  -- the batches take as many entries as there are, and the entries as many addenda
  texts_due : sum_over addenda_due (rows_in entry_wide (entry_part t)) ≡ length (rows_in addendum_wide (addendum_part t))
  texts_due = s.due ∙ sym (length_rows addendum_wide (count_of (addendum_part t)) (drop count_wide (addendum_part t)))

  abbrev entries_read : List Entry
  entries_read = with_addenda (rows_in entry_wide (entry_part t)) (rows_in addendum_wide (addendum_part t))

  length_entries : length entries_read ≡ count_of (entry_part t)
  length_entries =
      sym (length-map entries_read (λ e. e.row))
      ∙ ap length (rows_stay (rows_in entry_wide (entry_part t)) (rows_in addendum_wide (addendum_part t)))
      ∙ length_rows entry_wide (count_of (entry_part t)) (drop count_wide (entry_part t))

  entries_due_lem : sum_over entries_due (rows_in batch_wide (batch_part t)) ≡ length entries_read
  entries_due_lem = s.taken ∙ sym length_entries

  entries_same : entries_of (view_of_table t) ≡ entries_read
  entries_same = entries_stay (rows_in batch_wide (batch_part t)) entries_read entries_due_lem

  texts_same : addenda_of (view_of_table t) ≡ rows_in addendum_wide (addendum_part t)
  texts_same = ap texts_in entries_same ∙ texts_stay (rows_in entry_wide (entry_part t)) (rows_in addendum_wide (addendum_part t)) texts_due

  batches_same : map batch_row (view_of_table t).batches ≡ rows_in batch_wide (batch_part t)
  batches_same = batches_stay (rows_in batch_wide (batch_part t)) entries_read batch_rows_lem s.numbers entries_due_lem

  length_batches : length (view_of_table t).batches ≡ count_of (batch_part t)
  length_batches =
      sym (length-map (view_of_table t).batches batch_row) ∙ ap length batches_same ∙ length_rows batch_wide (count_of (batch_part t)) (drop count_wide (batch_part t))

  shape_sized : Sized (view_of_table t)
  shape_sized =
      record {
        long = length-take-le file_wide (drop count_wide t) (rw length-drop (omega (arith, s.size)));
        each = batches_are_sized (rows_in batch_wide (batch_part t)) entries_read batch_rows_lem
            (entries_are_sized (rows_in entry_wide (entry_part t)) (rows_in addendum_wide (addendum_part t)) entry_rows_lem addendum_rows texts_due);
        batches = rw length_batches (count_few (batch_part t) (omega (arith, entries_at)));
        entries = rw (entries_same, length_entries) (count_few (entry_part t) (omega (arith, addenda_at)));
        addenda = rw (texts_same, length_rows) (count_few (addendum_part t) (omega (arith, addenda_end)));
      }

  shape_table : table_bytes (view_of_table t) ≡ t
  unfolding rows
  shape_table =
      let end = drop_of_length-le (addendum_part t) (le_of_eq addenda_end) in
      let files : section count_wide (take file_wide (drop count_wide t) ∷ []) ++ batch_part t ≡ t =
      rw s.one at (section_cut count_wide file_wide t s.files (rw s.one (omega (arith, batches_at)))) in
      let batches = section_cut count_wide batch_wide (batch_part t) s.batches (omega (arith, entries_at)) in
      let entries = section_cut count_wide entry_wide (entry_part t) s.entries (omega (arith, addenda_at)) in
      let addenda = rw (end, append-nil) at (section_cut count_wide addendum_wide (addendum_part t) s.addenda (omega (arith, addenda_end))) in
      rw (texts_same, batches_same, entries_same, rows_stay, addenda, entries, batches) files

-- a table of right shape says a view of right sizes
pub shaped_sized : (t : List ℕ) → shaped t ≡ true → Sized (view_of_table t)
shaped_sized t h = shape_sized t (shape t h)

-- and is the table of that view
pub table_of_view : (t : List ℕ) → shaped t ≡ true → table_bytes (view_of_table t) ≡ t
table_of_view t h = shape_table t (shape t h)

-- so the tables of right shape are the tables of views of right sizes, and no others
pub shaped_exactly : (t : List ℕ) → (shaped t ≡ true) ↔ ((v : View) × Sized v × (table_bytes v ≡ t))
shaped_exactly t = (λ h. (view_of_table t, shaped_sized t h, table_of_view t h), λ p. rw (← p.2) (table_shaped p.0 p.1))

-- a view's table forms the view's file, and the file's table is the view's
pub formed_of_table : (way : Way) (v : View) → Sized v → formed way (table_bytes v) ≡ file_of way v
formed_of_table way v s = ap (file_of way) (view_of_table_lem v s)

pub table_of_file : (way : Way) (v : View) → Sized v → table_of way (file_of way v) ≡ table_bytes v
table_of_file way v s = ap table_bytes (view_of_file way v s)

-- the file formed of a table says what the table says
pub view_of_formed : (way : Way) (t : List ℕ) → shaped t ≡ true → view_of way (formed way t) ≡ view_of_table t
view_of_formed way t h = view_of_file way (view_of_table t) (shaped_sized t h)

-- and its pay table is that table
pub table_of_formed : (way : Way) (t : List ℕ) → shaped t ≡ true → table_of way (formed way t) ≡ t
table_of_formed way t h = ap table_bytes (view_of_formed way t h) ∙ table_of_view t h
