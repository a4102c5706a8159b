-- What is still to be formed from a cursor on: the next record stands in front of it, and the rest is what the next cursor leaves.
-- Assumes that the cursor's rows lie in the table.
use Rattle.std.specs.Prelude.{Ok}
use Prim.Native.Nat.{ℕ, zero, suc, ◌+◌, ◌-◌, ◌*◌, ◌<◌, ◌≤◌}
use native.Mathlib.Nat.{zero-add, zero-mul, le_of_eq}
use native.Mathlib.Numerals.{sub-one}
use native.Mathlib.Omega.{arith}
use mathlib.Core.Path.{◌≡◌, refl, sym, ap, ◌∙◌, subst}
use mathlib.Core.Bool.{Bool, true, false}
use mathlib.Core.List.{List, [], ◌∷◌, ◌++◌, map, append_assoc}
use lib.Dec.{lit≤}
use lib.ListN.{length, get_or, take, drop, replicate, length-take, length-drop}
use lib.Seq.{take_all, length-take-le}
use Rattle.text.specs.Decimal.{pick}
use Rattle.text.specs.Rows.{joined, rows}
use Rattle.text.proofs.DecimalLaws.{length_render}
use Rattle.text.proofs.RowLaws.{length_wide}
use Rattle.layout.specs.declared.Line.{Line}
use Rattle.layout.specs.Fields.{rows_of, first_field}
use Rattle.check_across.specs.declared.Sums.{Sums}
use Rattle.check_order.specs.declared.Place.{Place}
use Rattle.check_sums.specs.declared.State.{State}
use Rattle.check_order.specs.Order.{filled, line_at, takes_addendum, complete}
use Rattle.check_sums.specs.Sums.{add_record, add_batch, add_entry, add_addendum, tally}
use Rattle.check_record.specs.Record.{fields_from, line_of, stepped, bare, record_of}
use Rattle.view.specs.View.{Entry, Batch, sum_over, batch_control_record, fillers_after, filler_record}
use Rattle.view.specs.Table.{addenda_due, entries_due, with_addenda, with_entries}
use Rattle.view_laws.proofs.Formed.{file_fields, batch_fields, addendum_fields}
use Rattle.view_laws.proofs.Lists.{by_lt}
use Rattle.view_laws.proofs.BridgeSums.{after_addenda, after_entry, after_entries, after_batch, after_batches, entries_records, batches_records, control_same, fillers_more}
use Rattle.view_laws.proofs.BridgeWalk.{at}
use Rattle.table_form.specs.declared.walking.Cursor.{Cursor}
use Rattle.table_form.specs.WorkSections.{count_at}
use Rattle.table_form.specs.Forms.{batch_control_from, file_control_from, file_from, batch_from, entry_from, addendum_from}
use Rattle.table_form.specs.WorkWalking.{batch_rows, entries_ahead, entry_rows, texts_ahead, owed, idle, Inside, batch_at, entry_at, last_at, text_at, form_at, form_of, past_of}
use Rattle.table_form.proofs.ShapeLaws.{rows_first, rows_none, sum_first, entries_in_lem}

-- ---- the entries and batches that a cursor stands before

-- n entries from a byte on, with their addenda from another byte on
abbrev pub entries_by : List ℕ → ℕ → ℕ → ℕ → List Entry
entries_by t n entry text =
    with_addenda (rows 93 n (drop entry t)) (rows 80 (sum_over addenda_due (rows 93 n (drop entry t))) (drop text t))

abbrev ahead : List ℕ → Cursor → List Entry
ahead t c = entries_by t (entries_ahead t c) c.entry c.text

-- of this batch, and the batches behind it
abbrev in_batch : List ℕ → Cursor → List Entry
in_batch t c = take c.left (ahead t c)

abbrev pub later : List ℕ → Cursor → List Batch
later t c = with_entries (batch_rows t c) (drop c.left (ahead t c))

-- between two batches no entry is left in a batch
abbrev pub between : Cursor → Cursor
between c = record { batches = c.batches; batch = c.batch; left = 0; entry = c.entry; last = c.last; text = c.text }

-- the cursor behind a record 5, a record 6, a record 7
abbrev over_batch : List ℕ → Cursor → Cursor
over_batch t c =
    record {
      batches = c.batches - 1;
      batch = c.batch + 95;
      left = count_at t (c.batch + 89);
      entry = c.entry;
      last = c.last;
      text = c.text;
    }

abbrev over_entry : Cursor → Cursor
over_entry c =
    record {
      batches = c.batches;
      batch = c.batch;
      left = c.left - 1;
      entry = c.entry + 93;
      last = c.entry;
      text = c.text;
    }

abbrev with_text : ℕ → Cursor → Cursor
with_text text c =
    record { batches = c.batches; batch = c.batch; left = c.left; entry = c.entry; last = c.last; text = text }

abbrev over_text : Cursor → Cursor
over_text c = with_text (c.text + 80) c

-- the next batch
batch_ahead : (t : List ℕ) (c : Cursor) → 0 < c.batches → entries_ahead t (between c) ≡ entries_ahead t (over_batch t c)
batch_ahead t c h =
    omega (arith, sum_first entries_due 95 c.batches c.batch t h, entries_in_lem t c.batch)

later_first : (t : List ℕ) (c : Cursor) → 0 < c.batches
    → later t (between c) ≡ record { row = take 89 (batch_at t c); entries = in_batch t (over_batch t c) } ∷ later t (over_batch t c)
unfolding with_entries
later_first t c h =
    ap (λ n. with_entries (batch_rows t c) (entries_by t n c.entry c.text)) (batch_ahead t c h)
    ∙ ap (λ rs. with_entries rs (ahead t (over_batch t c))) (rows_first 95 c.batches c.batch t h)
    ∙ rw (entries_in_lem t c.batch) refl

later_none : (t : List ℕ) (c : Cursor) → c.batches ≤ 0 → later t (between c) ≡ []
unfolding with_entries
later_none t c h = ap (λ rs. with_entries rs (ahead t (between c))) (rows_none 95 c.batches c.batch t h)

-- the next entry
module _ {A : Type 0} (x : A) (xs : List A) where
  take_first : (n : ℕ) → 0 < n → take n (x ∷ xs) ≡ x ∷ take (n - 1) xs
  take_first zero h = absurd (omega arith)
  take_first (suc n) h = rw sub-one

  drop_first : (n : ℕ) → 0 < n → drop n (x ∷ xs) ≡ drop (n - 1) xs
  drop_first zero h = absurd (omega arith)
  drop_first (suc n) h = rw sub-one

module _ (t : List ℕ) (c : Cursor) (h : 0 < c.left) where
  rows_ahead : entry_rows t c ≡ entry_at t c ∷ entry_rows t (over_entry c)
  rows_ahead =
      let e : entries_ahead t c - 1 ≡ entries_ahead t (over_entry c) = omega arith in
      rows_first 93 (entries_ahead t c) c.entry t (omega arith) ∙ ap (λ n. entry_at t c ∷ rows 93 n (drop (c.entry + 93) t)) e

  texts_ahead_lem : texts_ahead t c ≡ addenda_due (entry_at t c) + texts_ahead t (over_entry c)
  unfolding sum_over
  texts_ahead_lem = ap (sum_over addenda_due) rows_ahead

  ahead_by : ahead t c ≡ with_addenda (entry_at t c ∷ entry_rows t (over_entry c)) (rows 80 (addenda_due (entry_at t c) + texts_ahead t (over_entry c)) (drop c.text t))
  ahead_by =
      ap (λ rs. with_addenda rs (rows 80 (texts_ahead t c) (drop c.text t))) rows_ahead
      ∙ ap (λ n. with_addenda (entry_at t c ∷ entry_rows t (over_entry c)) (rows 80 n (drop c.text t))) texts_ahead_lem

  -- it takes an addendum
  ahead_due : takes_addendum (54 ∷ entry_at t c) ≡ true → ahead t c ≡ record { row = entry_at t c; addenda = text_at t c ∷ [] } ∷ ahead t (over_text (over_entry c))
  unfolding with_addenda
  ahead_due e =
      let n = texts_ahead t (over_entry c) in
      let more : 1 + n - 1 ≡ n = omega arith in
      ahead_by ∙ rw (e, rows_first 80 (1 + n) c.text t (omega arith), more) refl

  -- it takes none
  ahead_plain : takes_addendum (54 ∷ entry_at t c) ≡ false → ahead t c ≡ record { row = entry_at t c; addenda = [] } ∷ ahead t (over_entry c)
  unfolding with_addenda
  ahead_plain e = ahead_by ∙ rw (e, zero-add) refl

-- ---- what is still to be formed

-- behind a batch, or before the first: batches, the file control, fillers
abbrev pub behind_batches : Sums → List Batch → List (List ℕ)
behind_batches s bs =
    batches_records bs ++ (file_control_from (after_batches s bs) ∷ replicate (fillers_after ((after_batches s bs).records + 1)) filler_record)

-- in a batch with record 5 h: entries, the batch control, and what is behind the batch
abbrev behind_entries : Sums → List ℕ → List Entry → List Batch → List (List ℕ)
behind_entries s h es bs =
    entries_records es ++ (batch_control_from (after_entries s es) h ∷ behind_batches (add_record (after_entries s es)) bs)

abbrev pub todo_at : List ℕ → Cursor → Place → Sums → List ℕ → List (List ℕ)
todo_at t c Place.Start s h = file_from (take 85 (drop 6 t)) ∷ behind_batches (add_record s) (later t (between c))
todo_at t c Place.FileOpen s h = behind_batches s (later t (between c))
todo_at t c Place.BatchOpen s h = behind_entries s h (in_batch t c) (later t c)
todo_at t c Place.AddendumDue s h =
    addendum_from (last_at t c) (text_at t c) ∷ behind_entries (add_addendum s) h (in_batch t (over_text c)) (later t (over_text c))
todo_at t c Place.EntryDone s h = behind_entries s h (in_batch t c) (later t c)
todo_at t c Place.BatchDone s h = behind_batches s (later t (between c))
todo_at t c Place.FileDone s h = replicate (fillers_after s.records) filler_record

abbrev pub todo : List ℕ → Cursor → State → List (List ℕ)
todo t c st = todo_at t c st.place st.sums st.header

-- ---- one record

-- the cursor c' is in place behind the record r, where rest is still to be formed
abbrev Onward : List ℕ → Cursor → State → List (List ℕ) → Type 0
Onward t c' next rest = (rest ≡ todo t c' next) × Inside t next.place c'

-- r is the next record, and if it passes, what is left is what the cursor c' stands before
pub record Turn (t : List ℕ) (c : Cursor) (st : State) (r : List ℕ) (c' : Cursor) : Type 0 where
  pub rest : List (List ℕ)
  pub long : length r ≡ 94
  pub form : todo t c st ≡ r ∷ rest
  pub onward : (record_of st (bare r)).verdict ≡ Ok tt → Onward t c' (tally st (line_of st r) r) rest

-- by the line that r is taken for
taken_for : (t : List ℕ) (c' : Cursor) (st : State) (r : List ℕ) (rest : List (List ℕ)) (line : Line) → line_of st r ≡ line
    → Onward t c' (tally st line r) rest → Onward t c' (tally st (line_of st r) r) rest
taken_for t c' st r rest line e o = subst (λ l. Onward t c' (tally st l r) rest) (sym e) o

-- a record that may not stand here does not pass
misplaced : {A : Type 0} (st : State) (r : List ℕ) → line_of st r ≡ Line.Other → (record_of st (bare r)).verdict ≡ Ok tt → A
unfolding fields_from
misplaced st r e p =
    let f = subst (λ line. (stepped (fields_from (first_field line) (rows_of line) st.sums st.header r) (tally st line r) st).verdict ≡ Ok tt) e p in
    let z : ◌≡◌ {A = ℕ} 0 1 = cc f in
    absurd (omega arith)

-- the control records have 94 bytes
pub control_long : (s : Sums) (h : List ℕ) → length h ≡ 94 → length (batch_control_from s h) ≡ 94
control_long s h l =
    length_wide (1 ∷ 3 ∷ 6 ∷ 10 ∷ 12 ∷ 12 ∷ 10 ∷ 19 ∷ 6 ∷ 8 ∷ 7 ∷ []) _ (simp (length_render, length-take, length-drop, l) (omega arith))

pub file_control_long : (s : Sums) → length (file_control_from s) ≡ 94
file_control_long s = length_wide (1 ∷ 6 ∷ 6 ∷ 8 ∷ 10 ∷ 12 ∷ 12 ∷ 39 ∷ []) _ (simp length_render (omega arith))

-- their first byte
typed : (b : ℕ) (fs : List (List ℕ)) → get_or (joined ((b ∷ []) ∷ fs)) 0 0 ≡ b
unfolding joined
typed b fs = refl

-- rows and texts as long as they are to be
row_long : (t : List ℕ) (w at n : ℕ) → at + n ≤ length t → w ≤ n → length (take w (drop at t)) ≡ w
row_long t w at n h g = simp (length-take, length-drop) (omega arith)

-- the same cursor at another place
moved : (t : List ℕ) (p q : Place) (c : Cursor) → owed p ≡ owed q → idle q * c.left ≡ 0 → Inside t p c → Inside t q c
moved t p q c e z i =
    record { whole = i.whole; batches = i.batches; entries = i.entries; texts = rw (← e) i.texts; last = i.last; none = z }

module _ (t : List ℕ) (c : Cursor) (s : Sums) (h b : List ℕ) where
  -- record 1
  start_turn : Inside t Place.Start c → Turn t c (at Place.Start s h b) (file_from (take 85 (drop 6 t))) c
  start_turn i =
      let f = file_fields (record { row = take 85 (drop 6 t); batches = [] }) (row_long t 85 6 85 (omega (arith, i.whole)) (lit≤ tt)) in
      let r = file_from (take 85 (drop 6 t)) in
      let rest = behind_batches (add_record s) (later t (between c)) in
      record {
        rest = rest;
        long = f.long;
        form = refl;
        onward = λ p. taken_for t c (at Place.Start s h b) r rest Line.FileHeader (rw f.type refl)
            (refl, moved t Place.Start Place.FileOpen c refl i.none i);
      }

  -- record 5
  batch_turn : (p : Place) → ((n : ℕ) → line_at p n 53 ≡ Line.BatchHeader) → todo_at t c p s h ≡ behind_batches s (later t (between c))
      → owed p ≡ 0 → idle p ≡ 1 → 0 < c.batches → Inside t p c → Turn t c (at p s h b) (batch_from (batch_at t c)) (over_batch t c)
  batch_turn p line form o z m i =
      let c' = over_batch t c in
      let long : length (take 89 (batch_at t c)) ≡ 89 = length-take-le 89 (batch_at t c) (rw (row_long t 95 c.batch 95 (omega (arith, i.batches)) (lit≤ tt)) (lit≤ tt)) in
      let here : Batch = record { row = take 89 (batch_at t c); entries = in_batch t c' } in
      let r = batch_from (batch_at t c) in
      let f = batch_fields here long in
      let inside = entries_records (in_batch t c') in
      let tail = file_control_from (after_batches (after_batch s here) (later t c')) ∷ replicate (fillers_after ((after_batches (after_batch s here) (later t c')).records + 1)) filler_record in
      let rest = behind_entries (add_batch s r) r (in_batch t c') (later t c') in
      let left : c.left ≡ 0 = omega (arith, rw z at i.none) in
      let same : entries_ahead t c ≡ entries_ahead t c' = ap (λ n. n + sum_over entries_due (batch_rows t c)) left ∙ batch_ahead t c m in
      record {
        rest = rest;
        long = f.long;
        form =
            form ∙ ap (behind_batches s) (later_first t c m)
            ∙ ap (λ l. r ∷ l) (append_assoc (inside ++ (batch_control_record here ∷ [])) (batches_records (later t c')) tail ∙ append_assoc inside (batch_control_record here ∷ []) (batches_records (later t c') ++ tail))
            ∙ ap (λ x. r ∷ (inside ++ (x ∷ (batches_records (later t c') ++ tail)))) (sym (control_same s here));
        onward = λ y. taken_for t c' (at p s h b) r rest Line.BatchHeader (rw f.type (line s.records)) (
          ap (λ x. behind_entries (add_batch s r) x (in_batch t c') (later t c')) (sym (take_all 94 r (le_of_eq f.long))),
          record {
            whole = i.whole;
            batches = omega (arith, i.batches);
            entries = omega (arith, i.entries, same);
            texts = omega (arith, i.texts, o, ap (λ n. sum_over addenda_due (rows 93 n (drop c.entry t))) same);
            last = i.last;
            none = omega arith;
          },
        );
      }

  -- record 9, and where it may not stand
  end_turn : Inside t Place.BatchDone c → c.batches ≤ 0 → Turn t c (at Place.BatchDone s h b) (file_control_from s) c
  end_turn i m =
      let rest = replicate (fillers_after (s.records + 1)) filler_record in
      record {
        rest = rest;
        long = file_control_long s;
        form = ap (behind_batches s) (later_none t c m);
        onward = λ y. taken_for t c (at Place.BatchDone s h b) (file_control_from s) rest Line.FileControl (rw (typed 57) refl)
            (refl, moved t Place.BatchDone Place.FileDone c refl (omega arith) i);
      }

  no_batch_turn : c.batches ≤ 0 → Turn t c (at Place.FileOpen s h b) (file_control_from s) c
  no_batch_turn m =
      record {
        rest = replicate (fillers_after (s.records + 1)) filler_record;
        long = file_control_long s;
        form = ap (behind_batches s) (later_none t c m);
        onward = λ y. misplaced (at Place.FileOpen s h b) (file_control_from s) (rw (typed 57) refl) y;
      }

  -- record 6; it takes these addenda, and the next one begins at this byte
  taking_turn : (p : Place) → ((n : ℕ) → line_at p n 54 ≡ Line.Entry) → todo_at t c p s h ≡ behind_entries s h (in_batch t c) (later t c)
      → owed p ≡ 0 → 0 < c.left → Inside t p c → (texts : List (List ℕ)) (next : ℕ) (x : Bool) → takes_addendum (54 ∷ entry_at t c) ≡ x
      → ahead t c ≡ record { row = entry_at t c; addenda = texts } ∷ ahead t (with_text next (over_entry c))
      → map (addendum_from (entry_at t c)) texts ++ behind_entries (after_addenda (add_entry s (entry_from (entry_at t c))) texts) h (in_batch t (with_text next (over_entry c))) (later t (with_text next (over_entry c)))
      ≡ todo_at t (over_entry c) (pick x Place.AddendumDue Place.EntryDone) (add_entry s (entry_from (entry_at t c))) h
      → owed (pick x Place.AddendumDue Place.EntryDone) ≡ pick x 1 0 → idle (pick x Place.AddendumDue Place.EntryDone) ≡ 0
      → Turn t c (at p s h b) (entry_from (entry_at t c)) (over_entry c)
  taking_turn p line form o m i texts next x e all same due z =
      let c' = over_entry c in
      let c'' = with_text next c' in
      let r = entry_from (entry_at t c) in
      let here : Entry = record { row = entry_at t c; addenda = texts } in
      let rest = todo_at t c' (pick x Place.AddendumDue Place.EntryDone) (add_entry s r) h in
      let first : in_batch t c ≡ here ∷ in_batch t c'' = ap (take c.left) all ∙ take_first here (ahead t c'') c.left m in
      let others : later t c ≡ later t c'' = ap (λ l. with_entries (batch_rows t c) (drop c.left l)) all ∙ ap (with_entries (batch_rows t c)) (drop_first here (ahead t c'') c.left m) in
      let control = batch_control_from (after_entries (after_entry s here) (in_batch t c'')) h ∷ behind_batches (add_record (after_entries (after_entry s here) (in_batch t c''))) (later t c'') in
      let taken : addenda_due (entry_at t c) ≡ pick x 1 0 = ap (λ y. pick y 1 0) e in
      let after = tally (at p s h b) Line.Entry r in
      record {
        rest = rest;
        long = ap suc (row_long t 93 c.entry 93 (omega (arith, i.entries)) (lit≤ tt));
        form =
            form ∙ ap (λ l. behind_entries s h l (later t c)) first ∙ ap (behind_entries s h (here ∷ in_batch t c'')) others
            ∙ ap (λ l. r ∷ l) (append_assoc (map (addendum_from (entry_at t c)) texts) (entries_records (in_batch t c'')) control ∙ same);
        onward = λ y. taken_for t c' (at p s h b) r rest Line.Entry (line s.records)
            (subst (λ v. Onward t c' (at (pick v Place.AddendumDue Place.EntryDone) after.sums h after.bycode) rest) (sym e) (
              refl,
              record {
                whole = i.whole;
                batches = i.batches;
                entries = omega (arith, i.entries);
                texts = omega (arith, i.texts, o, due, taken, texts_ahead_lem t c m);
                last = omega (arith, i.entries);
                none = rw z (zero-mul (c.left - 1));
              },
            ));
      }

  entry_turn : (p : Place) → ((n : ℕ) → line_at p n 54 ≡ Line.Entry) → todo_at t c p s h ≡ behind_entries s h (in_batch t c) (later t c)
      → owed p ≡ 0 → 0 < c.left → Inside t p c → Turn t c (at p s h b) (entry_from (entry_at t c)) (over_entry c)
  entry_turn p line form o m i = go (takes_addendum (54 ∷ entry_at t c)) refl
    where
      go : (x : Bool) → takes_addendum (54 ∷ entry_at t c) ≡ x → Turn t c (at p s h b) (entry_from (entry_at t c)) (over_entry c)
      go true e = taking_turn p line form o m i (text_at t c ∷ []) (c.text + 80) true e (ahead_due t c m e) refl refl refl
      go false e = taking_turn p line form o m i [] c.text false e (ahead_plain t c m e) refl refl refl

  -- record 8, and where it may not stand
  no_entry_lem : c.left ≤ 0 → behind_entries s h (in_batch t c) (later t c) ≡ batch_control_from s h ∷ behind_batches (add_record s) (later t (between c))
  no_entry_lem m =
      let z : c.left ≡ 0 = omega arith in
      let sum = sum_over entries_due (batch_rows t c) in
      ap (λ n. behind_entries s h (take n (ahead t c)) (later t c)) z
      ∙ ap (λ n. batch_control_from s h ∷ behind_batches (add_record s) (with_entries (batch_rows t c) (drop n (entries_by t (n + sum) c.entry c.text)))) z

  control_turn : length h ≡ 94 → c.left ≤ 0 → Inside t Place.EntryDone c → Turn t c (at Place.EntryDone s h b) (batch_control_from s h) c
  control_turn l m i =
      let rest = behind_batches (add_record s) (later t (between c)) in
      record {
        rest = rest;
        long = control_long s h l;
        form = no_entry_lem m;
        onward = λ y. taken_for t c (at Place.EntryDone s h b) (batch_control_from s h) rest Line.BatchControl (rw (typed 56) refl)
            (refl, moved t Place.EntryDone Place.BatchDone c refl (omega arith) i);
      }

  empty_turn : length h ≡ 94 → c.left ≤ 0 → Turn t c (at Place.BatchOpen s h b) (batch_control_from s h) c
  empty_turn l m =
      record {
        rest = behind_batches (add_record s) (later t (between c));
        long = control_long s h l;
        form = no_entry_lem m;
        onward = λ y. misplaced (at Place.BatchOpen s h b) (batch_control_from s h) (rw (typed 56) refl) y;
      }

  -- record 7
  text_turn : Inside t Place.AddendumDue c → Turn t c (at Place.AddendumDue s h b) (addendum_from (last_at t c) (text_at t c)) (over_text c)
  text_turn i =
      let r = addendum_from (last_at t c) (text_at t c) in
      let f = addendum_fields (record { row = last_at t c; addenda = [] }) (text_at t c) (row_long t 93 c.last 93 i.last (lit≤ tt)) (row_long t 80 c.text 80 (omega (arith, i.texts)) (lit≤ tt)) in
      let rest = behind_entries (add_addendum s) h (in_batch t (over_text c)) (later t (over_text c)) in
      record {
        rest = rest;
        long = f.long;
        form = refl;
        onward = λ y. taken_for t (over_text c) (at Place.AddendumDue s h b) r rest Line.Addendum (rw f.type refl) (
          refl,
          record {
            whole = i.whole;
            batches = i.batches;
            entries = i.entries;
            texts = omega (arith, i.texts);
            last = i.last;
            none = omega arith;
          },
        );
      }

  -- filler
  filler_turn : filled s.records ≡ false → Inside t Place.FileDone c → Turn t c (at Place.FileDone s h b) filler_record c
  filler_turn e i =
      let rest = replicate (fillers_after (s.records + 1)) filler_record in
      record {
        rest = rest;
        long = refl;
        form = ap (λ n. replicate n filler_record) (fillers_more s.records e);
        onward = λ y. taken_for t c (at Place.FileDone s h b) filler_record rest Line.Filler (rw e refl) (refl, i);
      }

  -- a place that is not complete
  turn_at : (p : Place) → length h ≡ 94 → complete p s.records ≡ false → Inside t p c → Turn t c (at p s h b) (form_at t c p s h) (past_of t c p)
  turn_at Place.Start l d i = start_turn i
  turn_at Place.FileOpen l d i =
      by_lt 0 c.batches (λ m e. rw e (batch_turn Place.FileOpen (λ n. refl) refl refl refl m i)) (λ m e. rw e (no_batch_turn m))
  turn_at Place.BatchOpen l d i =
      by_lt 0 c.left (λ m e. rw e (entry_turn Place.BatchOpen (λ n. refl) refl refl m i)) (λ m e. rw e (empty_turn l m))
  turn_at Place.AddendumDue l d i = text_turn i
  turn_at Place.EntryDone l d i =
      by_lt 0 c.left (λ m e. rw e (entry_turn Place.EntryDone (λ n. refl) refl refl m i)) (λ m e. rw e (control_turn l m i))
  turn_at Place.BatchDone l d i =
      by_lt 0 c.batches (λ m e. rw e (batch_turn Place.BatchDone (λ n. refl) refl refl refl m i)) (λ m e. rw e (end_turn i m))
  turn_at Place.FileDone l d i = filler_turn d i

-- one turn of the walk
pub turn : (t : List ℕ) (c : Cursor) (st : State) → length st.header ≡ 94 → complete st.place st.sums.records ≡ false
    → Inside t st.place c → Turn t c st (form_of t c st) (past_of t c st.place)
turn t c st l d i = turn_at t c st.sums st.header st.bycode st.place l d i

-- an addendum that is due lies in the table
pub text_room : (t : List ℕ) (p : Place) (c : Cursor) → p ≡ Place.AddendumDue → Inside t p c → c.text + 80 ≤ length t
text_room t p c e i = let j = subst (λ q. Inside t q c) e i in omega (arith, j.texts)

-- and so do the entries left in the batch
pub entry_room : (t : List ℕ) (p : Place) (c : Cursor) → Inside t p c → c.entry + 93 * c.left ≤ length t
entry_room t p c i = omega (arith, i.entries)
