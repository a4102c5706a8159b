-- The records of the formed file one by one: the next record by the table, a cursor into it, and the state that the records so far left.
use Rattle.std.specs.Prelude.{ℕ, ◌+◌, ◌-◌, ◌*◌, ◌≤◌, ◌≡◌, List, ltb, length, take, drop}
use Rattle.text.specs.Decimal.{pick}
use Rattle.text.specs.Rows.{rows}
use Rattle.check_across.specs.declared.Sums.{Sums}
use Rattle.check_order.specs.declared.Place.{Place}
use Rattle.check_sums.specs.declared.State.{State}
use Rattle.view.specs.View.{filler_record, sum_over}
use Rattle.view.specs.Table.{count_wide, file_wide, batch_wide, entry_wide, addendum_wide, count_of, batch_part, entry_part, addenda_due, entries_due}
use Rattle.table_form.specs.Forms.{file_from, batch_from, entry_from, addendum_from, batch_control_from, file_control_from}
use Rattle.table_form.specs.WorkSections.{count_at}
use Rattle.table_form.specs.declared.walking.Cursor.{Cursor}

-- ---- what a cursor stands before

abbrev pub batch_rows : List ℕ → Cursor → List (List ℕ)
batch_rows t c = rows batch_wide c.batches (drop c.batch t)

-- the entries left in this batch, and those of the batches behind it
abbrev pub entries_ahead : List ℕ → Cursor → ℕ
entries_ahead t c = c.left + sum_over entries_due (batch_rows t c)

abbrev pub entry_rows : List ℕ → Cursor → List (List ℕ)
entry_rows t c = rows entry_wide (entries_ahead t c) (drop c.entry t)

abbrev pub texts_ahead : List ℕ → Cursor → ℕ
texts_ahead t c = sum_over addenda_due (entry_rows t c)

-- the addendum of the last entry, where it is still due
abbrev pub owed : Place → ℕ
owed Place.Start = 0
owed Place.FileOpen = 0
owed Place.BatchOpen = 0
owed Place.AddendumDue = 1
owed Place.EntryDone = 0
owed Place.BatchDone = 0
owed Place.FileDone = 0

-- no entry is left in a batch, where the next record stands in none
abbrev pub idle : Place → ℕ
idle Place.Start = 1
idle Place.FileOpen = 1
idle Place.BatchOpen = 0
idle Place.AddendumDue = 0
idle Place.EntryDone = 0
idle Place.BatchDone = 1
idle Place.FileDone = 0

-- every row that a cursor stands before lies in the table
pub record Inside (t : List ℕ) (p : Place) (c : Cursor) : Type 0 where
  pub whole : 109 ≤ length t
  pub batches : c.batch + 95 * c.batches ≤ length t
  pub entries : c.entry + 93 * entries_ahead t c ≤ length t
  pub texts : c.text + 80 * (owed p + texts_ahead t c) ≤ length t
  pub last : c.last + 93 ≤ length t
  pub none : idle p * c.left ≡ 0

-- ---- the records

-- the rows and the text at the cursor
abbrev pub batch_at : List ℕ → Cursor → List ℕ
batch_at t c = take batch_wide (drop c.batch t)

abbrev pub entry_at : List ℕ → Cursor → List ℕ
entry_at t c = take entry_wide (drop c.entry t)

abbrev pub last_at : List ℕ → Cursor → List ℕ
last_at t c = take entry_wide (drop c.last t)

abbrev pub text_at : List ℕ → Cursor → List ℕ
text_at t c = take addendum_wide (drop c.text t)

-- a batch's record 5, or behind the last batch the record 9
abbrev pub batch_next : List ℕ → Cursor → Sums → List ℕ
batch_next t c s = pick (ltb 0 c.batches) (batch_from (batch_at t c)) (file_control_from s)

-- an entry's record 6, or behind the last entry of the batch the record 8
abbrev pub entry_next : List ℕ → Cursor → Sums → List ℕ → List ℕ
entry_next t c s h = pick (ltb 0 c.left) (entry_from (entry_at t c)) (batch_control_from s h)

abbrev pub form_at : List ℕ → Cursor → Place → Sums → List ℕ → List ℕ
form_at t c Place.Start s h = file_from (take file_wide (drop count_wide t))
form_at t c Place.FileOpen s h = batch_next t c s
form_at t c Place.BatchOpen s h = entry_next t c s h
form_at t c Place.AddendumDue s h = addendum_from (last_at t c) (text_at t c)
form_at t c Place.EntryDone s h = entry_next t c s h
form_at t c Place.BatchDone s h = batch_next t c s
form_at t c Place.FileDone s h = filler_record

-- the next record
abbrev pub form_of : List ℕ → Cursor → State → List ℕ
form_of t c st = form_at t c st.place st.sums st.header

-- ---- the cursor behind that record

abbrev pub past_batch : List ℕ → Cursor → Cursor
past_batch t c =
    pick (ltb 0 c.batches)
    (record {
      batches = c.batches - 1;
      batch = c.batch + 95;
      left = count_at t (c.batch + 89);
      entry = c.entry;
      last = c.last;
      text = c.text;
    })
    c

abbrev pub past_entry : Cursor → Cursor
past_entry c =
    pick (ltb 0 c.left)
    (record {
      batches = c.batches;
      batch = c.batch;
      left = c.left - 1;
      entry = c.entry + 93;
      last = c.entry;
      text = c.text;
    })
    c

abbrev pub past_text : Cursor → Cursor
past_text c =
    record { batches = c.batches; batch = c.batch; left = c.left; entry = c.entry; last = c.last; text = c.text + 80 }

abbrev pub past_of : List ℕ → Cursor → Place → Cursor
past_of t c Place.Start = c
past_of t c Place.FileOpen = past_batch t c
past_of t c Place.BatchOpen = past_entry c
past_of t c Place.AddendumDue = past_text c
past_of t c Place.EntryDone = past_entry c
past_of t c Place.BatchDone = past_batch t c
past_of t c Place.FileDone = c

-- the cursor before the first record
abbrev pub first_of : List ℕ → Cursor
first_of t =
    record {
      batches = count_of (batch_part t);
      batch = 97;
      left = 0;
      entry = 103 + 95 * count_of (batch_part t);
      last = 0;
      text = 109 + 95 * count_of (batch_part t) + 93 * count_of (entry_part t);
    }
