-- What the file that is formed of a table can be refused for: nothing that forming it makes right.
-- Assumes the table's shape.
use Rattle.std.specs.Prelude.{Ok, Err}
use mathlib.Core.Path.{◌≡◌, refl, sym, subst}
use mathlib.Core.Bool.{Bool, true, false, ◌&&◌, ◌||◌}
use mathlib.Core.List.{List, [], ◌∷◌, ◌++◌}
use Prim.Native.Nat.{ℕ, ◌+◌, ◌^◌, ◌≤◌, ◌<◌}
use Rattle.std.proofs.Common.{rules}
use native.Mathlib.Omega.{arith}
use lib.Dec.{eqb, leb, lit<}
use lib.ListN.{length, take, drop}
use borrow.Author.Tests.{leb-true, leb-false, eq-eqb}
use Rattle.text.specs.Decimal.{pick, every, render}
use Rattle.text.specs.Rows.{columns}
use Rattle.text.specs.Widths.{AllLong}
use Rattle.text.proofs.DecimalLaws.{and_both, digits_render, value_render_lt}
use Rattle.layout.specs.declared.Fault.{Fault}
use Rattle.layout.specs.Answers.{Answer, Checked}
use Rattle.layout.specs.declared.Refusal.{Refusal}
use Rattle.layout.specs.declared.Kind.{Kind}
use Rattle.layout.specs.declared.Own.{Own}
use Rattle.layout.specs.declared.Near.{Near}
use Rattle.layout.specs.declared.Row.{Row}
use Rattle.layout.specs.declared.Line.{Line}
use Rattle.layout.specs.Paper.{number_of}
use Rattle.layout.specs.Fields.{rows_of, first_field, file_header, batch_header, entry, addendum, batch_control, file_control}
use Rattle.check_alone.specs.Mark.{Mark}
use Rattle.check_alone.specs.Kinds.{need, fixed}
use Rattle.check_alone.specs.Own.{destination, own_rule}
use Rattle.check_across.specs.declared.Sums.{Sums}
use Rattle.check_across.specs.Across.{near_rule}
use Rattle.check_field.specs.Field.{field_of, kind_rule, total_rule, total_limit}
use Rattle.check_sums.specs.declared.State.{State}
use Rattle.check_record.specs.Verdict.{Verdict}
use Rattle.check_sums.specs.Sums.{start, no_sums, add_record, add_batch, add_entry, tally}
use Rattle.check_record.specs.Record.{found, fields_from, line_of, most_records, checked_of}
use Rattle.view.specs.View.{Entry, Batch, View, file_record, batch_record, entry_record, addendum_record, batch_control_record, file_control_record, records_of, records_in, sum_over, file_of}
use Rattle.view.specs.Table.{shaped, formed, view_of_table}
use Rattle.view.specs.Sized.{All, SizedEntry, SizedBatch, Sized}
use Rattle.view_laws.proofs.Lists.{all_append, sum_append}
use Rattle.view_laws.proofs.Tables.{entries_in, shaped_sized}
use Rattle.view_laws.proofs.Reading.{records_long}
use Rattle.view_laws.proofs.Formed.{file_fields, batch_fields, addendum_fields}
use Rattle.view_laws.proofs.BridgeSums.{after_entry, after_batch, after_body, records_length, body_length}
use Rattle.view_laws.proofs.BridgeControls.{total_right, control_marks, file_control_marks}
use Rattle.view_laws.proofs.BridgeWalk.{carry, run_line, EntriesOk, BatchesOk, Some, file_walk}
use Rattle.view_laws.proofs.Bridge.{checked_joined, checked_many}
use Rattle.layout.specs.declared.Way.{Way}
use Rattle.view_laws.proofs.Ways.{bare_run}

-- the paper's numbers that such a file can be refused with: 1, 3, 6 to 17, 20 and 28, and 5 for the blank that record 1, field 3 begins with
abbrev pub anywhere : ℕ → Bool
anywhere number = eqb number 1 || eqb number 3 || (leb 6 number && leb number 17) || eqb number 20 || eqb number 28

-- the number, at record n and field k
abbrev pub of_table : ℕ → ℕ → ℕ → Bool
of_table number n k = anywhere number || (eqb number 5 && eqb n 1 && eqb k 3)

-- granted, or refused so
abbrev fine : Answer → Bool
fine (Ok _) = true
fine (Err x) = of_table (number_of x.fault) x.record.0 x.field

-- ---- a record's fields

abbrev fine_mark : ℕ → ℕ → Mark → Bool
fine_mark n k (Ok _) = true
fine_mark n k (Err fault) = of_table (number_of fault) n k

abbrev fine_verdict : ℕ → Verdict → Bool
fine_verdict n (Ok _) = true
fine_verdict n (Err wrong) = of_table (number_of wrong.fault) n wrong.field

-- at whatever record and field
record Free (m : Mark) : Type 0 where
  at : (n k : ℕ) → fine_mark n k m ≡ true

right_free : Free (Ok tt)
right_free = record { at = λ n k. refl }

-- the first field that is wrong is refused so
found_fine : (n k : ℕ) (m : Mark) (rest : Verdict) → fine_mark n k m ≡ true → fine_verdict n rest ≡ true → fine_verdict n (found m k rest) ≡ true
found_fine n k m rest e g = search rules

fields_fine : (n k : ℕ) (rows : List Row) (s : Sums) (h r : List ℕ) → All (λ row. Free (field_of s h r row)) rows → fine_verdict n (fields_from k rows s h r) ≡ true
unfolding fields_from
fields_fine n k [] s h r a = refl
fields_fine n k (row ∷ rows) s h r a = found_fine n k (field_of s h r row) _ (a.0.at n k) (fields_fine n (k + 1) rows s h r a.1)

-- a test with such a number, and the tests after it
need_free : (b : Bool) (fault : Fault) (rest : Mark) → anywhere (number_of fault) ≡ true → Free rest → Free (need b fault rest)
need_free b fault rest e g = search rules

pick_free : (b : Bool) (rest : Mark) → Free rest → Free (pick b (Ok tt) rest)
pick_free b rest g = search rules

-- the kinds whose faults a row of the table can have
abbrev free_own : Own → Bool
free_own Own.Destination = false
free_own _ = true

abbrev free_kind : Kind → Bool
free_kind Kind.Type = true
free_kind Kind.Misplaced = true
free_kind Kind.Digits = true
free_kind Kind.Optional = true
free_kind Kind.Mandatory = true
free_kind Kind.Date = true
free_kind (Kind.Own o) = free_own o
free_kind (Kind.Near n) = true
free_kind _ = false

own_free : (o : Own) (p : List ℕ) → free_own o ≡ true → Free (own_rule o p)
own_free Own.Destination p d = cc
own_free Own.Time p d = search (pick_free, need_free, right_free)
own_free _ p d = search (need_free, right_free)

near_free : (s : Sums) (h r : List ℕ) (m : Near) (p : List ℕ) → Free (near_rule s h r m p)
near_free s h r Near.Code p = search (need_free, right_free)
near_free s h r _ p = search (need_free, right_free)

kind_free : (s : Sums) (h r : List ℕ) (m : Kind) (p : List ℕ) → free_kind m ≡ true → Free (kind_rule s h r m p)
kind_free s h r Kind.Type p d = record { at = λ n k. refl }
kind_free s h r Kind.Misplaced p d = record { at = λ n k. refl }
kind_free s h r Kind.Digits p d = search (need_free, right_free)
kind_free s h r Kind.Optional p d = search (need_free, right_free)
kind_free s h r Kind.Mandatory p d = search (need_free, right_free)
kind_free s h r Kind.Date p d = search (need_free, right_free)
kind_free s h r (Kind.Own o) p d = own_free o p d
kind_free s h r (Kind.Near m) p d = near_free s h r m p
kind_free s h r _ p d = cc

abbrev all_free : List Row → Bool
all_free [] = true
all_free (row ∷ rows) = free_kind row.kind && all_free rows

rows_free : (s : Sums) (h r : List ℕ) (rows : List Row) → all_free rows ≡ true → All (λ row. Free (field_of s h r row)) rows
rows_free s h r [] d = tt
rows_free s h r (row ∷ rows) d =
    let both = and_both (free_kind row.kind) (all_free rows) d in
    (kind_free s h r row.kind _ both.0, rows_free s h r rows both.1)

free_append : (s : Sums) (h r : List ℕ) (xs ys : List Row) → All (λ row. Free (field_of s h r row)) xs → All (λ row. Free (field_of s h r row)) ys
    → All (λ row. Free (field_of s h r row)) (xs ++ ys)
free_append s h r xs ys a b = all_append (λ row. Free (field_of s h r row)) xs ys a b

-- ---- each record of a view

-- its fields pass, or are refused so
abbrev Fine : Line → Sums → List ℕ → List ℕ → Type 0
Fine line s h r = fine_verdict (s.records + 1) (fields_from (first_field line) (rows_of line) s h r) ≡ true

fixed_right : (n w : ℕ) (p : List ℕ) → n < 10 ^ w → p ≡ render w n → fixed n p ≡ Ok tt
fixed_right n w p l e = rw (e, digits_render w n, value_render_lt w n l, eq-eqb n n refl)

free : (m : Mark) → m ≡ Ok tt → Free m
free m e = subst Free (sym e) right_free

-- "a blank (5), nine digits (6), check digit (12)": the blank is the one 5, at record 1, field 3
destination_fine : (p : List ℕ) → fine_mark 1 3 (destination p) ≡ true
destination_fine p = search rules

-- records 1, 5, 6 and 7
file_fine : (v : View) → length v.row ≡ 85 → Fine Line.FileHeader no_sums start.header (file_record v)
unfolding fields_from
file_fine v l =
    let f = file_fields v l in
    let r = file_record v in
    let h = start.header in
    let three = drop 3 file_header in
    let some = rows_free no_sums h r in
    found_fine 1 2 (fixed 1 (columns 2 3 r)) (fields_from 3 (drop 2 file_header) no_sums h r) ((free _ (fixed_right 1 2 _ (lit< tt) f.priority)).at 1 2)
    (found_fine 1 3 (destination (columns 4 13 r)) (fields_from 4 three no_sums h r) (destination_fine (columns 4 13 r))
    (fields_fine 1 4 three no_sums h r
    (free_append no_sums h r (take 4 three) (drop 4 three) (some (take 4 three) refl) (
      free _ (fixed_right 94 3 _ (lit< tt) f.size),
      (
        free _ (fixed_right 10 2 _ (lit< tt) f.blocking),
        (free _ (fixed_right 1 1 _ (lit< tt) f.format), some (drop 7 three) refl),
      ),
    ))))

batch_fine : (s : Sums) (h : List ℕ) (b : Batch) → length b.row ≡ 89 → Fine Line.BatchHeader s h (batch_record b)
unfolding every
batch_fine s h b l =
    let f = batch_fields b l in
    let r = batch_record b in
    let some = rows_free s h r in
    fields_fine (s.records + 1) 1 batch_header s h r
    (free_append s h r (take 9 batch_header) (drop 9 batch_header) (some (take 9 batch_header) refl) (
      rw f.settlement right_free,
      (free _ (fixed_right 1 1 _ (lit< tt) f.status), some (drop 11 batch_header) refl),
    ))

entry_fine : (s : Sums) (h : List ℕ) (e : Entry) → Fine Line.Entry s h (entry_record e)
entry_fine s h e = fields_fine (s.records + 1) 1 entry s h (entry_record e) (rows_free s h (entry_record e) entry refl)

addendum_fine : (s : Sums) (h : List ℕ) (e : Entry) (text : List ℕ) → length e.row ≡ 93 → length text ≡ 80 → Fine Line.Addendum s h (addendum_record e text)
addendum_fine s h e text l m =
    let f = addendum_fields e text l m in
    let r = addendum_record e text in
    fields_fine (s.records + 1) 1 addendum s h r
    (right_free, (free _ (fixed_right 5 2 _ (lit< tt) f.code), (kind_free s h r Kind.Optional _ refl, (free _ (fixed_right 1 4 _ (lit< tt) f.sequence), (kind_free s h r (Kind.Near Near.EntryTrace) _ refl, tt)))))

-- a total is right, or above the limit
total_free : (n : ℕ) → Free (total_rule n (render 12 n))
total_free n = go (leb n total_limit) refl
  where
    go : (b : Bool) → leb n total_limit ≡ b → Free (total_rule n (render 12 n))
    go true e = free _ (total_right n (leb-true n total_limit e))
    go false e = rw (digits_render 12 n, e) (record { at = λ m k. refl })

-- the records of entries and of batches
addenda_fine : (s : Sums) (h : List ℕ) (e : Entry) → length e.row ≡ 93 → (texts : List (List ℕ)) → AllLong 80 texts → All (λ text. Fine Line.Addendum s h (addendum_record e text)) texts
addenda_fine s h e l [] m = tt
addenda_fine s h e l (text ∷ texts) m = (addendum_fine s h e text l m.0, addenda_fine s h e l texts m.1)

entries_fine : (s : Sums) (h : List ℕ) (es : List Entry) → All SizedEntry es → EntriesOk Fine s h es
entries_fine s h [] l = tt
entries_fine s h (e ∷ es) l =
    (entry_fine s h e, addenda_fine (add_entry s (entry_record e)) h e l.0.long e.addenda l.0.texts, entries_fine (after_entry s e) h es l.1)

batches_fine : (s : Sums) (bs : List Batch) → All SizedBatch bs → sum_over records_in (entries_in bs) < 10 ^ 6 → BatchesOk Fine s bs
batches_fine s [] l n = tt
batches_fine s (b ∷ bs) l n =
    let all = sum_append records_in b.entries (entries_in bs) in (
      record {
        header = λ h. batch_fine s h b l.0.long;
        entries = entries_fine (add_batch s (batch_record b)) (batch_record b) b.entries l.0.each;
        control = fields_fine _ 1 batch_control _ (batch_record b) (batch_control_record b) (control_marks Free right_free s b l.0.long (omega arith) (total_free _) (total_free _));
      },
      batches_fine (after_batch s b) bs l.1 (omega arith),
    )

-- ---- the run, and the file

abbrev FineRun : Checked → Type 0
FineRun c = fine c.answer ≡ true

carry_fine : (v : Verdict) (next st : State) (rs : List (List ℕ)) → fine_verdict (st.sums.records + 1) v ≡ true → FineRun (bare_run next rs) → FineRun (carry v next st rs)
carry_fine v next st rs e p = search rules

-- a record that may not stand there: an empty batch, or a file with no batch
stop_fine : (st : State) (r : List ℕ) (rs : List (List ℕ)) → line_of st r ≡ Line.Other → FineRun (bare_run st (r ∷ rs))
unfolding fields_from
stop_fine st r rs e = rw (run_line st Line.Other r rs e) refl

-- a batch may be empty, and so may the file
any : {A : Type 0} (xs : List A) → Some (Unit {0}) xs
any xs = search rules

all_any : (bs : List Batch) → All (λ b. Some (Unit {0}) b.entries) bs
all_any [] = tt
all_any (b ∷ bs) = (any b.entries, all_any bs)

-- the records of a view
records_fine : (v : View) → Sized v → length (records_of v) ≤ most_records → FineRun (bare_run start (records_of v))
records_fine v l m =
    let all = records_length v in
    let body = body_length v in
    file_walk FineRun Fine (Unit {0}) (λ st line r rs e g p. rw (run_line st line r rs e) (carry_fine (fields_from (first_field line) (rows_of line) st.sums st.header r) (tally st line r) st rs g p)) (λ n. stop_fine) v l
    (any v.batches) (all_any v.batches)
    (record {
      header = file_fine v l.long;
      batches = batches_fine (add_record no_sums) v.batches l.each (omega arith);
      control = λ h. fields_fine _ 1 file_control (after_body v) h (file_control_record v) (file_control_marks Free right_free v h m (total_free _) (total_free _));
    })
    refl

-- too many records are refused 1
view_fine : (way : Way) (v : View) → Sized v → FineRun (checked_of way (file_of way v))
view_fine way v l = go (leb (length (records_of v)) most_records) refl
  where
    some : 1 ≤ length (records_of v)
    some = let all = records_length v in omega arith

    go : (b : Bool) → leb (length (records_of v)) most_records ≡ b → FineRun (checked_of way (file_of way v))
    go true e =
        let m = leb-true (length (records_of v)) most_records e in
        rw (checked_joined way (records_of v) (records_long v l) some m) (records_fine v l m)
    go false e =
        let m = leb-false (length (records_of v)) most_records e in
        rw (checked_many way (records_of v) (records_long v l) m) refl

-- a view of right sizes: its file is granted, or refused with one of these numbers
pub view_refusals : (way : Way) (v : View) → Sized v → (x : Refusal) → (checked_of way (file_of way v)).answer ≡ Err x
    → of_table (number_of x.fault) x.record.0 x.field ≡ true
view_refusals way v l x e = rw e at (view_fine way v l)

-- so is the file that is formed of a table of right shape
pub table_refusals : (way : Way) (t : List ℕ) → shaped t ≡ true → (x : Refusal) → (checked_of way (formed way t)).answer ≡ Err x
    → of_table (number_of x.fault) x.record.0 x.field ≡ true
table_refusals way t h = view_refusals way (view_of_table t) (shaped_sized t h)

-- never with 2, 4, 18, 19, 21, 22, 23, 24 or 25, nor with 5 at another field
pub of_table_never : (n k : ℕ) → All (λ number. of_table number n k ≡ false) (2 ∷ 4 ∷ 18 ∷ 19 ∷ 21 ∷ 22 ∷ 23 ∷ 24 ∷ 25 ∷ []) × (of_table 5 n k ≡ eqb n 1 && eqb k 3)
of_table_never n k = ((refl, (refl, (refl, (refl, (refl, (refl, (refl, (refl, (refl, tt))))))))), refl)
