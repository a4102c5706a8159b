-- What is left of the records, at each place of an accepted run, has the form that a view gives it.
-- Assumes nothing.
use mathlib.Core.Path.{◌≡◌, refl, sym, ap, ◌∙◌, subst}
use mathlib.Core.Bool.{Bool, true, false}
use mathlib.Core.List.{List, [], ◌∷◌, ◌++◌, append_assoc}
use Prim.Native.Nat.{ℕ, ◌+◌, ◌%◌, ◌≤◌}
use native.Mathlib.Nat.{le_of_eq, add_assoc}
use Rattle.std.proofs.Common.{rules}
use native.Mathlib.Omega.{arith}
use lib.Dec.{eqb, lit<, lit≤}
use lib.ListN.{length, drop, get_or, replicate, length-append, length-drop}
use lib.Seq.{take_all}
use Rattle.text.specs.Decimal.{pick, render, digits}
use Rattle.text.specs.Rows.{columns}
use Rattle.text.proofs.DecimalLaws.{every_take, every_drop, render_value}
use Rattle.text.proofs.RowLaws.{length_columns}
use Rattle.layout.specs.declared.Line.{Line}
use Rattle.layout.specs.Fields.{part, rows_of, file_header, batch_header, entry, addendum, batch_control, file_control}
use Rattle.check_across.specs.declared.Sums.{Sums}
use Rattle.check_across.specs.Across.{trace_number}
use Rattle.check_field.specs.Field.{total_limit}
use Rattle.check_order.specs.declared.Place.{Place}
use Rattle.check_order.specs.Order.{line_at, next_place, complete, takes_addendum}
use Rattle.check_sums.specs.Sums.{add_record, add_batch, add_entry, add_addendum, next_sums, next_header}
use Rattle.view.specs.View.{Entry, Batch, addendum_record, batch_record, batch_control_record, fillers_after, filler_record}
use Rattle.view.specs.Table.{addenda_due}
use Rattle.view.specs.Sized.{All, SizedEntry, SizedBatch}
use Rattle.view.specs.Keeps.{Right, EntriesKeep, BatchKeeps, BatchesKeep, Within}
use Rattle.view_laws.proofs.BridgeFields.{need_right, total_within}
use Rattle.view_laws.proofs.BridgeRecords.{right_at, typed, batch_control_by, file_control_by, batch_control_formed, file_control_formed, filler_formed, batch_formed, addendum_formed}
use Rattle.view_laws.proofs.BridgeSums.{entries_records, batches_records, fillers_more, batch_number_lem, batch_sums, control_same, after_entries, after_batch, after_batches}

-- the two totals in the sums of a batch, and over the file
pub record Limited (debit credit : ℕ) : Type 0 where
  pub debits : debit ≤ total_limit
  pub credits : credit ≤ total_limit

-- behind a batch, or before the first: batches, the file control, fillers
pub record BatchTail (s : Sums) (rs : List (List ℕ)) : Type 0 where
  pub bs : List Batch
  pub sized : All SizedBatch bs
  pub keeps : BatchesKeep s.number bs
  pub limited : Limited (after_batches s bs).debit (after_batches s bs).credit
  pub form : rs ≡ batches_records bs ++ (file_control_by (after_batches s bs) ∷ replicate (fillers_after ((after_batches s bs).records + 1)) filler_record)

-- in a batch with record 5 h: entries, the batch control, and what is behind the batch
pub record EntryTail (s : Sums) (h : List ℕ) (rs : List (List ℕ)) : Type 0 where
  pub es : List Entry
  pub rest : List (List ℕ)
  pub sized : All SizedEntry es
  pub keeps : EntriesKeep h s.batchrecords s.trace es
  pub limited : Limited (after_entries s es).batchdebit (after_entries s es).batchcredit
  pub form : rs ≡ entries_records es ++ (batch_control_by (after_entries s es) h ∷ rest)
  pub tail : BatchTail (add_record (after_entries s es)) rest

-- a record of its type that is right
pub record Next (type : ℕ) (rs : List (List ℕ)) (right : List ℕ → Type 0) : Type 0 where
  pub here : List ℕ
  pub rest : List (List ℕ)
  pub long : length here ≡ 94
  pub byte : get_or here 0 0 ≡ type
  pub isright : right here
  pub form : rs ≡ here ∷ rest

-- what is left, at each place
abbrev pub TailAt : Place → Sums → List ℕ → List (List ℕ) → Type 0
TailAt Place.Start s h rs = (n : Next 49 rs (Right file_header s h)) × (t : BatchTail (add_record s) n.rest) × (1 ≤ length t.bs)
TailAt Place.FileOpen s h rs = (t : BatchTail s rs) × (1 ≤ length t.bs)
TailAt Place.BatchOpen s h rs = (t : EntryTail s h rs) × (1 ≤ length t.es)
TailAt Place.AddendumDue s h rs = (n : Next 55 rs (Right addendum s h)) × EntryTail (add_addendum s) h n.rest
TailAt Place.EntryDone s h rs = EntryTail s h rs
TailAt Place.BatchDone s h rs = BatchTail s rs
TailAt Place.FileDone s h rs = rs ≡ replicate (fillers_after s.records) filler_record

-- ---- one record, put in front of what is left behind it

-- the last seven digits of a trace write its number
last_seven : (p : List ℕ) → length p ≡ 15 → digits p ≡ true → columns 9 15 p ≡ render 7 (trace_number p)
last_seven p l d =
    sym (render_value (columns 9 15 p) (every_take _ 7 (drop 8 p) (every_drop _ 8 p d)))
    ∙ ap (λ w. render w (trace_number p)) (length_columns 9 15 p (lit≤ tt) (omega arith))

-- record 6, with the addendum that is due behind it
entry_back_lem : (s : Sums) (h row : List ℕ) (rs : List (List ℕ)) → length row ≡ 93 → Right entry s h (54 ∷ row)
    → (b : Bool) → takes_addendum (54 ∷ row) ≡ b → TailAt (pick b Place.AddendumDue Place.EntryDone) (add_entry s (54 ∷ row)) h rs
    → TailAt Place.BatchOpen s h ((54 ∷ row) ∷ rs)
entry_back_lem s h row rs l g false e t =
    let due : ◌≡◌ {A = ℕ} 0 (addenda_due row) = rw e refl in (
      record {
        es = record { row = row; addenda = [] } ∷ t.es;
        rest = t.rest;
        sized = (record { long = l; texts = tt; due = due }, t.sized);
        keeps = (record { fields = g; due = due; addenda = tt }, t.keeps);
        limited = t.limited;
        form = ap (λ x. (54 ∷ row) ∷ x) t.form;
        tail = t.tail;
      },
      omega arith,
    )
entry_back_lem s h row rs l g true e t =
    let due : ◌≡◌ {A = ℕ} 1 (addenda_due row) = rw e refl in
    let n = t.0 in
    let text = columns 4 83 n.here in
    let one : Entry = record { row = row; addenda = text ∷ [] } in
    let wide : length (part entry 11 (54 ∷ row)) ≡ 15 = length_columns 80 94 (54 ∷ row) (lit≤ tt) (omega arith) in
    let trace = last_seven (part entry 11 (54 ∷ row)) wide (need_right _ _ _ (right_at entry s h (54 ∷ row) 10 (lit< tt) g)).0 in
    let same : n.here ≡ addendum_record one text = addendum_formed (add_entry s (54 ∷ row)) h n.here one n.long n.byte n.isright trace in (
      record {
        es = one ∷ t.1.es;
        rest = t.1.rest;
        sized = (record { long = l; texts = (length_columns 4 83 n.here (lit≤ tt) (omega (arith, n.long)), tt); due = due }, t.1.sized);
        keeps = (record { fields = g; due = due; addenda = (subst (Right addendum (add_entry s (54 ∷ row)) h) same n.isright, tt) }, rw (← add_assoc s.batchrecords 1 1) t.1.keeps);
        limited = t.1.limited;
        form = ap (λ x. (54 ∷ row) ∷ x) (n.form ∙ ap (λ x. x ∷ n.rest) same ∙ ap (λ x. addendum_record one text ∷ x) t.1.form);
        tail = t.1.tail;
      },
      omega arith,
    )

-- a whole batch in front of what is left behind it
batch_front : (s : Sums) (b : Batch) (rest : List (List ℕ)) → SizedBatch b → BatchKeeps s.number b → BatchTail (after_batch s b) rest
    → (t : BatchTail s (batch_record b ∷ (entries_records b.entries ++ (batch_control_record b ∷ rest)))) × (1 ≤ length t.bs)
batch_front s b rest l k t = (
  record {
    bs = b ∷ t.bs;
    sized = (l, t.sized);
    keeps = (k, subst (λ n. BatchesKeep n t.bs) (batch_number_lem s b) t.keeps);
    limited = t.limited;
    form =
        let es = entries_records b.entries in
        let c = batch_control_record b ∷ [] in
        rw t.form (ap (λ x. batch_record b ∷ x) (sym (append_assoc es c _) ∙ sym (append_assoc (es ++ c) (batches_records t.bs) _)));
  },
  omega arith,
)

-- record 5, as the view makes it
batch_inside : (s : Sums) (h row : List ℕ) (rs : List (List ℕ)) → length row ≡ 89 → Right batch_header s h (batch_record (record { row = row; entries = [] }))
    → TailAt Place.BatchOpen (add_batch s (batch_record (record { row = row; entries = [] }))) (batch_record (record { row = row; entries = [] })) rs
    → TailAt Place.FileOpen s h (batch_record (record { row = row; entries = [] }) ∷ rs)
batch_inside s h row rs l g t =
    let inside = t.0 in
    let one : Batch = record { row = row; entries = inside.es } in
    let sums = batch_sums s (batch_record one) inside.es in
    let within : Within inside.es = record { debit = rw (← sums.debit) inside.limited.debits; credit = rw (← sums.credit) inside.limited.credits } in
    let whole : entries_records inside.es ++ (batch_control_record one ∷ inside.rest) ≡ rs = ap (λ c. entries_records inside.es ++ (c ∷ inside.rest)) (sym (control_same s one)) ∙ sym inside.form in
    subst (λ y. TailAt Place.FileOpen s h (batch_record one ∷ y)) whole
    (batch_front s one inside.rest (record { long = l; each = inside.sized }) (record { fields = g; nonempty = t.1; entries = inside.keeps; within = within }) inside.tail)

-- record 5
batch_back : (s : Sums) (h r : List ℕ) (rs : List (List ℕ)) → length r ≡ 94 → get_or r 0 0 ≡ 53 → Right batch_header s h r
    → TailAt Place.BatchOpen (add_batch s r) (columns 1 94 r) rs → TailAt Place.FileOpen s h (r ∷ rs)
batch_back s h r rs l b g t =
    let row = columns 2 75 r ++ columns 80 94 r in
    let long : length row ≡ 89 = rw (length-append (columns 2 75 r) (columns 80 94 r), length_columns 2 75 r (lit≤ tt) (omega arith), length_columns 80 94 r (lit≤ tt) (omega arith)) refl in
    let same = batch_formed s h r [] l b g in
    let inside = subst (λ y. TailAt Place.BatchOpen (add_batch s r) y rs) (take_all 94 r (le_of_eq l)) t in
    subst (λ y. TailAt Place.FileOpen s h (y ∷ rs)) (sym same)
    (batch_inside s h row rs long (subst (Right batch_header s h) same g) (subst (λ y. TailAt Place.BatchOpen (add_batch s y) y rs) same inside))

-- record 8
batch_control_back : (s : Sums) (h r : List ℕ) (rs : List (List ℕ)) → length r ≡ 94 → get_or r 0 0 ≡ 56 → Right batch_control s h r
    → BatchTail (add_record s) rs → EntryTail s h (r ∷ rs)
batch_control_back s h r rs l b g t =
    record {
      es = [];
      rest = rs;
      sized = tt;
      keeps = tt;
      limited = record { debits = total_within _ _ (right_at batch_control s h r 4 (lit< tt) g); credits = total_within _ _ (right_at batch_control s h r 5 (lit< tt) g) };
      form = ap (λ x. x ∷ rs) (batch_control_formed s h r l b g);
      tail = t;
    }

-- record 9
file_control_back : (s : Sums) (h r : List ℕ) (rs : List (List ℕ)) → length r ≡ 94 → get_or r 0 0 ≡ 57 → Right file_control s h r
    → rs ≡ replicate (fillers_after (s.records + 1)) filler_record → BatchTail s (r ∷ rs)
file_control_back s h r rs l b g t =
    record {
      bs = [];
      sized = tt;
      keeps = tt;
      limited = record { debits = total_within _ _ (right_at file_control s h r 5 (lit< tt) g); credits = total_within _ _ (right_at file_control s h r 6 (lit< tt) g) };
      form = ap (λ x. x ∷ rs) (file_control_formed s h r l b g) ∙ ap (λ x. file_control_by s ∷ x) t;
    }

-- ---- any record

-- its line decides what is right of it, and what is left behind it
abbrev Behind : Place → Line → Sums → List ℕ → List ℕ → List (List ℕ) → Type 0
Behind p line s h r rs = Right (rows_of line) s h r → TailAt (next_place p line r) (next_sums s line r) (next_header h line r) rs → TailAt p s h (r ∷ rs)

entry_any : (s : Sums) (h r : List ℕ) (rs : List (List ℕ)) → length r ≡ 94 → get_or r 0 0 ≡ 54 → Behind Place.BatchOpen Line.Entry s h r rs
entry_any s h r rs l b g t =
    let same = typed 54 r (omega arith) b in
    subst (λ y. TailAt Place.BatchOpen s h (y ∷ rs)) (sym same)
    (entry_back_lem s h (drop 1 r) rs (rw length-drop (omega arith)) (subst (Right entry s h) same g) (takes_addendum (54 ∷ drop 1 r)) refl
    (subst (λ y. TailAt (pick (takes_addendum y) Place.AddendumDue Place.EntryDone) (add_entry s y) h rs) same t))

abbrev next_back : (type : ℕ) (r : List ℕ) (rs : List (List ℕ)) (right : List ℕ → Type 0) → length r ≡ 94 → get_or r 0 0 ≡ type → right r → Next type (r ∷ rs) right
next_back type r rs right l b g = record { here = r; rest = rs; long = l; byte = b; isright = g; form = refl }

-- by the record's first byte
tested : (P : Line → Type 0) (a b : ℕ) (yes-line no_line : Line) → (a ≡ b → P yes-line) → (eqb a b ≡ false → P no_line) → P (pick (eqb a b) yes-line no_line)
tested P a b yes-line no_line f g = search rules

-- a right record at any place, in front of what is left behind it
pub back : (p : Place) (s : Sums) (h r : List ℕ) (rs : List (List ℕ)) → length r ≡ 94 → Behind p (line_at p s.records (get_or r 0 0)) s h r rs
back Place.Start s h r rs l =
    tested (λ line. Behind Place.Start line s h r rs) (get_or r 0 0) 49 _ _ (λ e g t. (next_back 49 r rs _ l e g, t.0, t.1)) (λ d g t. cc)
back Place.FileOpen s h r rs l =
    tested (λ line. Behind Place.FileOpen line s h r rs) (get_or r 0 0) 53 _ _ (batch_back s h r rs l) (λ d g t. cc)
back Place.BatchOpen s h r rs l =
    tested (λ line. Behind Place.BatchOpen line s h r rs) (get_or r 0 0) 54 _ _ (entry_any s h r rs l) (λ d g t. cc)
back Place.AddendumDue s h r rs l =
    tested (λ line. Behind Place.AddendumDue line s h r rs) (get_or r 0 0) 55 _ _ (λ e g t. (next_back 55 r rs _ l e g, t)) (λ d g t. cc)
back Place.EntryDone s h r rs l =
    let P : Line → Type 0 = λ line. Behind Place.EntryDone line s h r rs in
    tested P (get_or r 0 0) 54 _ _ (λ e g t. (entry_any s h r rs l e g t).0)
    (λ n. tested P (get_or r 0 0) 56 _ _ (batch_control_back s h r rs l) (λ d g t. cc))
back Place.BatchDone s h r rs l =
    let P : Line → Type 0 = λ line. Behind Place.BatchDone line s h r rs in
    tested P (get_or r 0 0) 53 _ _ (λ e g t. (batch_back s h r rs l e g t).0)
    (λ n. tested P (get_or r 0 0) 57 _ _ (file_control_back s h r rs l) (λ d g t. cc))
back Place.FileDone s h r rs l =
    tested (λ line. Behind Place.FileDone line s h r rs) (s.records % 10) 0 _ _ (λ e g t. cc)
    (λ d g t. rw (fillers_more s.records d, ← t) (ap (λ x. x ∷ rs) (filler_formed s h r l g)))

-- and where there is no record left
pub ended : (p : Place) (s : Sums) (h : List ℕ) → complete p s.records ≡ true → TailAt p s h []
ended p s h e = search rules
