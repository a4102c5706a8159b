-- The records that a file is formed of: 94 bytes each, their first byte, and what stands in their fields.
-- Assumes that the rows and texts have their sizes.
use mathlib.Core.Path.{◌≡◌, refl, sym, ap, ◌∙◌}
use mathlib.Core.List.{List, [], ◌∷◌}
use Prim.Native.Nat.{ℕ, suc, ◌+◌, ◌<◌}
use native.Mathlib.Nat.{le_of_eq}
use native.Mathlib.Omega.{arith}
use lib.Dec.{lit<}
use lib.ListN.{length, take, drop, get_or, length-take, length-drop}
use lib.Seq.{take_all}
use Rattle.text.specs.Decimal.{render}
use Rattle.text.specs.Rows.{columns, joined}
use Rattle.text.specs.Widths.{Wide, total}
use Rattle.text.proofs.DecimalLaws.{length_render}
use Rattle.text.proofs.RowLaws.{length_wide, cut_joined, get_d_cut}
use Rattle.layout.specs.Fields.{part, file_header, batch_header, entry, addendum, batch_control, file_control}
use Rattle.check_field.specs.Field.{blocks, hash_of}
use Rattle.view.specs.View.{Entry, Batch, View, sum_over, records_in, bank_of, debit_of, credit_of, entries_of, body_of, blanks, file_record, batch_record, entry_record, addendum_record, batch_control_record, file_control_record, filler_record}

-- the field j of joined fields, by their widths
field : (ws : List ℕ) (fs : List (List ℕ)) → Wide ws fs → (j : ℕ) → j < length ws
    → take (get_or ws j 0) (drop (total (take j ws)) (joined fs)) ≡ get_or fs j []
field ws fs h j k = sym (get_d_cut ws (joined fs) j k) ∙ ap (λ l. get_or l j []) (cut_joined ws fs h)

-- the first byte is the record's type
typed : (b : ℕ) (fs : List (List ℕ)) → get_or (joined ((b ∷ []) ∷ fs)) 0 0 ≡ b
unfolding joined
typed b fs = refl

-- record 1
pub record FileFields (v : View) : Type 0 where
  pub long : length (file_record v) ≡ 94
  pub type : get_or (file_record v) 0 0 ≡ 49
  pub priority : part file_header 2 (file_record v) ≡ render 2 1
  pub front : columns 4 34 (file_record v) ≡ take 31 v.row
  pub size : part file_header 8 (file_record v) ≡ render 3 94
  pub blocking : part file_header 9 (file_record v) ≡ render 2 10
  pub format : part file_header 10 (file_record v) ≡ render 1 1
  pub back : columns 41 94 (file_record v) ≡ drop 31 v.row

pub file_fields : (v : View) → length v.row ≡ 85 → FileFields v
file_fields v h =
    let ws : List ℕ = 1 ∷ 2 ∷ 31 ∷ 3 ∷ 2 ∷ 1 ∷ 54 ∷ [] in
    let fs : List (List ℕ) = (49 ∷ []) ∷ render 2 1 ∷ take 31 v.row ∷ render 3 94 ∷ render 2 10 ∷ render 1 1 ∷ drop 31 v.row ∷ [] in
    let wide : Wide ws fs = simp (length_render, length-take, length-drop, h) (omega arith) in
    let at = field ws fs wide in
    record {
      long = length_wide ws fs wide;
      type = typed 49 (drop 1 fs);
      priority = at 1 (lit< tt);
      front = at 2 (lit< tt);
      size = at 3 (lit< tt);
      blocking = at 4 (lit< tt);
      format = at 5 (lit< tt);
      back = at 6 (lit< tt);
    }

-- record 5
pub record BatchFields (b : Batch) : Type 0 where
  pub long : length (batch_record b) ≡ 94
  pub type : get_or (batch_record b) 0 0 ≡ 53
  pub front : columns 2 75 (batch_record b) ≡ take 74 b.row
  pub settlement : part batch_header 10 (batch_record b) ≡ blanks batch_header 10
  pub status : part batch_header 11 (batch_record b) ≡ render 1 1
  pub back : columns 80 94 (batch_record b) ≡ drop 74 b.row

pub batch_fields : (b : Batch) → length b.row ≡ 89 → BatchFields b
batch_fields b h =
    let ws : List ℕ = 1 ∷ 74 ∷ 3 ∷ 1 ∷ 15 ∷ [] in
    let fs : List (List ℕ) = (53 ∷ []) ∷ take 74 b.row ∷ blanks batch_header 10 ∷ render 1 1 ∷ drop 74 b.row ∷ [] in
    let wide : Wide ws fs = simp (length_render, length-take, length-drop, h) (omega arith) in
    let at = field ws fs wide in
    record {
      long = length_wide ws fs wide;
      type = typed 53 (drop 1 fs);
      front = at 1 (lit< tt);
      settlement = at 2 (lit< tt);
      status = at 3 (lit< tt);
      back = at 4 (lit< tt);
    }

-- record 6
pub record EntryFields (e : Entry) : Type 0 where
  pub long : length (entry_record e) ≡ 94
  pub type : get_or (entry_record e) 0 0 ≡ 54
  pub whole : columns 2 94 (entry_record e) ≡ e.row

pub entry_fields : (e : Entry) → length e.row ≡ 93 → EntryFields e
entry_fields e h = record { long = ap suc h; type = refl; whole = take_all 93 e.row (le_of_eq h) }

-- record 7
pub record AddendumFields (e : Entry) (text : List ℕ) : Type 0 where
  pub long : length (addendum_record e text) ≡ 94
  pub type : get_or (addendum_record e text) 0 0 ≡ 55
  pub code : part addendum 2 (addendum_record e text) ≡ render 2 5
  pub whole : part addendum 3 (addendum_record e text) ≡ text
  pub sequence : part addendum 4 (addendum_record e text) ≡ render 4 1
  pub trace : part addendum 5 (addendum_record e text) ≡ columns 9 15 (part entry 11 (entry_record e))

pub addendum_fields : (e : Entry) (text : List ℕ) → length e.row ≡ 93 → length text ≡ 80 → AddendumFields e text
addendum_fields e text h k =
    let ws : List ℕ = 1 ∷ 2 ∷ 80 ∷ 4 ∷ 7 ∷ [] in
    let fs : List (List ℕ) = (55 ∷ []) ∷ render 2 5 ∷ text ∷ render 4 1 ∷ columns 9 15 (part entry 11 (entry_record e)) ∷ [] in
    let wide : Wide ws fs = simp (length_render, k, length-take, length-drop, h) (omega arith) in
    let at = field ws fs wide in
    record {
      long = length_wide ws fs wide;
      type = typed 55 (drop 1 fs);
      code = at 1 (lit< tt);
      whole = at 2 (lit< tt);
      sequence = at 3 (lit< tt);
      trace = at 4 (lit< tt);
    }

-- record 8
pub record BatchControlFields (b : Batch) : Type 0 where
  pub long : length (batch_control_record b) ≡ 94
  pub type : get_or (batch_control_record b) 0 0 ≡ 56
  pub class : part batch_control 2 (batch_control_record b) ≡ part batch_header 2 (batch_record b)
  pub count : part batch_control 3 (batch_control_record b) ≡ render 6 (sum_over records_in b.entries)
  pub hash : part batch_control 4 (batch_control_record b) ≡ render 10 (hash_of (sum_over bank_of b.entries))
  pub debit : part batch_control 5 (batch_control_record b) ≡ render 12 (sum_over debit_of b.entries)
  pub credit : part batch_control 6 (batch_control_record b) ≡ render 12 (sum_over credit_of b.entries)
  pub company : part batch_control 7 (batch_control_record b) ≡ part batch_header 5 (batch_record b)
  pub code : part batch_control 8 (batch_control_record b) ≡ blanks batch_control 8
  pub reserved : part batch_control 9 (batch_control_record b) ≡ blanks batch_control 9
  pub bank : part batch_control 10 (batch_control_record b) ≡ part batch_header 12 (batch_record b)
  pub number : part batch_control 11 (batch_control_record b) ≡ part batch_header 13 (batch_record b)

-- its fields' widths and texts
abbrev pub batch_control_widths : List ℕ
batch_control_widths = 1 ∷ 3 ∷ 6 ∷ 10 ∷ 12 ∷ 12 ∷ 10 ∷ 19 ∷ 6 ∷ 8 ∷ 7 ∷ []

abbrev pub batch_control_texts : Batch → List (List ℕ)
batch_control_texts b =
    (56 ∷ []) ∷ part batch_header 2 (batch_record b) ∷ render 6 (sum_over records_in b.entries)
    ∷ render 10 (hash_of (sum_over bank_of b.entries))
    ∷ render 12 (sum_over debit_of b.entries) ∷ render 12 (sum_over credit_of b.entries)
    ∷ part batch_header 5 (batch_record b) ∷ blanks batch_control 8 ∷ blanks batch_control 9
    ∷ part batch_header 12 (batch_record b) ∷ part batch_header 13 (batch_record b) ∷ []

pub batch_control_wide : (b : Batch) → length b.row ≡ 89 → Wide batch_control_widths (batch_control_texts b)
batch_control_wide b h = simp (length_render, length-take, length-drop, (batch_fields b h).long) (omega arith)

pub batch_control_fields : (b : Batch) → length b.row ≡ 89 → BatchControlFields b
batch_control_fields b h =
    let ws = batch_control_widths in
    let fs = batch_control_texts b in
    let wide = batch_control_wide b h in
    let at = field ws fs wide in
    record {
      long = length_wide ws fs wide;
      type = typed 56 (drop 1 fs);
      class = at 1 (lit< tt);
      count = at 2 (lit< tt);
      hash = at 3 (lit< tt);
      debit = at 4 (lit< tt);
      credit = at 5 (lit< tt);
      company = at 6 (lit< tt);
      code = at 7 (lit< tt);
      reserved = at 8 (lit< tt);
      bank = at 9 (lit< tt);
      number = at 10 (lit< tt);
    }

-- record 9
pub record FileControlFields (v : View) : Type 0 where
  pub long : length (file_control_record v) ≡ 94
  pub type : get_or (file_control_record v) 0 0 ≡ 57
  pub batches : part file_control 2 (file_control_record v) ≡ render 6 (length v.batches)
  pub blocked : part file_control 3 (file_control_record v) ≡ render 6 (blocks (length (body_of v) + 1))
  pub count : part file_control 4 (file_control_record v) ≡ render 8 (sum_over records_in (entries_of v))
  pub hash : part file_control 5 (file_control_record v) ≡ render 10 (hash_of (sum_over bank_of (entries_of v)))
  pub debit : part file_control 6 (file_control_record v) ≡ render 12 (sum_over debit_of (entries_of v))
  pub credit : part file_control 7 (file_control_record v) ≡ render 12 (sum_over credit_of (entries_of v))
  pub reserved : part file_control 8 (file_control_record v) ≡ blanks file_control 8

abbrev pub file_control_widths : List ℕ
file_control_widths = 1 ∷ 6 ∷ 6 ∷ 8 ∷ 10 ∷ 12 ∷ 12 ∷ 39 ∷ []

abbrev pub file_control_texts : View → List (List ℕ)
file_control_texts v =
    (57 ∷ []) ∷ render 6 (length v.batches) ∷ render 6 (blocks (length (body_of v) + 1))
    ∷ render 8 (sum_over records_in (entries_of v)) ∷ render 10 (hash_of (sum_over bank_of (entries_of v)))
    ∷ render 12 (sum_over debit_of (entries_of v)) ∷ render 12 (sum_over credit_of (entries_of v)) ∷ blanks file_control 8 ∷ []

pub file_control_wide : (v : View) → Wide file_control_widths (file_control_texts v)
file_control_wide v = simp length_render (omega arith)

pub file_control_fields : (v : View) → FileControlFields v
file_control_fields v =
    let ws = file_control_widths in
    let fs = file_control_texts v in
    let wide = file_control_wide v in
    let at = field ws fs wide in
    record {
      long = length_wide ws fs wide;
      type = typed 57 (drop 1 fs);
      batches = at 1 (lit< tt);
      blocked = at 2 (lit< tt);
      count = at 3 (lit< tt);
      hash = at 4 (lit< tt);
      debit = at 5 (lit< tt);
      credit = at 6 (lit< tt);
      reserved = at 7 (lit< tt);
    }

-- filler
pub filler_fields : (length filler_record ≡ 94) × (get_or filler_record 0 0 ≡ 57)
filler_fields = (refl, refl)
