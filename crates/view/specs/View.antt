-- What a file says: its file row, its batches, their entries with their addenda. Counts, hashes and totals are no part of it:
-- `file_of` computes them from the entries.
use Rattle.std.specs.Prelude.{ℕ, ◌+◌, ◌-◌, ◌%◌, eqb, length, get_or, take, drop, replicate}
use mathlib.Core.List.{List, [], ◌∷◌, ◌++◌, map, foldr}
use Rattle.text.specs.Decimal.{pick, render}
use Rattle.text.specs.Rows.{columns, joined}
use Rattle.layout.specs.declared.Row.{Row}
use Rattle.layout.specs.declared.Way.{Way}
use Rattle.layout.specs.Fields.{record_columns, no_row, part, file_header, batch_header, entry, addendum, batch_control, file_control}
use Rattle.layout.specs.Ways.{end_of}
use Rattle.check_codes.specs.Codes.{code_of, debit_part, credit_part}
use Rattle.check_across.specs.Across.{entry_code, entry_bank, entry_amount}
use Rattle.check_field.specs.Field.{blocks, hash_of}
use Rattle.check_record.specs.Record.{columns_in}

-- row: columns 2-94 of the record 6. addenda: columns 4-83 of each record 7 behind it (at most one in PPD and CCD)
pub record Entry : Type 0 where
  pub row : List ℕ
  pub addenda : List (List ℕ)

-- row: columns 2-75 and 80-94 of the record 5
pub record Batch : Type 0 where
  pub row : List ℕ
  pub entries : List Entry

-- row: columns 4-34 and 41-94 of the record 1
pub record View : Type 0 where
  pub row : List ℕ
  pub batches : List Batch

-- a number or blanks in the columns of field k
abbrev pub wide : List Row → ℕ → ℕ
wide table k = (get_or table (k - 1) no_row).last + 1 - (get_or table (k - 1) no_row).first

abbrev pub written : List Row → ℕ → ℕ → List ℕ
written table k n = render (wide table k) n

abbrev pub blanks : List Row → ℕ → List ℕ
blanks table k = replicate (wide table k) 32

-- "1 type", and the fields that are the same in every file
abbrev pub file_record : View → List ℕ
file_record v =
    joined
    ((49 ∷ []) ∷ written file_header 2 1 ∷ take 31 v.row
    ∷ written file_header 8 94 ∷ written file_header 9 10 ∷ written file_header 10 1
    ∷ drop 31 v.row ∷ [])

abbrev pub batch_record : Batch → List ℕ
batch_record b =
    joined ((53 ∷ []) ∷ take 74 b.row ∷ blanks batch_header 10 ∷ written batch_header 11 1 ∷ drop 74 b.row ∷ [])

abbrev pub entry_record : Entry → List ℕ
entry_record e = 54 ∷ e.row

-- "5 (88-94) digits, the last seven of the entry's trace"
abbrev pub addendum_record : Entry → List ℕ → List ℕ
addendum_record e text =
    joined
    ((55 ∷ []) ∷ written addendum 2 5 ∷ text ∷ written addendum 4 1 ∷ columns 9 15 (part entry 11 (entry_record e)) ∷ [])

-- a number of each entry, summed
unfoldable pub sum_over : {A : Type 0} → (A → ℕ) → List A → ℕ
sum_over f [] = 0
sum_over f (x ∷ xs) = f x + sum_over f xs

abbrev pub bank_of : Entry → ℕ
bank_of e = entry_bank (entry_record e)

abbrev pub amount_of : Entry → ℕ
amount_of e = entry_amount (entry_record e)

abbrev pub code_in : Entry → ℕ
code_in e = entry_code (entry_record e)

abbrev pub debit_of : Entry → ℕ
debit_of e = debit_part (code_of (code_in e)) (amount_of e)

abbrev pub credit_of : Entry → ℕ
credit_of e = credit_part (code_of (code_in e)) (amount_of e)

-- "number of 6 and 7 records"
abbrev pub records_in : Entry → ℕ
records_in e = 1 + length e.addenda

abbrev pub entries_of : View → List Entry
entries_of v = foldr (λ b es. b.entries ++ es) [] v.batches

-- record 8, made of its batch
abbrev pub batch_control_record : Batch → List ℕ
batch_control_record b =
    joined
    ((56 ∷ []) ∷ part batch_header 2 (batch_record b)
    ∷ written batch_control 3 (sum_over records_in b.entries)
    ∷ written batch_control 4 (hash_of (sum_over bank_of b.entries))
    ∷ written batch_control 5 (sum_over debit_of b.entries)
    ∷ written batch_control 6 (sum_over credit_of b.entries)
    ∷ part batch_header 5 (batch_record b)
    ∷ blanks batch_control 8 ∷ blanks batch_control 9
    ∷ part batch_header 12 (batch_record b) ∷ part batch_header 13 (batch_record b) ∷ [])

abbrev pub entry_records : Entry → List (List ℕ)
entry_records e = entry_record e ∷ map (addendum_record e) e.addenda

abbrev pub batch_records : Batch → List (List ℕ)
batch_records b = batch_record b ∷ (foldr (λ e rs. entry_records e ++ rs) [] b.entries ++ (batch_control_record b ∷ []))

-- the records before the file control
abbrev pub body_of : View → List (List ℕ)
body_of v = file_record v ∷ foldr (λ b rs. batch_records b ++ rs) [] v.batches

-- record 9, made of the whole file
abbrev pub file_control_record : View → List ℕ
file_control_record v =
    joined
    ((57 ∷ [])
    ∷ written file_control 2 (length v.batches)
    ∷ written file_control 3 (blocks (length (body_of v) + 1))
    ∷ written file_control 4 (sum_over records_in (entries_of v))
    ∷ written file_control 5 (hash_of (sum_over bank_of (entries_of v)))
    ∷ written file_control 6 (sum_over debit_of (entries_of v))
    ∷ written file_control 7 (sum_over credit_of (entries_of v))
    ∷ blanks file_control 8 ∷ [])

-- "up to the next multiple of ten records, so 0 to 9 of them"
abbrev pub fillers_after : ℕ → ℕ
fillers_after n = (10 - n % 10) % 10

abbrev pub filler_record : List ℕ
filler_record = replicate record_columns 57

abbrev pub records_of : View → List (List ℕ)
records_of v = body_of v ++ (file_control_record v ∷ replicate (fillers_after (length (body_of v) + 1)) filler_record)

-- each record with the line end of the way behind it, "filler included"
abbrev pub closed_by : Way → List ℕ → List ℕ
closed_by way r = r ++ end_of way

abbrev pub file_of : Way → View → List ℕ
file_of way v = joined (map (closed_by way) (records_of v))

-- Reading: the records from the last to the first, each put to what stands behind it. Any bytes have a view; that of an
-- accepted file is the one that it was made of.
pub record Reading : Type 0 where
  pub row : List ℕ
  pub batches : List Batch
  pub entries : List Entry
  pub addenda : List (List ℕ)

abbrev pub nothing : Reading
nothing = record { row = []; batches = []; entries = []; addenda = [] }

abbrev pub gather : List ℕ → Reading → Reading
gather r g =
    pick (eqb (get_or r 0 0) 49)
    (record { row = columns 4 34 r ++ columns 41 94 r; batches = g.batches; entries = g.entries; addenda = g.addenda })
    (pick (eqb (get_or r 0 0) 53)
    (record {
      row = g.row;
      batches = record { row = columns 2 75 r ++ columns 80 94 r; entries = g.entries } ∷ g.batches;
      entries = [];
      addenda = g.addenda;
    })
    (pick (eqb (get_or r 0 0) 54)
    (record {
      row = g.row;
      batches = g.batches;
      entries = record { row = columns 2 94 r; addenda = g.addenda } ∷ g.entries;
      addenda = [];
    })
    (pick (eqb (get_or r 0 0) 55)
    (record { row = g.row; batches = g.batches; entries = g.entries; addenda = columns 4 83 r ∷ g.addenda })
    g)))

abbrev pub view_of_records : List (List ℕ) → View
view_of_records rs = record { row = (foldr gather nothing rs).row; batches = (foldr gather nothing rs).batches }

-- the view of a file in this way
abbrev pub view_of : Way → List ℕ → View
view_of way f = view_of_records (columns_in way f)
