-- What a line becomes: its faults, and the row of its entry.
use Rattle.std.specs.Prelude.{Ok, Err}
use Rattle.std.specs.Prelude.{ℕ, ◌+◌, ◌-◌, ◌*◌, Bool, true, false, ◌&&◌, List, [], ◌∷◌, ◌++◌, leb, eqb, length, get_or, take, drop, replicate}
use Rattle.text.specs.Decimal.{pick, digits, value, render}
use Rattle.text.specs.Rows.{joined}
use Rattle.layout.specs.declared.Fault.{Fault}
use Rattle.layout.specs.Fields.{entry}
use Rattle.check_record.specs.Verdict.{Verdict, wrong_of}
use Rattle.view.specs.View.{Entry, wide, blanks}
use Rattle.csv_cells.specs.Cells.{filled_to, six_fields, six_texts}

-- "the amount is one or more digits, a point and two digits"
abbrev pub amount_form : List ℕ → Bool
amount_form p =
    leb 4 (length p) && digits (take (length p - 3) p) && eqb (get_or p (length p - 3) 0) 46 && digits (drop (length p - 2) p)

abbrev pub cents_in : List ℕ → ℕ
cents_in p = value (take (length p - 3) p) * 100 + value (drop (length p - 2) p)

-- 30: "amount not in that form or over 9,999,999,999 cents"
abbrev pub amount_right : List ℕ → Bool
amount_right p = amount_form p && leb (cents_in p) 9999999999

-- the columns that field k of a line has in the entry; the routing number takes two fields of the entry
abbrev pub field_wide : ℕ → ℕ
field_wide k =
    get_or
    (wide entry 2 ∷ (wide entry 3 + wide entry 4) ∷ wide entry 5 ∷ wide entry 6 ∷ wide entry 7 ∷ wide entry 8 ∷ [])
    (k - 1) 0

-- "30 amount not in that form or over 9,999,999,999 cents, 32 another field too long for its columns"
abbrev pub field_right : ℕ → List ℕ → Bool
field_right k p = pick (eqb k 4) (amount_right p) (leb (length p) (field_wide k))

abbrev pub field_fault : ℕ → Fault
field_fault k = pick (eqb k 4) Fault.Cents Fault.Long

-- a test, the refusal of field k if it fails, and the tests behind it
abbrev pub try : Bool → Fault → ℕ → Verdict → Verdict
try true fault k rest = rest
try false fault k rest = Err (wrong_of fault k)

-- "then field by field": these fields, the first of them with number k
unfoldable pub texts_verdict : ℕ → List (List ℕ) → Verdict
texts_verdict k [] = Ok tt
texts_verdict k (p ∷ ps) = try (field_right k p) (field_fault k) k (texts_verdict (k + 1) ps)

-- "29 not six fields in the RFC's grammar (field 0), then field by field"
abbrev pub line_verdict : List ℕ → Verdict
line_verdict xs = try (six_fields xs) Fault.Comma 0 (texts_verdict 1 (six_texts xs))

abbrev pub columns_of : ℕ → List ℕ → List ℕ
columns_of k p = pick (eqb k 4) (render (field_wide k) (cents_in p)) (filled_to (field_wide k) p)

unfoldable pub all_columns : ℕ → List (List ℕ) → List (List ℕ)
all_columns k [] = []
all_columns k (p ∷ ps) = columns_of k p ∷ all_columns (k + 1) ps

-- the first column of field k in the entry's row
abbrev pub column_at : ℕ → ℕ
column_at k = get_or (0 ∷ 2 ∷ 11 ∷ 28 ∷ 38 ∷ 53 ∷ 75 ∷ []) (k - 1) 0

-- "traces count from 1 with the batch's bank, discretionary data is blank, there are no addenda": the row of line k
abbrev pub rest_of_row : List ℕ → ℕ → List ℕ
rest_of_row bank k = joined (blanks entry 9 ∷ (48 ∷ []) ∷ bank ∷ render 7 k ∷ [])

abbrev pub row_of_line : List ℕ → ℕ → List ℕ → List ℕ
row_of_line bank k xs = joined (all_columns 1 (six_texts xs)) ++ rest_of_row bank k

abbrev pub empty_row : List ℕ → ℕ → List ℕ
empty_row bank k = replicate 75 32 ++ rest_of_row bank k

-- the entries of lines, the first of which is line k
unfoldable pub entries_of_lines : List ℕ → ℕ → List (List ℕ) → List Entry
entries_of_lines bank k [] = []
entries_of_lines bank k (l ∷ ls) = record { row = row_of_line bank k l; addenda = [] } ∷ entries_of_lines bank (k + 1) ls
