-- The list of a mending, row by row: which field of which record a row is of, and what that field says in either file.
use Rattle.std.specs.Prelude.{ℕ, ◌+◌, ◌-◌, ◌*◌, ◌/◌, ◌%◌, ◌≤◌, ◌<◌, ◌≡◌, List, [], ◌++◌, map, eqb, length, get_or, take, drop, replicate}
use Rattle.text.specs.Decimal.{pick, value}
use Rattle.text.specs.Rows.{section}
use Rattle.layout.specs.declared.Row.{Row}
use Rattle.layout.specs.declared.Way.{Way}
use Rattle.layout.specs.Fields.{record_columns, no_row, part, batch_control, file_control}
use Rattle.layout.specs.Ways.{record_bytes}
use Rattle.check_record.specs.Record.{raw_records}
use Rattle.view.specs.View.{fillers_after, filler_record, closed_by}
use Rattle.view.specs.Sized.{All}
use Rattle.mend.specs.Mend.{type_of, mended_records, mended_file, nine_at, change_row, changes_from, filler_changes, changes_of}

-- how many records of a file stand before the 9
abbrev pub nine_in : Way → List ℕ → ℕ
nine_in way f = nine_at (raw_records way f)

-- the rows of the list's first section: those of the 8s before the 9
abbrev pub batch_rows : Way → List ℕ → List (List ℕ)
batch_rows way f =
    changes_from 56 batch_control 1 (take (nine_in way f) (raw_records way f)) (mended_records way (raw_records way f))

-- of the second: those of the 9
abbrev pub file_rows : Way → List ℕ → List (List ℕ)
file_rows way f =
    changes_from 57 file_control (nine_in way f + 1) (take 1 (drop (nine_in way f) (raw_records way f)))
    (drop (nine_in way f) (mended_records way (raw_records way f)))

-- of the third: the one of the fillers, where their number is not the same
abbrev pub filler_rows : Way → List ℕ → List (List ℕ)
filler_rows way f =
    filler_changes (length (drop (nine_in way f + 1) (raw_records way f)))
    (length (drop (nine_in way f + 1) (mended_records way (raw_records way f))))

-- all rows of fields
abbrev pub field_rows : Way → List ℕ → List (List ℕ)
field_rows way f = batch_rows way f ++ file_rows way f

-- the fields of a control, by its type
abbrev pub table_by : ℕ → List Row
table_by b = pick (eqb b 56) batch_control (pick (eqb b 57) file_control [])

-- record n of a file, from 1
abbrev pub record_at : Way → List ℕ → ℕ → List ℕ
record_at way f n = get_or (raw_records way f) (n - 1) []

-- its fields, where it is a control
abbrev pub fields_at : Way → List ℕ → ℕ → List Row
fields_at way f n = table_by (type_of (record_at way f n))

-- the text of its field k, from 1
abbrev pub text_at : Way → List ℕ → ℕ → ℕ → List ℕ
text_at way f n k = part (fields_at way f n) k (record_at way f n)

-- the row that field k of record n has where it has one: the text in the lent file, then that in the mended file
abbrev pub row_for : Way → List ℕ → ℕ → ℕ → List ℕ
row_for way f n k = change_row n k (text_at way f n k) (text_at way (mended_file way f) n k)

-- a row stands in a list
pub record Has (rows : List (List ℕ)) (row : List ℕ) : Type 0 where
  pub at : ℕ
  pub inside : at < length rows
  pub there : get_or rows at [] ≡ row

-- the byte at place p, from 0, stands in the columns of a field that is listed
pub record ListedAt (way : Way) (f : List ℕ) (p : ℕ) : Type 0 where
  pub field : ℕ
  pub known : (1 ≤ field) × (field ≤ length (fields_at way f (p / record_bytes way + 1)))
  pub from : (get_or (fields_at way f (p / record_bytes way + 1)) (field - 1) no_row).first ≤ p % record_bytes way + 1
  pub to : p % record_bytes way + 1 ≤ (get_or (fields_at way f (p / record_bytes way + 1)) (field - 1) no_row).last
  pub listed : Has (field_rows way f) (row_for way f (p / record_bytes way + 1) field)

-- what a row's first nine digits write: the record's number, then the field's
abbrev pub key_of : List ℕ → ℕ
key_of row = value (take 9 row)

-- a row is the one of a field that is not the same in the two files, and its digits say of which
pub record TrueRow (way : Way) (f row : List ℕ) : Type 0 where
  pub number : ℕ
  pub field : ℕ
  pub numbered : (1 ≤ number) × (number ≤ nine_in way f + 1)
  pub known : (1 ≤ field) × (field ≤ length (fields_at way f number))
  pub form : row ≡ row_for way f number field
  pub key : key_of row ≡ number * 100 + field
  pub differs : text_at way f number field ≡ text_at way (mended_file way f) number field → ⊥

-- a list is these rows in three sections, and each count of seven digits is the number of its section's rows
pub record Counted (list : List ℕ) (batches file filler : List (List ℕ)) : Type 0 where
  pub whole : list ≡ section 7 batches ++ (section 7 file ++ section 7 filler)
  pub first : value (take 7 list) ≡ length batches
  pub second : value (take 7 (drop (length (section 7 batches)) list)) ≡ length file
  pub third : value (take 7 (drop (length (section 7 batches ++ section 7 file)) list)) ≡ length filler

-- the list is complete and true: a byte that differs is in a listed field or behind the 9 (past the end of a file stands d, whatever that is); a
-- listed field differs; no field is listed twice; and the counts are its own
pub record ListOf (way : Way) (f : List ℕ) : Type 0 where
  pub complete : (p d : ℕ) → p < record_bytes way * (nine_in way f + 1) → (get_or f p d ≡ get_or (mended_file way f) p d → ⊥) → ListedAt way f p
  pub true_rows : All (TrueRow way f) (field_rows way f)
  pub once : (i j : ℕ) → i < j → j < length (field_rows way f) → key_of (get_or (field_rows way f) i []) < key_of (get_or (field_rows way f) j [])
  pub counted : Counted (changes_of way f) (batch_rows way f) (file_rows way f) (filler_rows way f)

-- behind the 9, which is there, stood nothing but nines in the columns, and then stand as many fillers as fill the block: what differs there is how
-- many there are, which the list's third section tells, and what stood in the place of their line ends
pub record BehindNine (way : Way) (f : List ℕ) : Type 0 where
  pub there : nine_in way f < length (raw_records way f)
  pub lent : map (take record_columns) (drop (nine_in way f + 1) (raw_records way f)) ≡ replicate (length (drop (nine_in way f + 1) (raw_records way f))) filler_record
  pub mended : drop (nine_in way f + 1) (raw_records way (mended_file way f)) ≡ replicate (fillers_after (nine_in way f + 1)) (closed_by way filler_record)
