-- "The field numbers and columns are held once, as a table of first column, last column and kind for each record type."
-- A field's number is its row's place in the table, from 1. Every column that a definition reads comes from here.
use Rattle.std.specs.Prelude.{ℕ, ◌-◌, List, [], ◌∷◌, get_or}
use Rattle.layout.specs.declared.Line.{Line}
use Rattle.layout.specs.declared.Kind.{Kind}
use Rattle.layout.specs.declared.Own.{Own}
use Rattle.layout.specs.declared.Near.{Near}
use Rattle.layout.specs.declared.Sum.{Sum}
use Rattle.layout.specs.declared.Row.{Row}
use Rattle.text.specs.Rows.{columns}

-- "A file is records of 94 bytes": the record's columns. What a way of sending puts behind them is no column.
abbrev pub record_columns : ℕ
record_columns = 94

abbrev pub row : ℕ → ℕ → Kind → Row
row first last kind = record { first = first; last = last; kind = kind }

-- "Record 1: 1 type; 2 (2-3) '01'; 3 (4-13) a blank, nine digits, check digit; 4 (14-23); 5 (24-29) date; 6 (30-33); 7 (34);
--  8 (35-37) '094'; 9 (38-39) '10'; 10 (40) '1'; 11 (41-63), 12 (64-86), 13 (87-94) optional text."
abbrev pub file_header : List Row
file_header =
    row 1 1 Kind.Type
    ∷ row 2 3 (Kind.Fixed 1)
    ∷ row 4 13 (Kind.Own Own.Destination)
    ∷ row 14 23 (Kind.Own Own.Origin)
    ∷ row 24 29 Kind.Date
    ∷ row 30 33 (Kind.Own Own.Time)
    ∷ row 34 34 (Kind.Own Own.Modifier)
    ∷ row 35 37 (Kind.Fixed 94)
    ∷ row 38 39 (Kind.Fixed 10)
    ∷ row 40 40 (Kind.Fixed 1)
    ∷ row 41 63 Kind.Optional
    ∷ row 64 86 Kind.Optional
    ∷ row 87 94 Kind.Optional
    ∷ []

-- "Record 5: 2 (2-4) digits, 200, 220 or 225; 3 (5-20) mandatory text; 4 (21-40) optional text; 5 (41-50) mandatory text;
--  6 (51-53) PPD or CCD; 7 (54-63) mandatory text; 8 (64-69) optional text; 9 (70-75) date; 10 (76-78) blanks, fixed;
--  11 (79) '1'; 12 (80-87) digits; 13 (88-94) digits, at least 1 and greater than the batch number before."
abbrev pub batch_header : List Row
batch_header =
    row 1 1 Kind.Type
    ∷ row 2 4 (Kind.Own Own.Class)
    ∷ row 5 20 Kind.Mandatory
    ∷ row 21 40 Kind.Optional
    ∷ row 41 50 Kind.Mandatory
    ∷ row 51 53 (Kind.Own Own.EntryClass)
    ∷ row 54 63 Kind.Mandatory
    ∷ row 64 69 Kind.Optional
    ∷ row 70 75 Kind.Date
    ∷ row 76 78 Kind.Blanks
    ∷ row 79 79 (Kind.Fixed 1)
    ∷ row 80 87 Kind.Digits
    ∷ row 88 94 (Kind.Near Near.BatchNumber)
    ∷ []

-- "Record 6: 2 (2-3) digits; a known code. 3 (4-11) digits. 4 (12) a digit; the check digit of field 3. 5 (13-29) digits,
--  hyphens and blanks only. 6 (30-39) digits, amount in cents. 7 (40-54) optional text. 8 (55-76) mandatory text.
--  9 (77-78) optional text. 10 (79) '0' or '1'. 11 (80-94) digits."
abbrev pub entry : List Row
entry =
    row 1 1 Kind.Type
    ∷ row 2 3 (Kind.Near Near.Code)
    ∷ row 4 11 (Kind.Own Own.Bank)
    ∷ row 12 12 (Kind.Near Near.CheckDigit)
    ∷ row 13 29 (Kind.Own Own.Account)
    ∷ row 30 39 (Kind.Near Near.Amount)
    ∷ row 40 54 Kind.Optional
    ∷ row 55 76 Kind.Mandatory
    ∷ row 77 78 Kind.Optional
    ∷ row 79 79 (Kind.Near Near.Flag)
    ∷ row 80 94 (Kind.Near Near.Trace)
    ∷ []

-- "Record 7: 2 (2-3) '05'; 3 (4-83) optional text; 4 (84-87) '0001'; 5 (88-94) digits, the last seven of the entry's trace."
abbrev pub addendum : List Row
addendum =
    row 1 1 Kind.Type
    ∷ row 2 3 (Kind.Fixed 5)
    ∷ row 4 83 Kind.Optional
    ∷ row 84 87 (Kind.Fixed 1)
    ∷ row 88 94 (Kind.Near Near.EntryTrace)
    ∷ []

-- "Record 8: 2 (2-4) as in record 5; 3 (5-10) digits, number of 6 and 7 records; 4 (11-20) digits, entry hash; 5 (21-32)
--  debit total and 6 (33-44) credit total; 7 (45-54) as record 5's field 5; 8 (55-73) and 9 (74-79) blanks; 10 (80-87),
--  11 (88-94) as in record 5." The number beside AsBatch is record 5's first column.
abbrev pub batch_control : List Row
batch_control =
    row 1 1 Kind.Type
    ∷ row 2 4 (Kind.AsBatch 2)
    ∷ row 5 10 (Kind.Count Sum.BatchRecords)
    ∷ row 11 20 (Kind.Hash Sum.BatchHash)
    ∷ row 21 32 (Kind.Total Sum.BatchDebit)
    ∷ row 33 44 (Kind.Total Sum.BatchCredit)
    ∷ row 45 54 (Kind.AsBatch 41)
    ∷ row 55 73 Kind.Blanks
    ∷ row 74 79 Kind.Blanks
    ∷ row 80 87 (Kind.AsBatch 80)
    ∷ row 88 94 (Kind.AsBatch 88)
    ∷ []

-- "Record 9: 2 (2-7) batches; 3 (8-13) blocks; 4 (14-21) 6 and 7 records; 5 (22-31) hash; 6 (32-43), 7 (44-55) totals as in
--  record 8, over the file; 8 (56-94) blanks."
abbrev pub file_control : List Row
file_control =
    row 1 1 Kind.Type
    ∷ row 2 7 (Kind.Count Sum.Batches)
    ∷ row 8 13 (Kind.Count Sum.Blocks)
    ∷ row 14 21 (Kind.Count Sum.FileRecords)
    ∷ row 22 31 (Kind.Hash Sum.FileHash)
    ∷ row 32 43 (Kind.Total Sum.FileDebit)
    ∷ row 44 55 (Kind.Total Sum.FileCredit)
    ∷ row 56 94 Kind.Blanks
    ∷ []

-- "filler records of 94 nines"; "a record after the filled block"; "record type not allowed here": a table of one row each,
-- so that a record is refused through a field and in no other way
abbrev pub filler : List Row
filler = row 1 94 Kind.Nines ∷ []

abbrev pub past : List Row
past = row 1 94 Kind.Past ∷ []

abbrev pub other : List Row
other = row 1 1 Kind.Misplaced ∷ []

abbrev pub rows_of : Line → List Row
rows_of Line.FileHeader = file_header
rows_of Line.BatchHeader = batch_header
rows_of Line.Entry = entry
rows_of Line.Addendum = addendum
rows_of Line.BatchControl = batch_control
rows_of Line.FileControl = file_control
rows_of Line.Filler = filler
rows_of Line.Past = past
rows_of Line.Other = other

-- "filler has field 0", and so has a record after the filled block; every other table counts from 1
abbrev pub first_field : Line → ℕ
first_field Line.FileHeader = 1
first_field Line.BatchHeader = 1
first_field Line.Entry = 1
first_field Line.Addendum = 1
first_field Line.BatchControl = 1
first_field Line.FileControl = 1
first_field Line.Filler = 0
first_field Line.Past = 0
first_field Line.Other = 1

-- what stands behind a table's last row
abbrev pub no_row : Row
no_row = row 1 1 Kind.Type

-- field k of a record of this type
abbrev pub part : List Row → ℕ → List ℕ → List ℕ
part rows k r = columns (get_or rows (k - 1) no_row).first (get_or rows (k - 1) no_row).last r
