-- The records of the formed file, each by a row of the table or by the sums.
use Rattle.std.specs.Prelude.{ℕ, ◌+◌, List, [], ◌∷◌, take}
use Rattle.text.specs.Rows.{joined}
use Rattle.layout.specs.Fields.{part, batch_header, batch_control, file_control}
use Rattle.check_across.specs.declared.Sums.{Sums}
use Rattle.check_field.specs.Field.{blocks, hash_of}
use Rattle.view.specs.View.{written, blanks, file_record, batch_record, entry_record, addendum_record}
use Rattle.view.specs.Table.{head_wide}

-- record 8 by the sums of its batch, and its record 5
abbrev pub batch_control_from : Sums → List ℕ → List ℕ
batch_control_from s h =
    joined
    ((56 ∷ []) ∷ part batch_header 2 h
    ∷ written batch_control 3 s.batchrecords
    ∷ written batch_control 4 (hash_of s.batchhash)
    ∷ written batch_control 5 s.batchdebit
    ∷ written batch_control 6 s.batchcredit
    ∷ part batch_header 5 h
    ∷ blanks batch_control 8 ∷ blanks batch_control 9
    ∷ part batch_header 12 h ∷ part batch_header 13 h ∷ [])

-- record 9 by the sums of the file
abbrev pub file_control_from : Sums → List ℕ
file_control_from s =
    joined
    ((57 ∷ [])
    ∷ written file_control 2 s.batches
    ∷ written file_control 3 (blocks (s.records + 1))
    ∷ written file_control 4 (s.entries + s.addenda)
    ∷ written file_control 5 (hash_of s.hash)
    ∷ written file_control 6 s.debit
    ∷ written file_control 7 s.credit
    ∷ blanks file_control 8 ∷ [])

-- a record of a row, as the view makes it
abbrev pub file_from : List ℕ → List ℕ
file_from row = file_record (record { row = row; batches = [] })

abbrev pub batch_from : List ℕ → List ℕ
batch_from row = batch_record (record { row = take head_wide row; entries = [] })

abbrev pub entry_from : List ℕ → List ℕ
entry_from row = entry_record (record { row = row; addenda = [] })

abbrev pub addendum_from : List ℕ → List ℕ → List ℕ
addendum_from row text = addendum_record (record { row = row; addenda = [] }) text
