-- Importing: "Given a file row and one batch row, whose entry count is filled in, the lines become a pay table".
use Rattle.std.specs.Prelude.{Ok, Err}
use Rattle.std.specs.Prelude.{ℕ, ◌+◌, Bool, ◌&&◌, List, [], ◌∷◌, leb, eqb, length, take, drop}
use Rattle.layout.specs.declared.Fault.{Fault}
use Rattle.layout.specs.Answers.{Answer}
use Rattle.layout.specs.Answers.{Made}
use Rattle.layout.specs.declared.Way.{Way}
use Rattle.check_record.specs.Verdict.{Verdict}
use Rattle.check_record.specs.Record.{checked_of}
use Rattle.view.specs.View.{View}
use Rattle.view.specs.Table.{file_wide, head_wide, batch_wide, table_bytes, formed}
use Rattle.view.specs.Outcome.{Outcome, demand, and_then, made, room}
use Rattle.layout.specs.Paper.{refusal}
use Rattle.csv_cells.specs.Cells.{lines_in}
use Rattle.csv_entry.specs.Entries.{line_verdict, entries_of_lines}

-- "for the first faulty line, whose number stands for the record": k is the number of the first of these lines
abbrev pub line_answer : Verdict → ℕ → Answer → Answer
line_answer (Ok _) k rest = rest
line_answer (Err wrong) k rest = refusal wrong.fault k wrong.field

unfoldable pub lines_answer : ℕ → List (List ℕ) → Answer
lines_answer k [] = Ok tt
lines_answer k (l ∷ ls) = line_answer (line_verdict l) k (lines_answer (k + 1) ls)

-- "the batch's bank" in the table's batch row: columns 80-87 of record 5
abbrev pub bank_in : List ℕ → List ℕ
bank_in batchrow = take 8 (drop 74 batchrow)

-- every line is one entry of the one batch
abbrev pub import_view : List ℕ → List ℕ → List ℕ → View
import_view filerow batchrow lines =
    record {
      row = filerow;
      batches =
          record { row = take head_wide batchrow; entries = entries_of_lines (bank_in batchrow) 1 (lines_in lines) } ∷ [];
    }

abbrev pub import_table : List ℕ → List ℕ → List ℕ → List ℕ
import_table filerow batchrow lines = table_bytes (import_view filerow batchrow lines)

abbrev pub most_lines : ℕ
most_lines = 999999

-- "24, also for over 999,999 lines or a row of wrong length"
abbrev pub rows_fit : List ℕ → List ℕ → List ℕ → Bool
rows_fit filerow batchrow lines =
    eqb (length filerow) file_wide && eqb (length batchrow) batch_wide && leb (length (lines_in lines)) most_lines

-- "for the first faulty line .. 29, then .. 30, 32; then 24 ..; then document 01's"
abbrev pub import_answer : List ℕ → List ℕ → List ℕ → Answer
import_answer filerow batchrow lines =
    and_then (lines_answer 1 (lines_in lines))
    (demand (rows_fit filerow batchrow lines) (refusal Fault.Shape 0 0)
    (checked_of Way.Plain (formed Way.Plain (import_table filerow batchrow lines))).answer)

-- ", 23 last"
abbrev pub import_of : List ℕ → List ℕ → List ℕ → List ℕ → Outcome Made
import_of filerow batchrow lines table =
    made
    (and_then (import_answer filerow batchrow lines) (room (import_table filerow batchrow lines) table))
    (import_table filerow batchrow lines) table
