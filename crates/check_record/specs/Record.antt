-- The check: records in order, fields in order, and the first refusal.
use Rattle.std.specs.Prelude.{Ok, Err}
use Rattle.std.specs.Prelude.{ℕ, ◌+◌, ◌*◌, ◌/◌, ◌%◌, Bool, true, false, ◌&&◌, List, [], ◌∷◌, map, leb, eqb, length, get_or, take, drop, replicate}
use Rattle.text.specs.Decimal.{pick}
use Rattle.text.specs.Rows.{rows}
use Rattle.text.specs.Same.{same_bytes}
use Rattle.layout.specs.declared.Fault.{Fault}
use Rattle.layout.specs.Answers.{Checked}
use Rattle.layout.specs.declared.Row.{Row}
use Rattle.layout.specs.declared.Line.{Line}
use Rattle.layout.specs.declared.Way.{Way}
use Rattle.layout.specs.Fields.{record_columns, rows_of, first_field}
use Rattle.layout.specs.Ways.{end_of, record_bytes}
use Rattle.check_alone.specs.Mark.{Mark}
use Rattle.check_across.specs.declared.Sums.{Sums}
use Rattle.check_field.specs.Field.{field_of}
use Rattle.check_sums.specs.declared.State.{State}
use Rattle.check_record.specs.Verdict.{Verdict, wrong_of}
use Rattle.check_record.specs.Verdict.{Stepped}
use Rattle.check_order.specs.Order.{line_at, complete}
use Rattle.check_sums.specs.Sums.{start, tally}

abbrev pub found : Mark → ℕ → Verdict → Verdict
found (Ok _) k rest = rest
found (Err fault) k rest = Err (wrong_of fault k)

-- "Fields are tried in order": the rows of a record type, the first of them with number k
unfoldable pub fields_from : ℕ → List Row → Sums → List ℕ → List ℕ → Verdict
fields_from k [] s h r = Ok tt
fields_from k (row ∷ rows) s h r = found (field_of s h r row) k (fields_from (k + 1) rows s h r)

-- what the record r is taken for in this state: its first byte and its place decide
abbrev pub line_of : State → List ℕ → Line
line_of st r = line_at st.place st.sums.records (get_or r 0 0)

abbrev pub stepped : Verdict → State → State → Stepped
stepped (Ok _) next st = record { verdict = Ok tt; state = next }
stepped (Err wrong) next st = record { verdict = Err wrong; state = st }

-- a record as a file has it: its columns, and whether they are followed by the line end of the file's way
pub record Piece : Type 0 where
  pub columns : List ℕ
  pub closed : Bool

-- a record that stands in no file yet
abbrev pub bare : List ℕ → Piece
bare r = record { columns = r; closed = true }

-- 26: "a record not followed by CR LF, given after all its fields, with field 0"
abbrev pub closing : Bool → Verdict → Verdict
closing true fields = fields
closing false (Ok _) = Err (wrong_of Fault.LineEnd 0)
closing false (Err wrong) = Err wrong

-- one record
abbrev pub record_of : State → Piece → Stepped
record_of st p =
    stepped
    (closing p.closed
    (fields_from (first_field (line_of st p.columns)) (rows_of (line_of st p.columns)) st.sums st.header p.columns))
    (tally st (line_of st p.columns) p.columns) st

abbrev pub refused : Fault → ℕ → ℕ → Checked
refused fault n k =
    record {
      answer = Err (record { fault = fault; «record» = record { 0 = n }; field = k });
      batches = 0;
      entries = 0;
      addenda = 0;
      debit = 0;
      credit = 0;
      bycode = replicate 24 0;
    }

-- "Acceptance gives batches, entries, addenda, debit and credit cents, and for the .. codes in rising order a row"
abbrev pub accepted : State → Checked
accepted st =
    record {
      answer = Ok tt;
      batches = st.sums.batches;
      entries = st.sums.entries;
      addenda = st.sums.addenda;
      debit = st.sums.debit;
      credit = st.sums.credit;
      bycode = st.bycode;
    }

abbrev pub onward : Verdict → ℕ → Checked → Checked
onward (Ok _) n rest = rest
onward (Err wrong) n rest = refused wrong.fault n wrong.field

-- 2: "data end where a record is still due, filler included", at records + 1
abbrev pub finished : State → Checked
finished st = pick (complete st.place st.sums.records) (accepted st) (refused Fault.Ended (st.sums.records + 1) 0)

-- "records in order, and the check stops at the first refusal"
unfoldable pub run_from : State → List Piece → Checked
run_from st [] = finished st
run_from st (p ∷ ps) = onward (record_of st p).verdict (st.sums.records + 1) (run_from (record_of st p).state ps)

abbrev pub most_records : ℕ
most_records = 1000000

-- 1: "length 0, not a multiple of 94, or over 94,000,000"; "length 0, not a multiple of 96, or over 96,000,000"
abbrev pub length_fits : Way → ℕ → Bool
length_fits way n = leb 1 n && eqb (n % record_bytes way) 0 && leb n (record_bytes way * most_records)

-- the records of a file, with their line ends and without
abbrev pub raw_records : Way → List ℕ → List (List ℕ)
raw_records way f = rows (record_bytes way) (length f / record_bytes way) f

abbrev pub piece_of : Way → List ℕ → Piece
piece_of way r = record { columns = take record_columns r; closed = same_bytes (drop record_columns r) (end_of way) }

abbrev pub columns_in : Way → List ℕ → List (List ℕ)
columns_in way f = map (take record_columns) (raw_records way f)

-- what checking a file in this way gives
abbrev pub checked_of : Way → List ℕ → Checked
checked_of way f = pick (length_fits way (length f)) (run_from start (map (piece_of way) (raw_records way f))) (refused Fault.Length 0 0)
