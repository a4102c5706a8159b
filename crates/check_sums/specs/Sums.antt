-- What each record adds to the counts, the hash, the totals and the rows by code.
use Rattle.std.specs.Prelude.{ℕ, ◌+◌, ◌*◌, List, get_or, set, replicate}
use Rattle.text.specs.Rows.{columns}
use Rattle.layout.specs.declared.Line.{Line}
use Rattle.layout.specs.Fields.{record_columns}
use Rattle.check_codes.specs.Codes.{code_of, code_row, debit_part, credit_part}
use Rattle.check_across.specs.declared.Sums.{Sums}
use Rattle.check_across.specs.Across.{entry_code, entry_bank, entry_amount, entry_trace, batch_number}
use Rattle.check_sums.specs.declared.State.{State}
use Rattle.check_order.specs.declared.Place.{Place}
use Rattle.check_order.specs.Order.{next_place}

abbrev pub no_sums : Sums
no_sums =
    record {
      records = 0;
      batches = 0;
      entries = 0;
      addenda = 0;
      hash = 0;
      debit = 0;
      credit = 0;
      batchrecords = 0;
      batchhash = 0;
      batchdebit = 0;
      batchcredit = 0;
      number = 0;
      trace = 0;
    }

-- one record more, and nothing else
abbrev pub add_record : Sums → Sums
add_record s =
    record {
      records = s.records + 1;
      batches = s.batches;
      entries = s.entries;
      addenda = s.addenda;
      hash = s.hash;
      debit = s.debit;
      credit = s.credit;
      batchrecords = s.batchrecords;
      batchhash = s.batchhash;
      batchdebit = s.batchdebit;
      batchcredit = s.batchcredit;
      number = s.number;
      trace = s.trace;
    }

-- a record 5: the batch's own sums start anew
abbrev pub add_batch : Sums → List ℕ → Sums
add_batch s r =
    record {
      records = s.records + 1;
      batches = s.batches + 1;
      entries = s.entries;
      addenda = s.addenda;
      hash = s.hash;
      debit = s.debit;
      credit = s.credit;
      batchrecords = 0;
      batchhash = 0;
      batchdebit = 0;
      batchcredit = 0;
      number = batch_number r;
      trace = 0;
    }

-- one entry more, of the file and of the batch
abbrev pub entered : Sums → ℕ → ℕ → ℕ → ℕ → Sums
entered s bank debit credit trace =
    record {
      records = s.records + 1;
      batches = s.batches;
      entries = s.entries + 1;
      addenda = s.addenda;
      hash = s.hash + bank;
      debit = s.debit + debit;
      credit = s.credit + credit;
      batchrecords = s.batchrecords + 1;
      batchhash = s.batchhash + bank;
      batchdebit = s.batchdebit + debit;
      batchcredit = s.batchcredit + credit;
      number = s.number;
      trace = trace;
    }

-- a record 6: its amount goes to the side that its code says
abbrev pub add_entry : Sums → List ℕ → Sums
add_entry s r =
    entered s (entry_bank r) (debit_part (code_of (entry_code r)) (entry_amount r)) (credit_part (code_of (entry_code r)) (entry_amount r))
    (entry_trace r)

-- a record 7
abbrev pub add_addendum : Sums → Sums
add_addendum s =
    record {
      records = s.records + 1;
      batches = s.batches;
      entries = s.entries;
      addenda = s.addenda + 1;
      hash = s.hash;
      debit = s.debit;
      credit = s.credit;
      batchrecords = s.batchrecords + 1;
      batchhash = s.batchhash;
      batchdebit = s.batchdebit;
      batchcredit = s.batchcredit;
      number = s.number;
      trace = s.trace;
    }

abbrev pub next_sums : Sums → Line → List ℕ → Sums
next_sums s Line.FileHeader r = add_record s
next_sums s Line.BatchHeader r = add_batch s r
next_sums s Line.Entry r = add_entry s r
next_sums s Line.Addendum r = add_addendum s
next_sums s Line.BatchControl r = add_record s
next_sums s Line.FileControl r = add_record s
next_sums s Line.Filler r = add_record s
next_sums s Line.Past r = add_record s
next_sums s Line.Other r = add_record s

-- the record 5 of the batch that the next record is in
abbrev pub next_header : List ℕ → Line → List ℕ → List ℕ
next_header h Line.FileHeader r = h
next_header h Line.BatchHeader r = columns 1 record_columns r
next_header h Line.Entry r = h
next_header h Line.Addendum r = h
next_header h Line.BatchControl r = h
next_header h Line.FileControl r = h
next_header h Line.Filler r = h
next_header h Line.Past r = h
next_header h Line.Other r = h

-- "in rising order a row of how many and how many cents": row k is at 2 k and 2 k + 1
abbrev pub add_to_row : List ℕ → ℕ → ℕ → List ℕ
add_to_row rows k cents =
    set (set rows (2 * k) (get_or rows (2 * k) 0 + 1)) (2 * k + 1) (get_or (set rows (2 * k) (get_or rows (2 * k) 0 + 1)) (2 * k + 1) 0 + cents)

abbrev pub next_by_code : List ℕ → Line → List ℕ → List ℕ
next_by_code rows Line.FileHeader r = rows
next_by_code rows Line.BatchHeader r = rows
next_by_code rows Line.Entry r = add_to_row rows (code_row (entry_code r)) (entry_amount r)
next_by_code rows Line.Addendum r = rows
next_by_code rows Line.BatchControl r = rows
next_by_code rows Line.FileControl r = rows
next_by_code rows Line.Filler r = rows
next_by_code rows Line.Past r = rows
next_by_code rows Line.Other r = rows

-- before the first record
abbrev pub start : State
start = record { place = Place.Start; sums = no_sums; header = replicate record_columns 0; bycode = replicate 24 0 }

-- after a record that passed
abbrev pub tally : State → Line → List ℕ → State
tally st line r =
    record {
      place = next_place st.place line r;
      sums = next_sums st.sums line r;
      header = next_header st.header line r;
      bycode = next_by_code st.bycode line r;
    }
