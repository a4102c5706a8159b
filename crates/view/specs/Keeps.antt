-- The rules of the paper, over a view: `Keeps v` says that the file which v makes breaks none. No rule is said anew: each is the one
-- that the field tables name. Counts, hashes, totals, fixed texts and fillers are no part of a view, and `file_of` makes them right.
use Rattle.std.specs.Prelude.{ℕ, ◌+◌, ◌≤◌, ◌≡◌, List, [], ◌∷◌, eqb, length, Ok}
use Rattle.text.specs.Decimal.{pick}
use Rattle.layout.specs.declared.Row.{Row}
use Rattle.layout.specs.Fields.{file_header, batch_header, entry, addendum}
use Rattle.check_across.specs.declared.Sums.{Sums}
use Rattle.check_across.specs.Across.{entry_trace, batch_number}
use Rattle.check_field.specs.Field.{field_of, total_limit}
use Rattle.check_record.specs.Record.{most_records}
use Rattle.view.specs.View.{Entry, Batch, View, file_record, batch_record, entry_record, addendum_record, sum_over, code_in, amount_of, debit_of, credit_of, records_in, entries_of, records_of}
use Rattle.view.specs.Table.{addenda_due}
use Rattle.view.specs.Sized.{All}

-- every field of the record r is right: s is what it sees of the records before it, and h the record 5 of its batch
abbrev pub Right : List Row → Sums → List ℕ → List ℕ → Type 0
Right rows s h r = All (λ row. field_of s h r row ≡ Ok tt) rows

-- what a record sees of those before it: the batch number, and of its batch how many records there are and the last trace
abbrev pub seen : ℕ → ℕ → ℕ → Sums
seen number records trace =
    record {
      records = 0;
      batches = 0;
      entries = 0;
      addenda = 0;
      hash = 0;
      debit = 0;
      credit = 0;
      batchrecords = records;
      batchhash = 0;
      batchdebit = 0;
      batchcredit = 0;
      number = number;
      trace = trace;
    }

-- "the true sum at most 999,999,999,999", of the debits and of the credits
pub record Within (es : List Entry) : Type 0 where
  pub debit : sum_over debit_of es ≤ total_limit
  pub credit : sum_over credit_of es ≤ total_limit

-- "An entry is a 6, followed by one 7 exactly if its column 79 is '1'." It stands in the batch with record 5 h, behind n records of that
-- batch of which the last trace is t.
pub record EntryKeeps (h : List ℕ) (n t : ℕ) (e : Entry) : Type 0 where
  pub fields : Right entry (seen 0 n t) h (entry_record e)
  pub due : length e.addenda ≡ addenda_due e.row
  pub addenda : All (λ text. Right addendum (seen 0 0 (entry_trace (entry_record e))) h (addendum_record e text)) e.addenda

-- the entries of a batch, each behind those before it: "a first entry still has at least 1", a later one a greater trace
abbrev pub EntriesKeep : List ℕ → ℕ → ℕ → List Entry → Type 0
EntriesKeep h n t [] = Unit {0}
EntriesKeep h n t (e ∷ es) = EntryKeeps h n t e × EntriesKeep h (n + records_in e) (entry_trace (entry_record e)) es

-- "each a 5, one or more entries, an 8": a batch behind the one with this number
pub record BatchKeeps (number : ℕ) (b : Batch) : Type 0 where
  pub fields : Right batch_header (seen number 0 0) [] (batch_record b)
  pub nonempty : 1 ≤ length b.entries
  pub entries : EntriesKeep (batch_record b) 0 0 b.entries
  pub within : Within b.entries

-- "at least 1 and greater than the batch number before"; before the first batch that is 0
abbrev pub BatchesKeep : ℕ → List Batch → Type 0
BatchesKeep number [] = Unit {0}
BatchesKeep number (b ∷ bs) = BatchKeeps number b × BatchesKeep (batch_number (batch_record b)) bs

-- "one 1; then one or more batches"; "from 94 to 94,000,000 bytes"
pub record Keeps (v : View) : Type 0 where
  pub fields : Right file_header (seen 0 0 0) [] (file_record v)
  pub nonempty : 1 ≤ length v.batches
  pub batches : BatchesKeep 0 v.batches
  pub within : Within (entries_of v)
  pub fits : length (records_of v) ≤ most_records

-- "The rows by code become twelve, in rising order"; of each how many entries have it, and their cents
abbrev pub codes : List ℕ
codes = 22 ∷ 23 ∷ 24 ∷ 27 ∷ 28 ∷ 29 ∷ 32 ∷ 33 ∷ 34 ∷ 37 ∷ 38 ∷ 39 ∷ []

abbrev pub count_by : ℕ → List Entry → ℕ
count_by code es = sum_over (λ e. pick (eqb (code_in e) code) 1 0) es

abbrev pub cents_by : ℕ → List Entry → ℕ
cents_by code es = sum_over (λ e. pick (eqb (code_in e) code) (amount_of e) 0) es
