-- "Files mended, with a list": the mended records of any records, what changed, and what mending gives and leaves, for any bytes at all.
use Rattle.std.specs.Prelude.{ℕ, ◌+◌, Bool, ◌&&◌, List, [], ◌∷◌, ◌++◌, eqb, leb, ltb, length, get_or, take, drop, replicate, Ok}
use Rattle.text.specs.Decimal.{pick, render}
use Rattle.text.specs.Rows.{columns, joined, section}
use Rattle.text.specs.Same.{same_bytes}
use Rattle.layout.specs.declared.Fault.{Fault}
use Rattle.layout.specs.Answers.{Answer}
use Rattle.layout.specs.declared.Line.{Line}
use Rattle.layout.specs.declared.Row.{Row}
use Rattle.layout.specs.declared.Way.{Way}
use Rattle.layout.specs.Fields.{record_columns, batch_control, file_control}
use Rattle.layout.specs.Paper.{refusal}
use Rattle.check_across.specs.declared.Sums.{Sums}
use Rattle.check_sums.specs.Sums.{start, next_sums, next_header}
use Rattle.check_record.specs.Record.{length_fits, raw_records, checked_of}
use Rattle.view.specs.View.{fillers_after, filler_record, closed_by}
use Rattle.view.specs.Outcome.{demand, and_then, made}
use Rattle.table_form.specs.Forms.{batch_control_from, file_control_from}
use Rattle.mend.specs.Mended.{Mended}

-- ---- the mended records. All records here are as the file has them, with what stands in the place of a line end.

-- a record's type is its first byte, wherever it stands
abbrev pub type_of : List ℕ → ℕ
type_of r = get_or r 0 0

-- "what the other records call for": a 5 begins a batch, a 6 and a 7 are summed, and any other is one record more
abbrev pub line_by : ℕ → Line
line_by b = pick (eqb b 53) Line.BatchHeader (pick (eqb b 54) Line.Entry (pick (eqb b 55) Line.Addendum Line.Other))

-- the sums behind the record r; the record 5 that the next 8 is filled from, "the nearest 5 before it"
abbrev pub sums_past : Sums → List ℕ → Sums
sums_past s r = next_sums s (line_by (type_of r)) (take record_columns r)

abbrev pub header_past : List ℕ → List ℕ → List ℕ
header_past h r = next_header h (line_by (type_of r)) (take record_columns r)

-- other columns, and what stands behind them: "Line ends are not mended but for fillers"
abbrev pub refilled : List ℕ → List ℕ → List ℕ
refilled text r = text ++ drop record_columns r

-- "Replace fields 2 to 11 of each 8 record"; "An 8 record is filled from the nearest 5 before it and the records between; with no 5 before
-- it, it stays." Every other record stays.
abbrev pub mended_record : Sums → List ℕ → List ℕ → List ℕ
mended_record s h r = pick (eqb (type_of r) 56 && ltb 0 s.batches) (refilled (batch_control_from s h) r) r

-- "the first 9 record that follows an 8 record", also one of all nines: r stands behind a record of type `last`
abbrev pub ends_file : ℕ → List ℕ → Bool
ends_file last r = eqb (type_of r) 57 && eqb last 56

-- "fields 2 to 8 of the first 9 record .., and the filler": "Filler is all that stands behind that 9", written afresh with the way's line end
abbrev pub mended_end : Way → Sums → List ℕ → List (List ℕ)
mended_end way s r = refilled (file_control_from s) r ∷ replicate (fillers_after (s.records + 1)) (closed_by way filler_record)

-- the mended records from the one behind `last` on: s is what the records before it sum to, and h the nearest 5. "With no such 9 the 8s are
-- mended all the same."
unfoldable pub mended_from : Way → ℕ → Sums → List ℕ → List (List ℕ) → List (List ℕ)
mended_from way last s h [] = []
mended_from way last s h (r ∷ rs) =
    pick (ends_file last r) (mended_end way s r)
    (mended_record s h r ∷ mended_from way (type_of r) (sums_past s r) (header_past h r) rs)

-- before the first record there is none, and nothing is summed
abbrev pub mended_records : Way → List (List ℕ) → List (List ℕ)
mended_records way rs = mended_from way 0 start.sums start.header rs

abbrev pub mended_file : Way → List ℕ → List ℕ
mended_file way f = joined (mended_records way (raw_records way f))

-- ---- the changes

-- how many records stand before that 9; all of them where there is none
unfoldable pub before_nine : ℕ → List (List ℕ) → ℕ
before_nine last [] = 0
before_nine last (r ∷ rs) = pick (ends_file last r) 0 (1 + before_nine (type_of r) rs)

abbrev pub nine_at : List (List ℕ) → ℕ
nine_at rs = before_nine 0 rs

-- "Each field that differs gives record number (7 digits), field (2), old and new text"
abbrev pub change_row : ℕ → ℕ → List ℕ → List ℕ → List ℕ
change_row n k old new = render 7 n ++ (render 2 k ++ (old ++ new))

-- the fields of record n that differ, from field k on
unfoldable pub field_changes : ℕ → ℕ → List Row → List ℕ → List ℕ → List (List ℕ)
field_changes n k [] old new = []
field_changes n k (row ∷ rows) old new =
    let old-text = columns row.first row.last old in
    let new-text = columns row.first row.last new in
    pick (same_bytes old-text new-text) [] (change_row n k old-text new-text ∷ []) ++ field_changes n (k + 1) rows old new

-- those of the records of one type, which the fields' table is of; the first of these records has number n
unfoldable pub changes_from : ℕ → List Row → ℕ → List (List ℕ) → List (List ℕ) → List (List ℕ)
changes_from type table n [] news = []
changes_from type table n (old ∷ olds) [] = []
changes_from type table n (old ∷ olds) (new ∷ news) =
    pick (eqb (type_of old) type) (field_changes n 1 table old new) [] ++ changes_from type table (n + 1) olds news

-- "a changed number of filler records gives the old and the new, one digit each, and more than 9 old ones give '+'"
abbrev pub filler_changes : ℕ → ℕ → List (List ℕ)
filler_changes old new = pick (eqb old new) [] ((pick (leb old 9) (render 1 old) (43 ∷ []) ++ render 1 new) ∷ [])

-- "after a count of seven digits each, batch controls, then file control, then filler": of lent records, mended ones, and how many stand
-- before the 9
abbrev pub changes_between : ℕ → List (List ℕ) → List (List ℕ) → List ℕ
changes_between n olds news =
    section 7 (changes_from 56 batch_control 1 (take n olds) news)
    ++ (section 7 (changes_from 57 file_control (n + 1) (take 1 (drop n olds)) (drop n news))
    ++ section 7 (filler_changes (length (drop (n + 1) olds)) (length (drop (n + 1) news))))

abbrev pub changes_of : Way → List ℕ → List ℕ
changes_of way f = changes_between (nine_at (raw_records way f)) (raw_records way f) (mended_records way (raw_records way f))

-- ---- the outcome

-- "4 for the first record behind the 9 that isn't all nines", also inside the block; the first of these records has number n
unfoldable pub only_nines : ℕ → List (List ℕ) → Answer
only_nines n [] = Ok tt
only_nines n (r ∷ rs) = demand (same_bytes (take record_columns r) filler_record) (refusal Fault.Past n 0) (only_nines (n + 1) rs)

abbrev pub behind_nine : List (List ℕ) → Answer
behind_nine rs = only_nines (nine_at rs + 2) (drop (nine_at rs + 1) rs)

-- "Mending is granted exactly if the mended file is accepted, only nines stood behind the 9 and there is room. Refusals: 1 for the lent file;
-- those of the mended file; 4 ..; 23." The buffers lent have n bytes for the mended file, and m for the changes.
abbrev pub mend_answer : Way → List ℕ → ℕ → ℕ → Answer
mend_answer way f n m =
    demand (length_fits way (length f)) (refusal Fault.Length 0 0)
    (and_then (checked_of way (mended_file way f)).answer
    (and_then (behind_nine (raw_records way f))
    (demand (leb (length (mended_file way f)) n && leb (length (changes_of way f)) m) (refusal Fault.Room 0 0) (Ok tt))))

-- what mending answers, and the two lent buffers as it leaves them
pub record Mending : Type 0 where
  pub gives : Mended
  pub leaves : List ℕ
  pub changes : List ℕ

-- "Into a second lent buffer goes the mended file, into a third the changes"; they held these bytes. A refusal touches neither.
abbrev pub done_with : Answer → List ℕ → List ℕ → List ℕ → List ℕ → Mending
done_with answer result list held listheld =
    record {
      gives = record { answer = answer; length = (made answer result held).gives.length; listed = (made answer list listheld).gives.length };
      leaves = (made answer result held).leaves;
      changes = (made answer list listheld).leaves;
    }

abbrev pub mend_of : Way → List ℕ → List ℕ → List ℕ → Mending
mend_of way f held listheld =
    done_with (mend_answer way f (length held) (length listheld)) (mended_file way f) (changes_of way f) held listheld
