-- What each question gives, and what it leaves in the lent memory, for any bytes at all.
use Rattle.std.specs.Prelude.{Ok, Err, ℕ, zero, suc, ◌+◌, ◌-◌, ◌*◌, Bool, true, false, ◌&&◌, List, [], ◌∷◌, ◌++◌, leb, ltb, length, get_or, take, drop, ℤ, pos, ◌-ℤ◌}
use Rattle.std.proofs.lemmas.List.Edits.{sets}
use Rattle.text.specs.Decimal.{pick}
use Rattle.layout.specs.declared.Fault.{Fault}
use Rattle.layout.specs.Answers.{Answer, Made, Altered}
use Rattle.layout.specs.declared.Row.{Row}
use Rattle.layout.specs.declared.Way.{Way}
use Rattle.layout.specs.Fields.{no_row, entry, addendum}
use Rattle.layout.specs.Paper.{refusal}
use Rattle.layout.specs.Ways.{record_bytes}
use Rattle.check_codes.specs.declared.Code.{Code}
use Rattle.check_codes.specs.Codes.{code_of, carries}
use Rattle.check_field.specs.Field.{total_limit}
use Rattle.check_record.specs.Record.{checked_of}
use Rattle.view.specs.View.{Entry, Batch, View, written, entry_record, entries_of, sum_over, records_in, debit_of, credit_of, amount_of, code_in, batch_records, body_of, file_of, view_of}
use Rattle.view.specs.Table.{shaped, formed, table_of, count_wide, entry_wide, entry_part}

-- what a question answers, and the lent bytes as it leaves them
pub record Outcome (A : Type 0) : Type 0 where
  pub gives : A
  pub leaves : List ℕ

-- a test, its refusal if it fails, and the tests after it
abbrev pub demand : Bool → Answer → Answer → Answer
demand true refuse rest = rest
demand false refuse rest = refuse

-- the file's own refusals come first
abbrev pub and_then : Answer → Answer → Answer
and_then (Ok _) rest = rest
and_then (Err r) rest = Err r

-- "Granted, each gives the result's length, and the bytes past it stay"; "every refusal leaves lent memory untouched"
abbrev pub made : Answer → List ℕ → List ℕ → Outcome Made
made (Ok _) result buffer =
    record { gives = record { answer = Ok tt; length = length result }; leaves = result ++ drop (length result) buffer }
made (Err r) result buffer = record { gives = record { answer = Err r; length = 0 }; leaves = buffer }

-- "23: granted otherwise, but the lent buffer is too short"
abbrev pub room : List ℕ → List ℕ → Answer
room result buffer = demand (leb (length result) (length buffer)) (refusal Fault.Room 0 0) (Ok tt)

-- "Reading tries the file's refusals, then 23."
abbrev pub read_of : Way → List ℕ → List ℕ → Outcome Made
read_of way f table = made (and_then (checked_of way f).answer (room (table_of way f) table)) (table_of way f) table

-- "Writing tries 24, then the formed file's refusals, then 23."
abbrev pub write_of : Way → List ℕ → List ℕ → Outcome Made
write_of way t file =
    made
    (demand (shaped t) (refusal Fault.Shape 0 0) (and_then (checked_of way (formed way t)).answer (room (formed way t) file)))
    (formed way t) file

-- entry k, from 1 through the file
abbrev pub no_entry : Entry
no_entry = record { row = []; addenda = [] }

abbrev pub entry_at : View → ℕ → Entry
entry_at v k = get_or (entries_of v) (k - 1) no_entry

abbrev pub exists : View → ℕ → Bool
exists v k = leb 1 k && leb k (length (entries_of v))

-- where an entry stands: its batch, the number of that batch's record 5, and the entry's place in the batch, from 0
pub record Spot : Type 0 where
  pub batch : Batch
  pub opened : ℕ
  pub index : ℕ

unfoldable pub spot_from : ℕ → ℕ → List Batch → Spot
spot_from k n [] = record { batch = record { row = []; entries = [] }; opened = n; index = k }
spot_from k n (b ∷ bs) =
    pick (ltb k (length b.entries)) (record { batch = b; opened = n; index = k })
    (spot_from (k - length b.entries) (n + length (batch_records b)) bs)

abbrev pub spot_of : View → ℕ → Spot
spot_of v k = spot_from (k - 1) 2 v.batches

-- record numbers: of the entry, of its batch's control, of the file's
abbrev pub entry_number : Spot → ℕ
entry_number s = s.opened + 1 + sum_over records_in (take s.index s.batch.entries)

abbrev pub batch_control_number : Spot → ℕ
batch_control_number s = s.opened + 1 + sum_over records_in s.batch.entries

abbrev pub file_control_number : View → ℕ
file_control_number v = length (body_of v) + 1

-- one amount put in: "columns 30-39 of the entry"
abbrev pub with_field : List Row → ℕ → List ℕ → List ℕ → List ℕ
with_field table k text r = sets r ((get_or table (k - 1) no_row).first - 1) text

abbrev pub amended : Entry → ℕ → Entry
amended e amount = record { row = drop 1 (with_field entry 6 (written entry 6 amount) (entry_record e)); addenda = e.addenda }

unfoldable pub amend_entry : ℕ → ℕ → List Entry → List Entry
amend_entry k amount [] = []
amend_entry zero amount (e ∷ es) = amended e amount ∷ es
amend_entry (suc k) amount (e ∷ es) = e ∷ amend_entry k amount es

unfoldable pub amend_batch : ℕ → ℕ → List Batch → List Batch
amend_batch k amount [] = []
amend_batch k amount (b ∷ bs) =
    pick (ltb k (length b.entries))
    (record { row = b.row; entries = amend_entry k amount b.entries } ∷ bs)
    (b ∷ amend_batch (k - length b.entries) amount bs)

abbrev pub amend : View → ℕ → ℕ → View
amend v k amount = record { row = v.row; batches = amend_batch (k - 1) amount v.batches }

-- the pay table with entry k's amount put in
abbrev pub altered_table : List ℕ → ℕ → ℕ → List ℕ
altered_table t k amount =
    sets t
    (length t - length (entry_part t) + count_wide + entry_wide * (k - 1) + ((get_or entry 5 no_row).first - 2))
    (written entry 6 amount)

-- "the limit is tried on the total less the old amount plus the new"
abbrev pub within : ℕ → ℕ → ℕ → Bool
within total old new = leb (total - old + new) total_limit

-- "20 at the batch's control (field 5 for a debit, 6 for a credit), 20 at the file's (6 or 7)"
abbrev pub limits : View → Spot → Code → ℕ → ℕ → Answer
limits v s Code.Unknown old new = Ok tt
limits v s (Code.Credit u) old new =
    demand (within (sum_over credit_of s.batch.entries) old new) (refusal Fault.Limit (batch_control_number s) 6)
    (demand (within (sum_over credit_of (entries_of v)) old new) (refusal Fault.Limit (file_control_number v) 7) (Ok tt))
limits v s (Code.Debit u) old new =
    demand (within (sum_over debit_of s.batch.entries) old new) (refusal Fault.Limit (batch_control_number s) 5)
    (demand (within (sum_over debit_of (entries_of v)) old new) (refusal Fault.Limit (file_control_number v) 6) (Ok tt))

-- "It tries the file's refusals, 25, 14 at the entry's field 6 (also for more than ten digits), 20 .., 20 .."
abbrev pub alter_answer : Way → List ℕ → ℕ → ℕ → Answer
alter_answer way f k amount =
    and_then (checked_of way f).answer
    (demand (exists (view_of way f) k) (refusal Fault.NoEntry 0 0)
    (demand (carries (code_of (code_in (entry_at (view_of way f) k))) amount) (refusal Fault.Amount (entry_number (spot_of (view_of way f) k)) 6)
    (limits (view_of way f) (spot_of (view_of way f) k) (code_of (code_in (entry_at (view_of way f) k))) (amount_of (entry_at (view_of way f) k)) amount)))

abbrev pub altered : Answer → ℤ → List ℕ → List ℕ → Outcome Altered
altered (Ok _) difference result f = record { gives = record { answer = Ok tt; difference = difference }; leaves = result }
altered (Err r) difference result f = record { gives = record { answer = Err r; difference = pos 0 }; leaves = f }

-- "Granted, it gives the new amount less the old, in cents"; the file is the one of the view with that amount put in
abbrev pub alter_of : Way → List ℕ → ℕ → ℕ → Outcome Altered
alter_of way f k amount =
    altered (alter_answer way f k amount) (pos amount -ℤ pos (amount_of (entry_at (view_of way f) k))) (file_of way (amend (view_of way f) k amount)) f

-- "A second question, of the same file and number, tells the refusal: the file's come first, then 25."
abbrev pub addendum_answer : Way → List ℕ → ℕ → Answer
addendum_answer way f k =
    and_then (checked_of way f).answer (demand (exists (view_of way f) k) (refusal Fault.NoEntry 0 0) (Ok tt))

-- "handed back as columns 4-83 of the lent file itself, or as an empty part": where it starts, and how long it is
pub record Part : Type 0 where
  pub from : ℕ
  pub size : ℕ

abbrev pub no_part : Part
no_part = record { from = 0; size = 0 }

abbrev pub addendum_part_of : Entry → ℕ → Part
addendum_part_of e at =
    pick (ltb 0 (length e.addenda))
    (record { from = at + ((get_or addendum 2 no_row).first - 1); size = (get_or addendum 2 no_row).last + 1 - (get_or addendum 2 no_row).first })
    no_part

abbrev pub part_if : Answer → Part → Part
part_if (Ok _) p = p
part_if (Err r) p = no_part

abbrev pub addendum_of : Way → List ℕ → ℕ → Part
addendum_of way f k =
    part_if (addendum_answer way f k) (addendum_part_of (entry_at (view_of way f) k) (record_bytes way * entry_number (spot_of (view_of way f) k)))
