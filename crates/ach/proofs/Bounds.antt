-- How large the numbers of an answer can be: the number at most 34, the field at most 13, the record at most 1,000,001.
-- Assumes nothing.
use Rattle.std.specs.Prelude.{Ok, Err}
use mathlib.Core.Path.{◌≡◌, refl, ◌∙◌}
use mathlib.Core.Bool.{Bool, true, false, ◌&&◌}
use mathlib.Core.List.{List, [], ◌∷◌, map}
use Prim.Native.Nat.{ℕ, ◌+◌, ◌*◌, ◌/◌, ◌%◌, ◌≤◌, ◌<◌}
use native.Mathlib.Omega.{arith}
use borrow.Author.Tests.{leb-true}
use lib.Dec.{lit<, leb, eqb, lit≤}
use lib.IntN.{ℤ}
use lib.ListN.{length-map, length, take, drop, length-drop}
use Rattle.text.specs.Decimal.{pick}
use Rattle.text.specs.Rows.{rows}
use Rattle.text.specs.Same.{same_bytes}
use Rattle.text.proofs.DecimalLaws.{and_both}
use Rattle.text.proofs.RowLaws.{length_rows}
use Rattle.layout.specs.declared.Fault.{Fault}
use Rattle.layout.specs.Answers.{Answer}
use Rattle.layout.specs.declared.Refusal.{Refusal}
use Rattle.layout.specs.declared.Row.{Row}
use Rattle.layout.specs.declared.Line.{Line}
use Rattle.layout.specs.Fields.{rows_of, first_field}
use Rattle.layout.specs.Paper.{refusal}
use Rattle.check_alone.specs.Mark.{Mark}
use Rattle.check_codes.specs.declared.Code.{Code}
use Rattle.check_codes.specs.Codes.{code_of, carries}
use Rattle.check_across.specs.declared.Sums.{Sums}
use Rattle.check_field.specs.Field.{field_of}
use Rattle.check_sums.specs.declared.State.{State}
use Rattle.check_record.specs.Verdict.{Verdict}
use Rattle.check_order.specs.Order.{complete}
use Rattle.check_sums.specs.Sums.{start, tally}
use Rattle.check_record.specs.Record.{found, fields_from, line_of, Piece, closing, stepped, onward, refused, accepted, run_from, length_fits, most_records, raw_records, piece_of, checked_of}
use Rattle.check_sums.proofs.SumLaws.{records_next}
use Rattle.check_record.proofs.Laws as laws
use Rattle.check_record.proofs.Ways.{rows_few}
use Rattle.layout.specs.Ways.{record_bytes}
use Rattle.view.specs.View.{View, entries_of, sum_over, debit_of, credit_of, amount_of, code_in, file_of, view_of, filler_record}
use Rattle.view.specs.Table.{shaped, formed, table_of}
use Rattle.view.specs.Outcome.{Spot, demand, and_then, room, made, read_of, write_of, entry_at, exists, spot_of, entry_number, batch_control_number, file_control_number, within, limits, alter_answer, altered, addendum_answer}
use Rattle.view_laws.proofs.Bridge.{accepted_view}
use Rattle.find_entry.proofs.Places.{in_order}
use Rattle.layout.specs.declared.Way.{Way}
use Rattle.layout.specs.Answers.{Checked}
use Rattle.csv_cells.specs.Cells.{lines_in, six_fields, six_texts}
use Rattle.csv_entry.specs.Entries.{field_right, field_fault, try, texts_verdict, line_verdict}
use Rattle.csv_entry.specs.Import.{line_answer, lines_answer, import_table, rows_fit, import_answer, import_of}
use Rattle.csv_entry.proofs.EntryLaws.{texts_many, lines_count}
use Rattle.funds.specs.Funds.{enough_rows, true_list}
use Rattle.funds.specs.Outcome.{check_answer, given, check_of}
use Rattle.alter.specs.Alter.{alter_listed_answer, alter_listed_of}
use Rattle.recall_view.specs.RecallView.{without, all_exist, take_out_answer, shortened, take_out_of}
use Rattle.table_write.specs.Judge.{writable}
use Rattle.mend.specs.Mend.{mended_file, changes_of, nine_at, only_nines, behind_nine, mend_of}
use Rattle.csv_export.specs.Export.{export_of}
use Rattle.csv_export.specs.Lining.{exported}

-- what is refused has a field and a record within these bounds
pub record Bounded (x : Refusal) : Type 0 where
  pub field : x.field ≤ 13
  pub number : x.record.0 ≤ 1000001

abbrev pub Low : Answer → Type 0
Low (Ok _) = Unit {0}
Low (Err x) = Bounded x

pub low_refused : (a : Answer) (x : Refusal) → Low a → a ≡ Err x → Bounded x
low_refused a x l e = rw e at l

-- ---- the check

-- no table has more than thirteen fields
abbrev LowVerdict : ℕ → Verdict → Type 0
LowVerdict n (Ok _) = Unit {0}
LowVerdict n (Err wrong) = wrong.field < n

fields_low : (k n : ℕ) (rows : List Row) (s : Sums) (h r : List ℕ) → k + length rows ≤ n → LowVerdict n (fields_from k rows s h r)
unfolding fields_from
fields_low k n [] s h r l = tt
fields_low k n (row ∷ rows) s h r l = go (field_of s h r row) (fields_low (k + 1) n rows s h r (omega (arith, l)))
  where
    go : (m : Mark) → LowVerdict n (fields_from (k + 1) rows s h r) → LowVerdict n (found m k (fields_from (k + 1) rows s h r))
    go (Ok _) later = later
    go (Err fault) later = omega (arith, l)

line_low : (line : Line) → first_field line + length (rows_of line) ≤ 14
line_low line = omega (arith, laws.first_le line, laws.rows_few line)

-- every record is counted
pub one_more : (st : State) (line : Line) (r : List ℕ) → (tally st line r).sums.records ≡ st.sums.records + 1
one_more st line r = records_next st.sums line r

abbrev pub carried : Verdict → State → State → List Piece → Checked
carried v next st ps = onward (stepped v next st).verdict (st.sums.records + 1) (run_from (stepped v next st).state ps)

run_low : (st : State) (ps : List Piece) → st.sums.records + length ps ≤ 1000000 → Low (run_from st ps).answer
unfolding run_from
run_low st [] l = go (complete st.place st.sums.records)
  where
    go : (b : Bool) → Low (pick b (accepted st) (refused Fault.Ended (st.sums.records + 1) 0)).answer
    go true = tt
    go false = record { field = lit≤ tt; number = omega (arith, l) }
run_low st (p ∷ ps) l =
    let r = p.columns in
    go p.closed (fields_from (first_field (line_of st r)) (rows_of (line_of st r)) st.sums st.header r)
    (fields_low (first_field (line_of st r)) 14 (rows_of (line_of st r)) st.sums st.header r (line_low (line_of st r)))
    (run_low (tally st (line_of st r) r) ps (omega (arith, l, one_more st (line_of st r) r)))
  where
    go : (b : Bool) (v : Verdict) → LowVerdict 14 v → Low (run_from (tally st (line_of st p.columns) p.columns) ps).answer
        → Low (carried (closing b v) (tally st (line_of st p.columns) p.columns) st ps).answer
    go true (Ok _) f later = later
    go true (Err wrong) f later = record { field = omega (arith, f); number = omega (arith, l) }
    go false (Ok _) f later = record { field = lit≤ tt; number = omega (arith, l) }
    go false (Err wrong) f later = record { field = omega (arith, f); number = omega (arith, l) }

file_low : (way : Way) (f : List ℕ) → Low (checked_of way f).answer
file_low way f = go (length_fits way (length f)) refl
  where
    go : (b : Bool) → length_fits way (length f) ≡ b → Low (pick b (run_from start (map (piece_of way) (raw_records way f))) (refused Fault.Length 0 0)).answer
    go false h = record { field = lit≤ tt; number = lit≤ tt }
    go true h =
        let w = record_bytes way in
        let most = leb-true (length f) (w * most_records) (and_both (leb 1 (length f) && eqb (length f % w) 0) (leb (length f) (w * most_records)) h).1 in
        let many = length-map (raw_records way f) (piece_of way) ∙ length_rows w (length f / w) f in
        run_low start (map (piece_of way) (raw_records way f)) (omega (arith, many, rows_few way (length f) most))

-- ---- the other questions

low_then : (a b : Answer) → Low a → (a ≡ Ok tt → Low b) → Low (and_then a b)
low_then (Ok _) b l m = m refl
low_then (Err x) b l m = l

low_demand : (t : Bool) (refuse rest : Answer) → Low refuse → (t ≡ true → Low rest) → Low (demand t refuse rest)
low_demand true refuse rest l m = m refl
low_demand false refuse rest l m = l

-- a refusal of the whole, of no record and no field
low_whole : (fault : Fault) → Low (refusal fault 0 0)
low_whole fault = record { field = lit≤ tt; number = lit≤ tt }

low_made : (x : Answer) (result buffer : List ℕ) → Low x → Low (made x result buffer).gives.answer
low_made (Ok _) result buffer l = tt
low_made (Err x) result buffer l = l

low_altered : (x : Answer) (d : ℤ) (result f : List ℕ) → Low x → Low (altered x d result f).gives.answer
low_altered (Ok _) d result f l = tt
low_altered (Err x) d result f l = l

low_shortened : (x : Answer) (result f : List ℕ) → Low x → Low (shortened x result f).gives.answer
low_shortened (Ok _) result f l = tt
low_shortened (Err x) result f l = l

low_room : (result buffer : List ℕ) → Low (room result buffer)
low_room result buffer = low_demand (leb (length result) (length buffer)) (refusal Fault.Room 0 0) (Ok tt) (low_whole Fault.Room) λ e. tt

low_given : (x : Answer) (c : Checked) → Low x → Low c.answer → Low (given x c).answer
low_given (Ok _) c l m = m
low_given (Err r) c l m = record { field = l.field; number = l.number }

pub check_low : (way : Way) (f held : List ℕ) → Low (check_of way f held).gives.answer
check_low way f held =
    let last = demand (enough_rows (view_of way f) (length held)) (refusal Fault.Room 0 0) (Ok tt) in
    low_given (check_answer way f held) (checked_of way f)
    (low_then (checked_of way f).answer last (file_low way f) λ e. low_demand (enough_rows (view_of way f) (length held)) (refusal Fault.Room 0 0) (Ok tt) (low_whole Fault.Room) λ x. tt)
    (file_low way f)

pub read_low : (way : Way) (f table : List ℕ) → Low (read_of way f table).gives.answer
read_low way f table =
    low_made (and_then (checked_of way f).answer (room (table_of way f) table)) (table_of way f) table
    (low_then (checked_of way f).answer (room (table_of way f) table) (file_low way f) λ e. low_room (table_of way f) table)

pub write_low : (way : Way) (t file : List ℕ) → Low (write_of way t file).gives.answer
write_low way t file =
    let tried = and_then (checked_of way (formed way t)).answer (room (formed way t) file) in
    low_made (demand (shaped t) (refusal Fault.Shape 0 0) tried) (formed way t) file
    (low_demand (shaped t) (refusal Fault.Shape 0 0) tried (low_whole Fault.Shape)
    λ h. low_then (checked_of way (formed way t)).answer (room (formed way t) file) (file_low way (formed way t)) λ e. low_room (formed way t) file)

-- "4 names the first record behind the 9", which is one of the lent file's
nines_low : (n : ℕ) (rs : List (List ℕ)) → (0 < length rs → n + length rs ≤ 1000002) → Low (only_nines n rs)
unfolding only_nines
nines_low n [] l = tt
nines_low n (r ∷ rs) l =
    let few : n + length (r ∷ rs) ≤ 1000002 = l (omega arith) in
    low_demand (same_bytes (take 94 r) filler_record) (refusal Fault.Past n 0) (only_nines (n + 1) rs) (record { field = lit≤ tt; number = omega (arith, few) })
    λ e. nines_low (n + 1) rs λ h. omega (arith, few)

behind_low : (way : Way) (f : List ℕ) → length_fits way (length f) ≡ true → Low (behind_nine (raw_records way f))
behind_low way f h =
    let w = record_bytes way in
    let rs = raw_records way f in
    let most = leb-true (length f) (w * most_records) (and_both (leb 1 (length f) && eqb (length f % w) 0) (leb (length f) (w * most_records)) h).1 in
    let many = length_rows w (length f / w) f in
    nines_low (nine_at rs + 2) (drop (nine_at rs + 1) rs) λ some. omega (arith, some, length-drop (nine_at rs + 1) rs, many, rows_few way (length f) most)

pub mend_low : (way : Way) (f held list : List ℕ) → Low (mend_of way f held list).gives.answer
mend_low way f held list =
    let checked = (checked_of way (mended_file way f)).answer in
    let enough = leb (length (mended_file way f)) (length held) && leb (length (changes_of way f)) (length list) in
    let last = demand enough (refusal Fault.Room 0 0) (Ok tt) in
    low_demand (length_fits way (length f)) (refusal Fault.Length 0 0) (and_then checked (and_then (behind_nine (raw_records way f)) last)) (low_whole Fault.Length)
    λ h. low_then checked (and_then (behind_nine (raw_records way f)) last) (file_low way (mended_file way f))
    λ e. low_then (behind_nine (raw_records way f)) last (behind_low way f h)
    λ g. low_demand enough (refusal Fault.Room 0 0) (Ok tt) (low_whole Fault.Room) λ x. tt

pub addendum_low : (way : Way) (f : List ℕ) (k : ℕ) → Low (addendum_answer way f k)
addendum_low way f k =
    low_then (checked_of way f).answer _ (file_low way f)
    λ e. low_demand (exists (view_of way f) k) (refusal Fault.NoEntry 0 0) (Ok tt) (low_whole Fault.NoEntry) λ h. tt

two_low : (t u : Bool) (m n j k : ℕ) → m ≤ 1000001 → n ≤ 1000001 → j ≤ 13 → k ≤ 13 → Low (demand t (refusal Fault.Limit m j) (demand u (refusal Fault.Limit n k) (Ok tt)))
two_low false u m n j k p q f g = record { field = f; number = p }
two_low true false m n j k p q f g = record { field = g; number = q }
two_low true true m n j k p q f g = tt

limits_low : (v : View) (s : Spot) (c : Code) (old new : ℕ) → batch_control_number s ≤ 1000001 → file_control_number v ≤ 1000001 → Low (limits v s c old new)
limits_low v s Code.Unknown old new p q = tt
limits_low v s (Code.Credit u) old new p q =
    two_low (within (sum_over credit_of s.batch.entries) old new) (within (sum_over credit_of (entries_of v)) old new) (batch_control_number s) (file_control_number v) 6 7 p q (lit≤ tt) (lit≤ tt)
limits_low v s (Code.Debit u) old new p q =
    two_low (within (sum_over debit_of s.batch.entries) old new) (within (sum_over debit_of (entries_of v)) old new) (batch_control_number s) (file_control_number v) 5 6 p q (lit≤ tt) (lit≤ tt)

alter_answer_low : (way : Way) (f : List ℕ) (k a : ℕ) → Low (alter_answer way f k a)
alter_answer_low way f k a =
    let v = view_of way f in
    let c = code_of (code_in (entry_at v k)) in
    let amount = refusal Fault.Amount (entry_number (spot_of v k)) 6 in
    let last = limits v (spot_of v k) c (amount_of (entry_at v k)) a in
    low_then (checked_of way f).answer (demand (exists v k) (refusal Fault.NoEntry 0 0) (demand (carries c a) amount last)) (file_low way f)
    λ g. low_demand (exists v k) (refusal Fault.NoEntry 0 0) (demand (carries c a) amount last) (low_whole Fault.NoEntry)
    λ x.
    let b = and_both (leb 1 k) (leb k (length (entries_of v))) x in
    let order = in_order v k (leb-true 1 k b.0) (leb-true k (length (entries_of v)) b.1) in
    let fits = (accepted_view way f g).keeps.fits in
    low_demand (carries c a) amount last (record { field = lit≤ tt; number = omega (arith, order.0, order.1, order.2, fits) })
    λ y. limits_low v (spot_of v k) c (amount_of (entry_at v k)) a (omega (arith, order.1, order.2, fits)) (omega (arith, order.2, fits))

pub alter_low : (way : Way) (f held : List ℕ) (k a : ℕ) → Low (alter_listed_of way f held k a).gives.answer
alter_low way f held k a =
    low_altered (alter_listed_answer way f held k a) _ _ f
    (low_then (checked_of way f).answer (demand (true_list way f held) (refusal Fault.Rows 0 0) (alter_answer way f k a)) (file_low way f)
    λ g. low_demand (true_list way f held) (refusal Fault.Rows 0 0) (alter_answer way f k a) (low_whole Fault.Rows)
    λ t. alter_answer_low way f k a)

pub recall_low : (way : Way) (f ns held : List ℕ) → Low (take_out_of way f ns held).gives.answer
recall_low way f ns held =
    let v = view_of way f in
    let left = leb 1 (length (entries_of (without v ns))) in
    let none = refusal Fault.NoneLeft 0 0 in
    let enough = enough_rows (without v ns) (length held) in
    let last = demand enough (refusal Fault.Room 0 0) (Ok tt) in
    low_shortened (take_out_answer way f ns (length held)) (file_of way (without v ns)) f
    (low_then (checked_of way f).answer (demand (all_exist v ns) (refusal Fault.NoEntry 0 0) (demand left none last)) (file_low way f)
    λ g. low_demand (all_exist v ns) (refusal Fault.NoEntry 0 0) (demand left none last) (low_whole Fault.NoEntry)
    λ x. low_demand left none last (low_whole Fault.NoneLeft)
    λ y. low_demand enough (refusal Fault.Room 0 0) (Ok tt) (low_whole Fault.Room) λ z. tt)

-- ---- client lists

pub export_low : (t lines : List ℕ) → Low (export_of t lines).gives.answer
export_low t lines =
    low_made (and_then (writable t) (room (exported t) lines)) (exported t) lines
    (low_then (writable t) (room (exported t) lines)
    (low_demand (shaped t) (refusal Fault.Shape 0 0) (checked_of Way.Plain (formed Way.Plain t)).answer (low_whole Fault.Shape) λ h. file_low Way.Plain (formed Way.Plain t))
    λ e. low_room (exported t) lines)

-- a line's number stands for the record, and may be larger than that of any record: these bounds are those of a code's bits
abbrev pub Coded : Answer → Type 0
Coded (Ok _) = Unit {0}
Coded (Err x) = (x.field ≤ 13) × (x.record.0 ≤ 4294967295)

pub low_coded : (a : Answer) → Low a → Coded a
low_coded (Ok _) l = tt
low_coded (Err x) l = (l.field, omega (arith, l.number))

coded_then : (a b : Answer) → Coded a → Coded b → Coded (and_then a b)
coded_then (Ok _) b l m = m
coded_then (Err x) b l m = l

coded_made : (x : Answer) (result buffer : List ℕ) → Coded x → Coded (made x result buffer).gives.answer
coded_made (Ok _) result buffer l = tt
coded_made (Err x) result buffer l = l

texts_low : (k n : ℕ) (ps : List (List ℕ)) → k + length ps ≤ n → LowVerdict n (texts_verdict k ps)
unfolding texts_verdict
texts_low k n [] h = tt
texts_low k n (p ∷ ps) h = go (field_right k p) (texts_low (k + 1) n ps (omega arith))
  where
    go : (b : Bool) → LowVerdict n (texts_verdict (k + 1) ps) → LowVerdict n (try b (field_fault k) k (texts_verdict (k + 1) ps))
    go true l = l
    go false l = omega arith

list_line_low : (l : List ℕ) → LowVerdict 14 (line_verdict l)
list_line_low l = go (six_fields l) (texts_low 1 14 (six_texts l) (omega (arith, texts_many 5 l 0)))
  where
    go : (b : Bool) → LowVerdict 14 (texts_verdict 1 (six_texts l)) → LowVerdict 14 (try b Fault.Comma 0 (texts_verdict 1 (six_texts l)))
    go true m = m
    go false m = lit< tt

lines_coded : (k : ℕ) (ls : List (List ℕ)) → k + length ls ≤ 4294967296 → Coded (lines_answer k ls)
unfolding lines_answer
lines_coded k [] h = tt
lines_coded k (l ∷ ls) h = go (line_verdict l) (list_line_low l) (lines_coded (k + 1) ls (omega arith))
  where
    go : (v : Verdict) → LowVerdict 14 v → Coded (lines_answer (k + 1) ls) → Coded (line_answer v k (lines_answer (k + 1) ls))
    go (Ok _) low rest = rest
    go (Err wrong) low rest = (omega arith, omega arith)

pub import_coded : (filerow batchrow lines table : List ℕ) → length lines ≤ 4294967295 → Coded (import_of filerow batchrow lines table).gives.answer
import_coded filerow batchrow lines table h =
    let t = import_table filerow batchrow lines in
    let checked = (checked_of Way.Plain (formed Way.Plain t)).answer in
    coded_made (and_then (import_answer filerow batchrow lines) (room t table)) t table
    (coded_then (import_answer filerow batchrow lines) (room t table)
    (coded_then (lines_answer 1 (lines_in lines)) _ (lines_coded 1 (lines_in lines) (omega (arith, lines_count lines)))
    (low_coded (demand (rows_fit filerow batchrow lines) (refusal Fault.Shape 0 0) checked) (low_demand (rows_fit filerow batchrow lines) (refusal Fault.Shape 0 0) checked (low_whole Fault.Shape) λ e. file_low Way.Plain (formed Way.Plain t))))
    (low_coded (room t table) (low_room t table)))
