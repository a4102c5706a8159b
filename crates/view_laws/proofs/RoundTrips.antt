-- Reading and writing undo one another, as definitions and as outcomes of the two questions.
-- Assumes the file's acceptance, or the table's shape.
use Rattle.std.specs.Prelude.{Ok, Err}
use mathlib.Core.Path.{◌≡◌, refl, sym, ap, ◌∙◌}
use mathlib.Core.Bool.{Bool, true}
use mathlib.Core.List.{List, [], ◌∷◌, ◌++◌, map}
use Prim.Native.Nat.{ℕ, ◌+◌, ◌*◌, ◌≤◌}
use Rattle.std.proofs.Common.{rules}
use native.Mathlib.Omega.{arith}
use lib.ListN.{length, take, drop, length-append, length-map}
use lib.Seq.{take-append_seam}
use Rattle.text.specs.Rows.{section}
use Rattle.text.proofs.RowLaws.{length_section}
use Rattle.layout.specs.declared.Fault.{Fault}
use Rattle.layout.specs.Answers.{Answer}
use Rattle.check_record.specs.Record.{checked_of}
use Rattle.view.specs.View.{View, entries_of, records_of, view_of}
use Rattle.view.specs.Table.{count_wide, file_wide, batch_wide, entry_wide, addendum_wide, batch_row, addenda_of, table_bytes, view_of_table, shaped, formed, table_of}
use Rattle.view.specs.Outcome.{demand, and_then, room, made, read_of, write_of}
use Rattle.layout.specs.Paper.{refusal}
use Rattle.view.specs.Sized.{Sized}
use Rattle.view_laws.proofs.Reading.{file_length}
use Rattle.view_laws.proofs.Tables.{entries_sized, rows_of_batches, rows_of_entries, texts_of_entries, table_shaped, shaped_sized, formed_of_table, table_of_formed}
use Rattle.view_laws.proofs.Bridge.{accepted_view}
use Rattle.view_laws.proofs.Own.{own_entries}
use Rattle.view_laws.proofs.Answers.{demand_granted, then_granted}
use Rattle.layout.specs.declared.Way.{Way}
use Rattle.layout.specs.Ways.{record_bytes}

-- ---- as definitions

-- an accepted file's table has the right shape, and the file is formed of it again
pub file_back : (way : Way) (f : List ℕ) → (checked_of way f).answer ≡ Ok tt → (shaped (table_of way f) ≡ true) × (formed way (table_of way f) ≡ f)
file_back way f e =
    let p = accepted_view way f e in
    (table_shaped (view_of way f) p.sized, formed_of_table way (view_of way f) p.sized ∙ sym p.form)

-- a table of right shape is the table of the file that is formed of it, whether that file is accepted or not
pub table_back : (way : Way) (t : List ℕ) → shaped t ≡ true → table_of way (formed way t) ≡ t
table_back way t h = table_of_formed way t h

-- that file has so many bytes for each record
pub formed_length : (way : Way) (t : List ℕ) → shaped t ≡ true → length (formed way t) ≡ record_bytes way * length (records_of (view_of_table t))
formed_length way t h = file_length way (view_of_table t) (shaped_sized t h)

-- four texts one behind the other
length_four : (a b c d : List ℕ) → length (a ++ (b ++ (c ++ d))) ≡ length a + (length b + (length c + length d))
length_four a b c d = rw (length-append a (b ++ (c ++ d)), length-append b (c ++ d), length-append c d)

view_table_length : (v : View) → Sized v
    → length (table_bytes v) ≡ 109 + batch_wide * length v.batches + entry_wide * length (entries_of v) + addendum_wide * length (addenda_of v)
view_table_length v s =
    let es = entries_sized v.batches s.each in
    let rs = map (λ e. e.row) (entries_of v) in
    let bs = map batch_row v.batches in
    let four = length_four (section count_wide (v.row ∷ [])) (section count_wide bs) (section count_wide rs) (section count_wide (addenda_of v)) in
    let files = length_section count_wide file_wide (v.row ∷ []) (s.long, tt) in
    let batches = length_section count_wide batch_wide bs (rows_of_batches v.batches s.each) in
    let entries = length_section count_wide entry_wide rs (rows_of_entries (entries_of v) es) in
    let addenda = length_section count_wide addendum_wide (addenda_of v) (texts_of_entries (entries_of v) es) in
    four ∙ rw (files, batches, entries, addenda, length-map v.batches batch_row, length-map (entries_of v) (λ e. e.row)) (omega arith)

-- an accepted file's table is so long as its acceptance tells: "109 + 95 × batches + 93 × entries + 80 × addenda"
pub table_length : (way : Way) (f : List ℕ) → (checked_of way f).answer ≡ Ok tt
    → length (table_of way f) ≡ 109 + 95 * (checked_of way f).batches + 93 * (checked_of way f).entries + 80 * (checked_of way f).addenda
table_length way f e =
    let told = own_entries way f e in
    view_table_length (view_of way f) (accepted_view way f e).sized ∙ rw (told.batches, told.entries, told.addenda)

-- ---- as outcomes

-- what a question says that it made stands in front of what it leaves
front : (a : Answer) (result buffer : List ℕ) → (made a result buffer).gives.answer ≡ Ok tt
    → (a ≡ Ok tt) × (take (made a result buffer).gives.length (made a result buffer).leaves ≡ result)
front (Ok _) result buffer e = (refl, take-append_seam result (drop (length result) buffer))
front (Err r) result buffer e = cc

wrote : (s : Bool) (a : Answer) (result buffer : List ℕ) → s ≡ true → a ≡ Ok tt → length result ≤ length buffer
    → made (demand s (refusal Fault.Shape 0 0) (and_then a (room result buffer))) result buffer ≡ made (Ok tt) result buffer
wrote s a result buffer h g l = search rules

-- a table of right shape, whose file is accepted and finds room, is written
pub write_done : (way : Way) (t file : List ℕ) → shaped t ≡ true → (checked_of way (formed way t)).answer ≡ Ok tt → length (formed way t) ≤ length file
    → write_of way t file ≡ made (Ok tt) (formed way t) file
write_done way t file h g l = wrote (shaped t) (checked_of way (formed way t)).answer (formed way t) file h g l

-- an accepted file whose table finds room is read
pub read_done : (way : Way) (f table : List ℕ) → (checked_of way f).answer ≡ Ok tt → length (table_of way f) ≤ length table
    → read_of way f table ≡ made (Ok tt) (table_of way f) table
read_done way f table g l = wrote true (checked_of way f).answer (table_of way f) table refl g l

-- read, then written where there is room: granted, and the file stands in front
pub read_write : (way : Way) (f table file : List ℕ) → (read_of way f table).gives.answer ≡ Ok tt → length f ≤ length file
    → write_of way (take (read_of way f table).gives.length (read_of way f table).leaves) file ≡ made (Ok tt) f file
read_write way f table file e l =
    let a = front (and_then (checked_of way f).answer (room (table_of way f) table)) (table_of way f) table e in
    let g = (then_granted (checked_of way f).answer (room (table_of way f) table) a.0).0 in
    let b = file_back way f g in
    ap (λ t. write_of way t file) a.1
    ∙ wrote (shaped (table_of way f)) (checked_of way (formed way (table_of way f))).answer (formed way (table_of way f)) file
    b.0 (ap (λ x. (checked_of way x).answer) b.1 ∙ g) (rw b.1 l)
    ∙ ap (λ x. made (Ok tt) x file) b.1

-- written, then read where there is room: granted, and the table stands in front
pub write_read : (way : Way) (t file table : List ℕ) → (write_of way t file).gives.answer ≡ Ok tt → length t ≤ length table
    → read_of way (take (write_of way t file).gives.length (write_of way t file).leaves) table ≡ made (Ok tt) t table
write_read way t file table e l =
    let tried = and_then (checked_of way (formed way t)).answer (room (formed way t) file) in
    let a = front (demand (shaped t) (refusal Fault.Shape 0 0) tried) (formed way t) file e in
    let h = demand_granted (shaped t) _ tried a.0 in
    let g = (then_granted (checked_of way (formed way t)).answer (room (formed way t) file) h.1).0 in
    let b = table_back way t h.0 in
    ap (λ f. read_of way f table) a.1 ∙ read_done way (formed way t) table g (rw b l) ∙ ap (λ x. made (Ok tt) x table) b
