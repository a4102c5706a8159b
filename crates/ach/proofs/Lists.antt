-- What request 4 asks of client lists, over the contracts of import and export.
-- Assumes nothing.
use Rattle.std.specs.Prelude.{Ok, Err}
use Prim.Native.Nat.{ℕ, ◌≤◌}
use mathlib.Core.Path.{◌≡◌, refl, sym, ap, ap₂, ◌∙◌, subst}
use mathlib.Core.Logic.{◌↔◌}
use mathlib.Core.Bool.{true}
use mathlib.Core.List.{List, append-nil}
use lib.ListN.{length, take}
use borrow.Author.Tests.{le-leb}
use Rattle.layout.specs.declared.Refusal.{Refusal}
use Rattle.layout.specs.Answers.{Made}
use Rattle.layout.specs.declared.Fault.{Fault}
use Rattle.layout.specs.declared.Way.{Way}
use Rattle.view.specs.View.{entries_of, view_of}
use Rattle.view.specs.Table.{formed}
use Rattle.view.specs.Outcome.{demand, and_then, room}
use Rattle.layout.specs.Paper.{refusal}
use Rattle.view_laws.proofs.Answers.{then_granted}
use Rattle.view_laws.proofs.Tables.{view_of_table_lem, view_of_formed}
use Rattle.table_write.specs.Judge.{writable}
use Rattle.csv_cells.specs.Cells.{lines_in}
use Rattle.csv_entry.specs.Entries.{entries_of_lines}
use Rattle.csv_entry.specs.Import.{lines_answer, bank_in, import_view, import_table, rows_fit, import_answer, import_of}
use Rattle.csv_export.specs.Lining.{exported}
use Rattle.csv_export.specs.Export.{export_of}
use Rattle.ach.proofs.RoundTrip.{SameFields, export_import}
use Rattle.csv_import.proofs.TableLaws.{entries_many, import_sized}
use Rattle.csv_import.proofs.Judging.{table_right, rows_fit_lem, import_granted}
use Rattle.ach.specs.Permits.{Imports, Exports}
use Rattle.ach.proofs.Grants.{answered, made_refused, room_granted}

-- ---- every input has one outcome, and no other is permitted

pub import_ends : (filerow batchrow lines held : List ℕ) → (r : Made) × (left : List ℕ) × Imports filerow batchrow lines held r left
import_ends filerow batchrow lines held = ((import_of filerow batchrow lines held).gives, (import_of filerow batchrow lines held).leaves, (refl, refl))

pub export_ends : (t held : List ℕ) → (r : Made) × (left : List ℕ) × Exports t held r left
export_ends t held = ((export_of t held).gives, (export_of t held).leaves, (refl, refl))

pub import_one : (filerow batchrow lines held left kept : List ℕ) (r s : Made) → Imports filerow batchrow lines held r left → Imports filerow batchrow lines held s kept → (r ≡ s) × (left ≡ kept)
import_one filerow batchrow lines held left kept r s p q = (p.0 ∙ sym q.0, p.1 ∙ sym q.1)

pub export_one : (t held left kept : List ℕ) (r s : Made) → Exports t held r left → Exports t held s kept → (r ≡ s) × (left ≡ kept)
export_one t held left kept r s p q = (p.0 ∙ sym q.0, p.1 ∙ sym q.1)

-- ---- a refusal touches nothing

pub import_refused : (filerow batchrow lines held left : List ℕ) (r : Made) (x : Refusal) → Imports filerow batchrow lines held r left → r.answer ≡ Err x → left ≡ held
import_refused filerow batchrow lines held left r x p e =
    p.1 ∙ (made_refused (and_then (import_answer filerow batchrow lines) (room (import_table filerow batchrow lines) held)) (import_table filerow batchrow lines) held x (sym (ap (λ m. m.answer) p.0) ∙ e)).0

pub export_refused : (t held left : List ℕ) (r : Made) (x : Refusal) → Exports t held r left → r.answer ≡ Err x → left ≡ held
export_refused t held left r x p e =
    p.1 ∙ (made_refused (and_then (writable t) (room (exported t) held)) (exported t) held x (sym (ap (λ m. m.answer) p.0) ∙ e)).0

-- ---- "import is granted exactly if the table it would write would be written, given room"

module _ (filerow batchrow lines : List ℕ) where
  -- where no line is faulty and the rows fit, importing judges as writing does
  pub judged_as_written : lines_answer 1 (lines_in lines) ≡ Ok tt → rows_fit filerow batchrow lines ≡ true → import_answer filerow batchrow lines ≡ writable (import_table filerow batchrow lines)
  judged_as_written g e =
      let fit = rows_fit_lem filerow batchrow lines e in
      rw (g, e, table_right filerow batchrow lines fit.file fit.batch g fit.few) refl

  pub exactly_imported : (held : List ℕ) → ((import_of filerow batchrow lines held).gives.answer ≡ Ok tt)
      ↔ ((lines_answer 1 (lines_in lines) ≡ Ok tt) × (rows_fit filerow batchrow lines ≡ true) × (writable (import_table filerow batchrow lines) ≡ Ok tt) × (length (import_table filerow batchrow lines) ≤ length held))
  exactly_imported held = (
    λ e.
        let a = then_granted (import_answer filerow batchrow lines) (room (import_table filerow batchrow lines) held) (sym (answered _ (import_table filerow batchrow lines) held) ∙ e) in
        let p = import_granted filerow batchrow lines a.0 in
        (p.0, p.1, sym (judged_as_written p.0 p.1) ∙ a.0, room_granted (import_table filerow batchrow lines) held a.1),
    λ h.
        let all : and_then (import_answer filerow batchrow lines) (room (import_table filerow batchrow lines) held) ≡ Ok tt =
        ap (λ a. and_then a (room (import_table filerow batchrow lines) held)) (judged_as_written h.0 h.1 ∙ h.2)
        ∙ ap (λ b. demand b (refusal Fault.Room 0 0) (Ok tt)) (le-leb (length (import_table filerow batchrow lines)) (length held) h.3) in
        answered _ (import_table filerow batchrow lines) held ∙ all,
  )

  -- ---- "an import's table, written, is a file whose entries are the lines in order; every line is one entry"

  module _ (g : import_answer filerow batchrow lines ≡ Ok tt) where
    pub file_of_lines : (way : Way) → view_of way (formed way (import_table filerow batchrow lines)) ≡ import_view filerow batchrow lines
    file_of_lines way =
        let p = import_granted filerow batchrow lines g in
        let fit = rows_fit_lem filerow batchrow lines p.1 in
        view_of_formed way (import_table filerow batchrow lines) (table_right filerow batchrow lines fit.file fit.batch p.0 fit.few)
        ∙ view_of_table_lem (import_view filerow batchrow lines) (import_sized filerow batchrow lines fit.file fit.batch p.0 fit.few)

    pub entries_of_lines_lem : (way : Way) → entries_of (view_of way (formed way (import_table filerow batchrow lines))) ≡ entries_of_lines (bank_in batchrow) 1 (lines_in lines)
    entries_of_lines_lem way = ap entries_of (file_of_lines way) ∙ append-nil (entries_of_lines (bank_in batchrow) 1 (lines_in lines))

    pub one_entry_a_line : (way : Way) → length (entries_of (view_of way (formed way (import_table filerow batchrow lines)))) ≡ length (lines_in lines)
    one_entry_a_line way = ap length (entries_of_lines_lem way) ∙ entries_many (bank_in batchrow) 1 (lines_in lines)

-- ---- "importing it, where granted, gives the six fields back"

-- the lines that an export made of a table, imported under any rows: as many entries, and the six fields of each are those of the table
pub six_fields_back : (filerow batchrow t held left memory kept : List ℕ) (r s : Made) → Exports t held r left → r.answer ≡ Ok tt
    → Imports filerow batchrow (take r.length left) memory s kept → s.answer ≡ Ok tt → SameFields (take s.length kept) t
six_fields_back filerow batchrow t held left memory kept r s p e q h =
    let made-lines = take (export_of t held).gives.length (export_of t held).leaves in
    let lines_are : take r.length left ≡ made-lines = ap₂ (λ (m : Made) (l : List ℕ). take m.length l) p.0 p.1 in
    let u = subst (λ l. Imports filerow batchrow l memory s kept) lines_are q in
    subst (λ x. SameFields x t) (sym (ap₂ (λ (m : Made) (l : List ℕ). take m.length l) u.0 u.1))
    (export_import filerow batchrow t held memory (sym (ap (λ (m : Made). m.answer) p.0) ∙ e) (sym (ap (λ (m : Made). m.answer) u.0) ∙ h))
