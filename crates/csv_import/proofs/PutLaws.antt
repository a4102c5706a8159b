-- The parts of the table, put one behind the other.
-- Assumes nothing.
use Prim.Native.Nat.{ℕ, ◌≤◌}
use native.Mathlib.Nat.{zero-add}
use native.Mathlib.Omega.{arith}
use mathlib.Core.Path.{◌≡◌, sym, ap, ◌∙◌}
use mathlib.Core.List.{List, [], ◌∷◌, ◌++◌}
use lib.ListN.{length, take, drop}
use lib.Seq.{sets, sets-eq, take_all}
use Rattle.text.specs.Decimal.{render}
use Rattle.text.specs.Rows.{joined}
use Rattle.csv_cells.specs.Cells.{lines_in}
use Rattle.csv_entry.specs.Import.{bank_in, import_table}
use Rattle.table_read.specs.WorkPuts.{Puts, Room}
use Rattle.table_read.proofs.Writing.{puts_both, Left, left_room, left_next, left_end}
use Rattle.csv_import.specs.WorkListing.{head_bytes, rows_bytes}
use Rattle.csv_import.proofs.TableLaws.{table_form}

-- ---- one row

module _ {rows rows' : List (List ℕ)} {row : List ℕ} (e : rows ≡ row ∷ rows') (l : length row ≡ 93) {all was here : List ℕ} {start to : ℕ} (left : Left (joined rows) all was here start to) where
  row_first : joined rows ≡ take 93 row ++ joined rows'
  unfolding joined
  row_first = ap joined e ∙ ap (λ r. r ++ joined rows') (sym (take_all 93 row (omega arith)))

  pub row_room : Room all was start → Room (take 93 row) here to
  row_room r = left_room left (take 93 row) (joined rows') row_first r

  pub row_next : {after : List ℕ} {next : ℕ} → Puts (take 93 row) here after to next → Left (joined rows') all was after start next
  row_next {after} {next} q = left_next left (take 93 row) (joined rows') after next row_first q

pub rows_end : {rows : List (List ℕ)} {all was here : List ℕ} {start to : ℕ} → rows ≡ [] → Left (joined rows) all was here start to → Puts all was here start to
unfolding joined
rows_end e left = left_end left (ap joined e)

-- ---- the table

-- the head, the rows and the last count are the table
module _ (filerow batchrow lines : List ℕ) (f : length filerow ≡ 85) (b : length batchrow ≡ 95) (n : ℕ) (c : n ≡ length (lines_in lines)) where
  abbrev rows_and_end : List ℕ
  rows_and_end = rows_bytes (bank_in batchrow) 1 (lines_in lines) ++ render 6 0

  form : head_bytes filerow batchrow n ++ rows_and_end ≡ import_table filerow batchrow lines
  form = ap (λ m. head_bytes filerow batchrow m ++ rows_and_end) c ∙ sym (table_form filerow batchrow lines f b)

  pub table_room : {t : List ℕ} → length (import_table filerow batchrow lines) ≤ length t → Room (head_bytes filerow batchrow n ++ (rows_bytes (bank_in batchrow) 1 (lines_in lines) ++ render 6 0)) t 0
  table_room h = record { fits = omega (arith, ap length form) }

  pub table_put : {t t₁ t₂ t₃ : List ℕ} {rows end next : ℕ} → length (import_table filerow batchrow lines) ≤ length t
      → Puts (head_bytes filerow batchrow n) t t₁ 0 rows → Puts (rows_bytes (bank_in batchrow) 1 (lines_in lines)) t₁ t₂ rows end → Puts (render 6 0) t₂ t₃ end next
      → t₃ ≡ import_table filerow batchrow lines ++ drop (length (import_table filerow batchrow lines)) t
  table_put {t} h p q r =
      let all = import_table filerow batchrow lines in
      (puts_both p (puts_both q r)).stands ∙ ap (sets t 0) form ∙ sets-eq all t 0 (omega arith) ∙ rw (zero-add (length all))
