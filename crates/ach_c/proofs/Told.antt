-- A code tells the whole answer: nothing of number, field and record is cut.
-- Assumes nothing.
use Rattle.std.specs.Prelude.{Ok, Err}
use Prim.Native.Nat.{ℕ, ◌+◌, ◌*◌, ◌/◌, ◌%◌, ◌≤◌}
use mathlib.Core.Path.{◌≡◌, refl}
use mathlib.Core.Logic.{◌↔◌}
use mathlib.Core.List.{List}
use lib.ListN.{length}
use native.Mathlib.Omega.{arith}
use Rattle.layout.specs.Answers.{Answer}
use Rattle.layout.specs.Paper.{paper_of}
use Rattle.funds.specs.Outcome.{check_of}
use Rattle.alter.specs.Alter.{alter_listed_of}
use Rattle.view.specs.Outcome.{read_of, write_of, addendum_answer}
use Rattle.recall_view.specs.RecallView.{take_out_of}
use Rattle.mend.specs.Mend.{mend_of}
use Rattle.csv_entry.specs.Import.{import_of}
use Rattle.csv_export.specs.Export.{export_of}
use Rattle.view_laws.proofs.Answers.{not_granted}
use Rattle.layout.specs.declared.Way.{Way}
use Rattle.ach.proofs.Bounds.{Coded, low_coded, import_coded, export_low, check_low, read_low, write_low, alter_low, recall_low, mend_low, addendum_low}
use Rattle.ach.proofs.ToldLaws.{number_range}
use Rattle.ach.specs.Told.{code_of_answer}

-- the code c gives the three numbers back, and is 0 exactly if it is granted
pub record Told (c : ℕ) (a : Answer) : Type 0 where
  pub number : c % 256 ≡ (paper_of a).number
  pub field_no : c / 256 % 256 ≡ (paper_of a).field_no
  pub record_no : c / 65536 ≡ (paper_of a).record_no
  pub granted : (c ≡ 0) ↔ (a ≡ Ok tt)

-- three small numbers, packed and unpacked
module _ (n f r : ℕ) (p : n ≤ 34) (q : f ≤ 13) (l : r ≤ 4294967295) where
  abbrev code : ℕ
  code = n + 256 * (f % 256) + 65536 * (r % 4294967296)

  unpacked : (code % 256 ≡ n) × (code / 256 % 256 ≡ f) × (code / 65536 ≡ r)
  unpacked = (omega (arith, p, q, l), omega (arith, p, q, l), omega (arith, p, q, l))

  not_zero : 1 ≤ n → code ≡ 0 → ⊥
  not_zero m e = omega (arith, m, e)

told : (a : Answer) → Coded a → Told (code_of_answer a) a
told (Ok _) l = record { number = refl; field_no = refl; record_no = refl; granted = (λ e. refl, λ e. refl) }
told (Err x) l =
    let n = number_range x.fault in
    let u = unpacked _ x.field x.record.0 n.1 l.0 l.1 in
    record {
      number = u.0;
      field_no = u.1;
      record_no = u.2;
      granted = (λ e. absurd (not_zero _ x.field x.record.0 n.1 l.0 l.1 n.0 e), not_granted);
    }

-- so it is with each of the nine functions that may refuse
pub check_told : (way : Way) (f held : List ℕ) → Told (code_of_answer (check_of way f held).gives.answer) (check_of way f held).gives.answer
check_told way f held = told (check_of way f held).gives.answer (low_coded (check_of way f held).gives.answer (check_low way f held))

pub read_told : (way : Way) (f table : List ℕ) → Told (code_of_answer (read_of way f table).gives.answer) (read_of way f table).gives.answer
read_told way f table = told (read_of way f table).gives.answer (low_coded (read_of way f table).gives.answer (read_low way f table))

pub write_told : (way : Way) (t file : List ℕ) → Told (code_of_answer (write_of way t file).gives.answer) (write_of way t file).gives.answer
write_told way t file = told (write_of way t file).gives.answer (low_coded (write_of way t file).gives.answer (write_low way t file))

pub alter_told : (way : Way) (f held : List ℕ) (k a : ℕ) → Told (code_of_answer (alter_listed_of way f held k a).gives.answer) (alter_listed_of way f held k a).gives.answer
alter_told way f held k a = told (alter_listed_of way f held k a).gives.answer (low_coded (alter_listed_of way f held k a).gives.answer (alter_low way f held k a))

pub addendum_told : (way : Way) (f : List ℕ) (k : ℕ) → Told (code_of_answer (addendum_answer way f k)) (addendum_answer way f k)
addendum_told way f k = told (addendum_answer way f k) (low_coded (addendum_answer way f k) (addendum_low way f k))

pub recall_told : (way : Way) (f ns held : List ℕ) → Told (code_of_answer (take_out_of way f ns held).gives.answer) (take_out_of way f ns held).gives.answer
recall_told way f ns held = told (take_out_of way f ns held).gives.answer (low_coded (take_out_of way f ns held).gives.answer (recall_low way f ns held))

pub mend_told : (way : Way) (f held list : List ℕ) → Told (code_of_answer (mend_of way f held list).gives.answer) (mend_of way f held list).gives.answer
mend_told way f held list = told (mend_of way f held list).gives.answer (low_coded (mend_of way f held list).gives.answer (mend_low way f held list))

-- of importing while a line's number is below 2 ^ 32
pub import_told : (filerow batchrow lines table : List ℕ) → length lines ≤ 4294967295
    → Told (code_of_answer (import_of filerow batchrow lines table).gives.answer) (import_of filerow batchrow lines table).gives.answer
import_told filerow batchrow lines table h = told (import_of filerow batchrow lines table).gives.answer (import_coded filerow batchrow lines table h)

pub export_told : (t lines : List ℕ) → Told (code_of_answer (export_of t lines).gives.answer) (export_of t lines).gives.answer
export_told t lines = told (export_of t lines).gives.answer (low_coded (export_of t lines).gives.answer (export_low t lines))
