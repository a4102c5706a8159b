-- Altering told through the pay table: the amount is put into the table, and the file is written afresh and checked.
use Rattle.std.specs.Prelude.{Ok, Err, ℕ, ◌≤◌, ◌≡◌, Bool, true, false, ◌&&◌, List, [], ◌∷◌, leb}
use Rattle.text.specs.Decimal.{pick}
use Rattle.layout.specs.Answers.{Answer}
use Rattle.layout.specs.declared.Way.{Way}
use Rattle.check_record.specs.Record.{checked_of}
use Rattle.view.specs.View.{view_of}
use Rattle.view.specs.Table.{view_of_table, formed, table_of}
use Rattle.view.specs.Outcome.{exists, altered_table, alter_of}

-- "It tries the file's refusals, 25, 14 at the entry's field 6 (also for more than ten digits), 20 .., 20 ..": all that is asked is that
-- the file is accepted, that there is such an entry, and that the file with the new amount, written afresh, is accepted too
pub record Alterable (way : Way) (f : List ℕ) (k amount : ℕ) : Type 0 where
  pub accepted : (checked_of way f).answer ≡ Ok tt
  pub entry : exists (view_of way f) k ≡ true
  pub digits : amount ≤ 9999999999
  pub afresh : (checked_of way (formed way (altered_table (table_of way f) k amount))).answer ≡ Ok tt

abbrev pub is_granted : Answer → Bool
is_granted (Ok _) = true
is_granted (Err r) = false

-- a call, an entry number and a new amount, may be put into the table t of an accepted file
abbrev pub may_put : Way → List ℕ → ℕ → ℕ → Bool
may_put way t k amount =
    exists (view_of_table t) k && leb amount 9999999999 && is_granted (checked_of way (formed way (altered_table t k amount))).answer

-- the table after one call: a refused call puts in nothing
abbrev pub granted_table : Way → List ℕ → ℕ → ℕ → List ℕ
granted_table way t k amount = pick (may_put way t k amount) (altered_table t k amount) t

-- and after calls one after another
unfoldable pub table_run : Way → List (ℕ × ℕ) → List ℕ → List ℕ
table_run way [] t = t
table_run way (call ∷ calls) t = table_run way calls (granted_table way t call.0 call.1)

-- the file after calls one after another: each is lent what the one before it leaves
unfoldable pub alter_run : Way → List (ℕ × ℕ) → List ℕ → List ℕ
alter_run way [] f = f
alter_run way (call ∷ calls) f = alter_run way calls (alter_of way f call.0 call.1).leaves
