-- The walk along an accepted file's records from one row of its list to the next.
use Rattle.std.specs.Prelude.{ℕ, ◌+◌, ◌*◌, ◌/◌, ◌≤◌, ◌≡◌, Ok, Option, Some, None, List, [], ◌++◌, length, drop}
use Rattle.layout.specs.declared.Way.{Way}
use Rattle.layout.specs.Ways.{record_bytes}
use Rattle.check_record.specs.Record.{columns_in, checked_of}
use Rattle.funds.specs.Funds.{rows_along}

-- what the records behind the first `seen` still say, with these credits before them
abbrev pub left_of : Way → List ℕ → ℕ → ℕ → List ℕ
left_of way f seen credits = rows_along (seen + 1) credits (drop seen (columns_in way f))

-- so many records of an accepted file were looked at, and no sum is large
pub record Walked (way : Way) (f : List ℕ) (seen credits : ℕ) : Type 0 where
  pub accepted : (checked_of way f).answer ≡ Ok tt
  pub inside : seen ≤ length f / record_bytes way
  pub small : credits ≤ seen * 999999999999

-- a row is the first that is left, and `rest` are the others
abbrev pub RowTaken : List ℕ → Option (List ℕ) → List ℕ → Type 0
RowTaken left (Some row) rest = left ≡ row ++ rest
RowTaken left None rest = left ≡ []
