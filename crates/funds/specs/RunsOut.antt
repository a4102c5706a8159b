-- Where the money runs out, with every number 0 where no row is over the limit.
use Rattle.std.specs.Prelude.{ℕ, Bool, true, false, Option, Some, None}
use Rattle.funds.specs.declared.Over.{Over}
use Rattle.funds.specs.declared.Funds.{Funds}

pub record RunsOut : Type 0 where
  pub found : Bool
  pub «record» : ℕ
  pub credits : ℕ
  pub rows : ℕ

-- the row, if one is over the limit, behind so many rows
abbrev pub row_over : ℕ → Option Over → RunsOut
row_over n (Some over) = record { found = true; «record» = over.record; credits = over.credits; rows = n }
row_over n None = record { found = false; «record» = 0; credits = 0; rows = n }

abbrev pub runs_out_as : Funds → RunsOut
runs_out_as f = row_over f.rows f.over
