-- A file of two batches, its list, and what is asked of it. Credits: 100 in the first batch, 1000 and 40 in the second.
-- Assumes nothing.
use mathlib.Core.Path.{◌≡◌, refl}
use mathlib.Core.Bool.{true, false}
use mathlib.Core.List.{[], ◌∷◌}
use Rattle.text.specs.Decimal.{value_from, render}
use Rattle.text.specs.Rows.{joined, rows}
use Rattle.layout.specs.declared.Way.{Way}
use Rattle.view.specs.View.{sum_over, file_of, view_of}
use Rattle.view.proofs.Across.{two}
use Rattle.funds.specs.Funds.{rows_from, rows_of, runs_out_from, runs_out}
use Rattle.funds.specs.Summed.{summed_from, summed}

pub record Asks : Type 0 where
  -- the controls are records 6 and 10, and the credits add up through the file
  pub list : rows_of (two 100 1000) ≡ 6 ∷ 100 ∷ 10 ∷ 1140 ∷ []
  -- a limit of 100 is not exceeded by 100; one of 99 is
  pub exceeds : runs_out 100 (6 ∷ 100 ∷ 10 ∷ 1140 ∷ []) ≡ record { found = true; «record» = 10; credits = 1140; rows = 2 }
  pub first : runs_out 99 (6 ∷ 100 ∷ 10 ∷ 1140 ∷ []) ≡ record { found = true; «record» = 6; credits = 100; rows = 1 }
  pub none : runs_out 1140 (6 ∷ 100 ∷ 10 ∷ 1140 ∷ []) ≡ record { found = false; «record» = 0; credits = 0; rows = 2 }
  -- "a lone number at the end is no row"
  pub lone : runs_out 100 (6 ∷ 100 ∷ 5000 ∷ []) ≡ record { found = false; «record» = 0; credits = 0; rows = 1 }
  pub entries : summed 100 (two 100 1000) ≡ record { found = true; «record» = 10; credits = 1140; rows = 2 }

pub asks : Asks
unfolding rows_from runs_out_from summed_from sum_over value_from render joined
asks = record { list = refl; exceeds = refl; first = refl; none = refl; lone = refl; entries = refl }

-- the list of a file's bytes, after an alteration and after two
pub record Altered : Type 0 where
  pub one : rows_of (view_of Way.Plain (file_of Way.Plain (two 100 1001))) ≡ 6 ∷ 100 ∷ 10 ∷ 1141 ∷ []
  pub both : rows_of (view_of Way.Plain (file_of Way.Plain (two 101 1001))) ≡ 6 ∷ 101 ∷ 10 ∷ 1142 ∷ []

pub altered : Altered
unfolding value_from rows joined render sum_over rows_from
altered = record { one = refl; both = refl }
