-- What the code relies on of a state, and no rule of the paper: its sums, and its rows by code, are small.
use Rattle.std.specs.Prelude.{ℕ, ◌≤◌, ◌*◌, List, get_or}
use Rattle.check_across.specs.WorkSmall.{Small}
use Rattle.check_sums.specs.declared.State.{State}

abbrev pub SmallRows : ℕ → List ℕ → Type 0
SmallRows n rows = (k : ℕ) → get_or rows k 0 ≤ n * 10000000000

pub record Fair (st : State) : Type 0 where
  pub sums : Small st.sums
  pub rows : SmallRows st.sums.records st.bycode
