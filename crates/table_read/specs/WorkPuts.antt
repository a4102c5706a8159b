-- What a writer does: bytes at a place of the lent memory, and the place behind them.
use Rattle.std.specs.Prelude.{ℕ, ◌+◌, ◌≤◌, ◌≡◌, List, length}
use Rattle.std.proofs.lemmas.List.Edits.{sets}

-- there is room for `bytes` from `to` on
pub record Room (bytes memory : List ℕ) (to : ℕ) : Type 0 where
  pub fits : to + length bytes ≤ length memory

-- `bytes` stand in `after` from `to` on, where `was` was; `next` is the place behind them
pub record Puts (bytes was after : List ℕ) (to next : ℕ) : Type 0 where
  pub stands : after ≡ sets was to bytes
  pub behind : next ≡ to + length bytes
