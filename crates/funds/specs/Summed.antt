-- The question answered from the entries and not from a list: "the first batch at whose end the credits so far exceed the limit, or none".
use Rattle.std.specs.Prelude.{ℕ, zero, suc, ◌+◌, ◌≤◌, ◌<◌, ◌*◌, ◌/◌, ◌≡◌, true, List, ltb, length, take, get_or}
use Rattle.text.specs.Decimal.{pick}
use Rattle.view.specs.View.{View, sum_over, credit_of, entries_of, body_of}
use Rattle.funds.specs.RunsOut.{RunsOut}
use Rattle.funds.specs.Funds.{not_found}

-- the file up to the end of its batch n, from 1
abbrev pub up_to : View → ℕ → View
up_to v n = record { row = v.row; batches = take n v.batches }

-- "summing every entry" up to there
abbrev pub credits_to : View → ℕ → ℕ
credits_to v n = sum_over credit_of (entries_of (up_to v n))

-- the number of the batch's control, which is the last record up to there
abbrev pub control_at : View → ℕ → ℕ
control_at v n = length (body_of (up_to v n))

-- the first n batches were tried, and so many are left
unfoldable pub summed_from : ℕ → View → ℕ → ℕ → RunsOut
summed_from limit v n zero = not_found n
summed_from limit v n (suc left) =
    pick (ltb limit (credits_to v (n + 1)))
    (record { found = true; «record» = control_at v (n + 1); credits = credits_to v (n + 1); rows = n + 1 })
    (summed_from limit v (n + 1) left)

abbrev pub summed : ℕ → View → RunsOut
summed limit v = summed_from limit v 0 (length v.batches)

-- a row of any list, the first over the limit: its index from 0, and no row before it exceeds
pub record FirstOver (limit : ℕ) (rows : List ℕ) (r : RunsOut) : Type 0 where
  pub index : ℕ
  pub whole : 2 * index + 2 ≤ length rows
  pub number : r.record ≡ get_or rows (2 * index) 0
  pub credits : r.credits ≡ get_or rows (2 * index + 1) 0
  pub over : limit < get_or rows (2 * index + 1) 0
  pub before : (i : ℕ) → i < index → get_or rows (2 * i + 1) 0 ≤ limit
  pub rows_to : r.rows ≡ index + 1

-- no row of it exceeds, and all whole rows are counted
pub record NoneOver (limit : ℕ) (rows : List ℕ) (r : RunsOut) : Type 0 where
  pub number : r.record ≡ 0
  pub credits : r.credits ≡ 0
  pub none : (i : ℕ) → i < length rows / 2 → get_or rows (2 * i + 1) 0 ≤ limit
  pub rows_all : r.rows ≡ length rows / 2
