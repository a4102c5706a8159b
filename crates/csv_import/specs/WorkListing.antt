-- The parts of the table that imported lines become, one behind the other.
use Rattle.std.specs.Prelude.{ℕ, List, ◌++◌, map, take}
use Rattle.text.specs.Decimal.{render}
use Rattle.text.specs.Rows.{joined}
use Rattle.view.specs.Table.{count_wide, file_wide, head_wide}
use Rattle.csv_entry.specs.Entries.{entries_of_lines}

-- the file row behind its count, and the number of batches
abbrev pub front_bytes : List ℕ → List ℕ
front_bytes filerow = render count_wide 1 ++ (take file_wide filerow ++ render count_wide 1)

-- the batch row with n for its number of entries
abbrev pub batch_bytes : List ℕ → ℕ → List ℕ
batch_bytes batchrow n = take head_wide batchrow ++ render count_wide n

-- all that stands before the rows of n entries
abbrev pub head_bytes : List ℕ → List ℕ → ℕ → List ℕ
head_bytes filerow batchrow n = front_bytes filerow ++ (batch_bytes batchrow n ++ render count_wide n)

-- the rows of lines, the first of which is line k
abbrev pub rows_of : List ℕ → ℕ → List (List ℕ) → List (List ℕ)
rows_of bank k ls = map (λ e. e.row) (entries_of_lines bank k ls)

abbrev pub rows_bytes : List ℕ → ℕ → List (List ℕ) → List ℕ
rows_bytes bank k ls = joined (rows_of bank k ls)
