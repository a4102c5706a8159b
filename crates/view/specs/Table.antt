-- "The pay table: sections in a fixed order, each after its count of six digits, no separators."
use Rattle.std.specs.Prelude.{ℕ, ◌+◌, ◌*◌, Bool, true, ◌&&◌, eqb, length, take, drop}
use mathlib.Core.List.{List, [], ◌∷◌, ◌++◌, map, foldr}
use Rattle.text.specs.Decimal.{pick, digits, value, render}
use Rattle.text.specs.Rows.{rows, section}
use Rattle.layout.specs.declared.Way.{Way}
use Rattle.check_order.specs.Order.{takes_addendum}
use Rattle.view.specs.View.{Entry, Batch, View, entries_of, sum_over, file_of, view_of}

-- "counts of six digits"; "85 bytes"; "95 bytes each, columns 2-75 and 80-94 of record 5, then the batch's number of entries in
--  six digits"; "93 bytes each"; "80 bytes each"
abbrev pub count_wide : ℕ
count_wide = 6

abbrev pub file_wide : ℕ
file_wide = 85

abbrev pub head_wide : ℕ
head_wide = 89

abbrev pub batch_wide : ℕ
batch_wide = 95

abbrev pub entry_wide : ℕ
entry_wide = 93

abbrev pub addendum_wide : ℕ
addendum_wide = 80

abbrev pub batch_row : Batch → List ℕ
batch_row b = b.row ++ render count_wide (length b.entries)

abbrev pub addenda_of : View → List (List ℕ)
addenda_of v = foldr (λ e texts. e.addenda ++ texts) [] (entries_of v)

abbrev pub table_bytes : View → List ℕ
table_bytes v =
    section count_wide (v.row ∷ [])
    ++ (section count_wide (map batch_row v.batches)
    ++ (section count_wide (map (λ e. e.row) (entries_of v)) ++ section count_wide (addenda_of v)))

-- Reading a table: where each section stands, and what it says. Any bytes have a reading.
abbrev pub behind : ℕ → ℕ → List ℕ → List ℕ
behind w n t = drop (count_wide + w * n) t

abbrev pub count_of : List ℕ → ℕ
count_of t = value (take count_wide t)

abbrev pub rows_in : ℕ → List ℕ → List (List ℕ)
rows_in w t = rows w (count_of t) (drop count_wide t)

abbrev pub batch_part : List ℕ → List ℕ
batch_part t = behind file_wide 1 t

abbrev pub entry_part : List ℕ → List ℕ
entry_part t = behind batch_wide (count_of (batch_part t)) (batch_part t)

abbrev pub addendum_part : List ℕ → List ℕ
addendum_part t = behind entry_wide (count_of (entry_part t)) (entry_part t)

-- how many addenda an entry row takes: one where its column 79 is '1', else none
abbrev pub addenda_due : List ℕ → ℕ
addenda_due row = pick (takes_addendum (54 ∷ row)) 1 0

-- the addenda go to the entries that take one, in order through the file
unfoldable pub with_addenda : List (List ℕ) → List (List ℕ) → List Entry
with_addenda [] texts = []
with_addenda (row ∷ rs) texts =
    record { row = row; addenda = take (addenda_due row) texts } ∷ with_addenda rs (drop (addenda_due row) texts)

abbrev pub entries_due : List ℕ → ℕ
entries_due row = value (drop head_wide row)

-- the entries go to the batches by the batches' numbers of entries
unfoldable pub with_entries : List (List ℕ) → List Entry → List Batch
with_entries [] es = []
with_entries (row ∷ rs) es =
    record { row = take head_wide row; entries = take (entries_due row) es } ∷ with_entries rs (drop (entries_due row) es)

abbrev pub view_of_table : List ℕ → View
view_of_table t =
    record {
      row = take file_wide (drop count_wide t);
      batches =
          with_entries (rows_in batch_wide (batch_part t))
          (with_addenda (rows_in entry_wide (entry_part t)) (rows_in addendum_wide (addendum_part t)));
    }

unfoldable pub every_row : (List ℕ → Bool) → List (List ℕ) → Bool
every_row p [] = true
every_row p (r ∷ rs) = p r && every_row p rs

-- "Shape is right if counts and the batches' numbers of entries are digits, the first count is 1, the length is 109 + 95 × batches
--  + 93 × entries + 80 × addenda, the batches' numbers of entries sum to the entry count, and as many entry rows have '1' for
--  column 79 as there are addenda."
abbrev pub shaped : List ℕ → Bool
shaped t =
    (digits (take count_wide t) && digits (take count_wide (batch_part t)) && digits (take count_wide (entry_part t))
    && digits (take count_wide (addendum_part t)))
    && every_row (λ r. digits (drop head_wide r)) (rows_in batch_wide (batch_part t))
    && eqb (count_of t) 1
    && eqb (length t)
    (109 + batch_wide * count_of (batch_part t) + entry_wide * count_of (entry_part t) + addendum_wide * count_of (addendum_part t))
    && eqb (sum_over entries_due (rows_in batch_wide (batch_part t))) (count_of (entry_part t))
    && eqb (sum_over addenda_due (rows_in entry_wide (entry_part t))) (count_of (addendum_part t))

-- "The formed file fills in the rest; counts, hash and totals are cut at the left to their columns"
abbrev pub formed : Way → List ℕ → List ℕ
formed way t = file_of way (view_of_table t)

-- the pay table of a file in this way; "a table holds no line ends"
abbrev pub table_of : Way → List ℕ → List ℕ
table_of way f = table_bytes (view_of way f)
