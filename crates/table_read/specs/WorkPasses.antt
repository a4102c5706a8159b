-- What each pass over a file's records writes, record by record. A record is told by its first byte: '1', '5', '6', '7' and '8'
-- are 49, 53, 54, 55 and 56.
use Rattle.std.specs.Prelude.{ℕ, ◌+◌, ◌-◌, List, [], ◌∷◌, ◌++◌, eqb, get_or, take, drop}
use Rattle.text.specs.Decimal.{pick, render}
use Rattle.layout.specs.declared.Way.{Way}
use Rattle.check_record.specs.Record.{columns_in}

-- the bytes from `from` on, up to `end` and without it, counted from 0
abbrev pub between : ℕ → ℕ → List ℕ → List ℕ
between from end r = take (end - from) (drop from r)

-- of each record of one kind the same bytes
abbrev pub row_of : ℕ → ℕ → ℕ → List ℕ → List ℕ
row_of kind from end r = pick (eqb (get_or r 0 0) kind) (between from end r) []

unfoldable pub row_bytes : ℕ → ℕ → ℕ → List (List ℕ) → List ℕ
row_bytes kind from end [] = []
row_bytes kind from end (r ∷ rs) = row_of kind from end r ++ row_bytes kind from end rs

-- the entries since the last record 5
abbrev pub count_after : List ℕ → ℕ → ℕ
count_after r n = pick (eqb (get_or r 0 0) 53) 0 (pick (eqb (get_or r 0 0) 54) (n + 1) n)

-- a batch: two parts of its record 5, and at its record 8 the number of entries
abbrev pub batch_piece : List ℕ → ℕ → List ℕ
batch_piece r n =
    pick (eqb (get_or r 0 0) 53) (between 1 75 r ++ between 79 94 r) (pick (eqb (get_or r 0 0) 56) (render 6 n) [])

unfoldable pub batch_bytes : ℕ → List (List ℕ) → List ℕ
batch_bytes n [] = []
batch_bytes n (r ∷ rs) = batch_piece r n ++ batch_bytes (count_after r n) rs

-- the file's row, with its count before it and the number of batches behind it
abbrev pub head_bytes : List ℕ → ℕ → List ℕ
head_bytes r batches = render 6 1 ++ (between 3 34 r ++ (between 40 94 r ++ render 6 batches))

-- the entries and the addenda, each behind their count
abbrev pub tail_bytes : ℕ → ℕ → List (List ℕ) → List ℕ
tail_bytes entries addenda rs =
    render 6 entries ++ (row_bytes 54 1 94 rs ++ (render 6 addenda ++ row_bytes 55 3 83 rs))

-- all that is written, of a file and its three counts
abbrev pub whole_bytes : Way → List ℕ → ℕ → ℕ → ℕ → List ℕ
whole_bytes way f batches entries addenda =
    head_bytes (take 94 f) batches ++ (batch_bytes 0 (columns_in way f) ++ tail_bytes entries addenda (columns_in way f))
