-- "Where does the money run out?" The list of a file, and the question that is put to a list.
use Rattle.std.specs.Prelude.{ℕ, ◌+◌, ◌*◌, Bool, true, false, ◌&&◌, List, [], ◌∷◌, ◌++◌, eqb, leb, ltb, length, get_or, drop}
use Rattle.text.specs.Decimal.{pick, value}
use Rattle.layout.specs.declared.Way.{Way}
use Rattle.layout.specs.Fields.{batch_control, part}
use Rattle.view.specs.View.{Batch, View, sum_over, records_in, credit_of, view_of}
use Rattle.funds.specs.RunsOut.{RunsOut}

-- ---- the list of a file

-- "one row a batch, two numbers, its control's record number and the credits so far": record n is the first of the next batch, and the
-- credits of the batches before it are `sum`
unfoldable pub rows_from : ℕ → ℕ → List Batch → List ℕ
rows_from n sum [] = []
rows_from n sum (b ∷ bs) =
    (n + 1 + sum_over records_in b.entries) ∷ (sum + sum_over credit_of b.entries)
    ∷ rows_from (n + 1 + sum_over records_in b.entries + 1) (sum + sum_over credit_of b.entries) bs

-- record 1 is the file's own
abbrev pub rows_of : View → List ℕ
rows_of v = rows_from 2 0 v.batches

-- the same, told along records: those that begin with '8' are batch controls, and their field 6 is their batch's credits
abbrev pub control_credit : List ℕ → ℕ
control_credit r = value (part batch_control 6 r)

abbrev pub credit_in : List ℕ → ℕ
credit_in r = pick (eqb (get_or r 0 0) 56) (control_credit r) 0

abbrev pub row_in : ℕ → ℕ → List ℕ → List ℕ
row_in n sum r = pick (eqb (get_or r 0 0) 56) (n ∷ sum ∷ []) []

unfoldable pub rows_along : ℕ → ℕ → List (List ℕ) → List ℕ
rows_along n sum [] = []
rows_along n sum (r ∷ rs) = row_in n (sum + credit_in r) r ++ rows_along (n + 1) (sum + credit_in r) rs

-- ---- a list that is lent

-- "a grant writes only what it is said to; what stands behind stays"
abbrev pub in_front : List ℕ → List ℕ → List ℕ
in_front rows held = rows ++ drop (length rows) held

-- "fewer than two numbers for each batch" is too short
abbrev pub enough_rows : View → ℕ → Bool
enough_rows v n = leb (2 * length v.batches) n

unfoldable pub begins_with : List ℕ → List ℕ → Bool
begins_with [] held = true
begins_with (x ∷ xs) [] = false
begins_with (x ∷ xs) (y ∷ held) = eqb x y && begins_with xs held

-- "the first rows lent are the list of the file"; a list too short is not, and rows behind are not read
abbrev pub true_list : Way → List ℕ → List ℕ → Bool
true_list way f held = begins_with (rows_of (view_of way f)) held

-- ---- the question

-- "or none"; k rows were tried
abbrev pub not_found : ℕ → RunsOut
not_found k = record { found = false; «record» = 0; credits = 0; rows = k }

-- "of any list it is the first row over the limit", which is exceeded by strictly more; "a lone number at the end is no row"; "how many rows
-- come up to and with the one found, or all of them". k rows were tried before.
unfoldable pub runs_out_from : ℕ → ℕ → List ℕ → RunsOut
runs_out_from limit k [] = not_found k
runs_out_from limit k (n ∷ []) = not_found k
runs_out_from limit k (n ∷ credits ∷ rows) =
    pick (ltb limit credits) (record { found = true; «record» = n; credits = credits; rows = k + 1 }) (runs_out_from limit (k + 1) rows)

abbrev pub runs_out : ℕ → List ℕ → RunsOut
runs_out limit rows = runs_out_from limit 0 rows
