-- How many batches the new file has, by the records of the old one: "drop a batch left empty".
use Rattle.std.specs.Prelude.{ℕ, ◌+◌, Bool, true, false, List, [], ◌∷◌, eqb, get_or}
use Rattle.text.specs.Decimal.{pick}
use Rattle.recall_close.specs.WorkMoving.{gone}
use Rattle.recall.specs.declared.batches.Kept.{Kept}

abbrev pub kept_so : ℕ → Bool → ℕ → Kept
kept_so k empty n = record { entries = k; empty = empty; batches = n }

-- an entry: the first of its batch that stays makes it one that stays
abbrev pub entry_counted : List ℕ → Kept → Kept
entry_counted flags c =
    pick (gone flags (c.entries + 1)) (kept_so (c.entries + 1) c.empty c.batches)
    (kept_so (c.entries + 1) false (pick c.empty (c.batches + 1) c.batches))

-- a record, by its first byte
abbrev pub record_counted : List ℕ → Kept → ℕ → Kept
record_counted flags c b = pick (eqb b 53) (kept_so c.entries true c.batches) (pick (eqb b 54) (entry_counted flags c) c)

-- behind all records
unfoldable pub counted_from : List ℕ → Kept → List (List ℕ) → ℕ
counted_from flags c [] = c.batches
counted_from flags c (r ∷ rs) = counted_from flags (record_counted flags c (get_or r 0 0)) rs
