-- The records of the old file one by one: which records of the new file each gives, and what is known behind it. A record 5 waits for the
-- first entry of its batch that stays, so that "a batch left empty" is dropped without a look ahead.
use Rattle.std.specs.Prelude.{ℕ, zero, suc, ◌+◌, Bool, true, false, List, [], ◌∷◌, ◌++◌, eqb, get_or, replicate}
use Rattle.text.specs.Decimal.{pick}
use Rattle.recall_close.specs.WorkBits.{flag_at}
use Rattle.layout.specs.Fields.{record_columns}
use Rattle.check_across.specs.declared.Sums.{Sums}
use Rattle.check_sums.specs.Sums.{no_sums, add_record, add_batch, add_entry, add_addendum}
use Rattle.view.specs.View.{fillers_after, filler_record}
use Rattle.table_form.specs.Forms.{batch_control_from, file_control_from}
use Rattle.recall_close.specs.declared.moving.Sort.{Sort}
use Rattle.recall_close.specs.declared.moving.Walk.{Walk}

-- entry k goes: its flag is set
abbrev pub gone : List ℕ → ℕ → Bool
gone flags k = flag_at flags k

-- a record before the file control, by its first byte
abbrev pub sort_of : ℕ → Sort
sort_of b =
    pick (eqb b 53) Sort.Batch
    (pick (eqb b 54) Sort.Entry (pick (eqb b 55) Sort.Addendum (pick (eqb b 56) Sort.Control Sort.File)))

abbrev pub walk : Sums → List ℕ → ℕ → Bool → Bool → Walk
walk s h k held stays = record { sums = s; header = h; entries = k; held = held; stays = stays }

-- before the first record
abbrev pub first_walk : Walk
first_walk = walk no_sums (replicate record_columns 0) 0 false false

-- the record 5 that waits, and the sums behind it
abbrev pub opening : Walk → List (List ℕ)
opening w = pick w.held (w.header ∷ []) []

abbrev pub opened : Walk → Sums
opened w = pick w.held (add_batch w.sums w.header) w.sums

-- none waits any more
abbrev pub begun : Walk → Walk
begun w = walk (opened w) w.header w.entries false w.stays

-- an entry goes, or it stays: the records that it gives to the new file, and what is known behind it
abbrev pub entry_gives : List ℕ → Walk → List ℕ → List (List ℕ)
entry_gives flags w r = pick (gone flags (w.entries + 1)) [] (opening w ++ (r ∷ []))

abbrev pub entry_kept : Walk → List ℕ → Walk
entry_kept w r = walk (add_entry (opened w) r) w.header (w.entries + 1) false true

abbrev pub entry_next : List ℕ → Walk → List ℕ → Walk
entry_next flags w r =
    pick (gone flags (w.entries + 1)) (walk w.sums w.header (w.entries + 1) w.held false) (entry_kept w r)

-- "those entries with their addenda"
abbrev pub addendum_gives : Walk → List ℕ → List (List ℕ)
addendum_gives w r = pick w.stays (r ∷ []) []

abbrev pub addendum_next : Walk → Walk
addendum_next w = pick w.stays (walk (add_addendum w.sums) w.header w.entries w.held w.stays) w

-- "drop a batch left empty": its record 5 still waits at its control
abbrev pub control_gives : Walk → List (List ℕ)
control_gives w = pick w.held [] (batch_control_from w.sums w.header ∷ [])

abbrev pub control_next : Walk → Walk
control_next w = walk (pick w.held w.sums (add_record w.sums)) w.header w.entries false false

-- by the sort of the record
abbrev pub gives_by : List ℕ → Walk → Sort → List ℕ → List (List ℕ)
gives_by flags w Sort.File r = r ∷ []
gives_by flags w Sort.Batch r = []
gives_by flags w Sort.Entry r = entry_gives flags w r
gives_by flags w Sort.Addendum r = addendum_gives w r
gives_by flags w Sort.Control r = control_gives w

abbrev pub next_by : List ℕ → Walk → Sort → List ℕ → Walk
next_by flags w Sort.File r = walk (add_record w.sums) w.header w.entries w.held w.stays
next_by flags w Sort.Batch r = walk w.sums r w.entries true false
next_by flags w Sort.Entry r = entry_next flags w r
next_by flags w Sort.Addendum r = addendum_next w
next_by flags w Sort.Control r = control_next w

abbrev pub gives_of : List ℕ → Walk → List ℕ → List (List ℕ)
gives_of flags w r = gives_by flags w (sort_of (get_or r 0 0)) r

abbrev pub next_of : List ℕ → Walk → List ℕ → Walk
next_of flags w r = next_by flags w (sort_of (get_or r 0 0)) r

-- "correct every control field and the filler": behind the last batch
abbrev pub ending_of : Sums → List (List ℕ)
ending_of s = file_control_from s ∷ replicate (fillers_after (s.records + 1)) filler_record

-- the records still to come of the new file, by those still to come of the old one before its file control
unfoldable pub left_from : List ℕ → Walk → List (List ℕ) → List (List ℕ)
left_from flags w [] = ending_of w.sums
left_from flags w (r ∷ rs) = gives_of flags w r ++ left_from flags (next_of flags w r) rs

-- an entry stays among n, of which the first has number k
unfoldable pub some_left : List ℕ → ℕ → ℕ → Bool
some_left flags k zero = false
some_left flags k (suc n) = pick (gone flags k) (some_left flags (k + 1) n) true
