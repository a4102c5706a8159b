-- How much the changes take: the rows of one field, of one record and of a file's records 8, and what a list of rows comes to.
use Rattle.std.specs.Prelude.{ℕ, ◌+◌, ◌*◌, ◌≤◌, ◌≡◌, true, List, [], ◌∷◌, eqb, length, get_or, take, drop}
use Rattle.text.specs.Decimal.{pick}
use Rattle.text.specs.Rows.{columns, joined}
use Rattle.text.specs.Same.{same_bytes}
use Rattle.layout.specs.declared.Row.{Row}
use Rattle.layout.specs.declared.Way.{Way}
use Rattle.layout.specs.Fields.{batch_control, file_control}
use Rattle.check_across.specs.WorkSmall.{Small}
use Rattle.check_record.specs.Record.{length_fits, raw_records}
use Rattle.mend.specs.Mend.{type_of, mended_end, mended_records, mended_file, change_row, field_changes, changes_from, filler_changes, changes_of, nine_at}
use Rattle.mend_file.specs.WorkJudging.{NineAt}
use Rattle.mend_file.specs.declared.Changes.{Changes}
use Rattle.mend_file.specs.declared.Listed.{Listed}
use Rattle.mend_file.specs.declared.Plan.{Plan}
use Rattle.mend_file.specs.declared.Walk.{Walk}

-- rows one behind the other: how many, and how many bytes
abbrev pub listed_of : List (List ℕ) → Listed
listed_of rs = record { rows = length rs; bytes = length (joined rs) }

-- field k of record n: its row where it differs
abbrev pub field_rows : ℕ → ℕ → Row → List ℕ → List ℕ → List (List ℕ)
field_rows n k row old new =
    let old-text = columns row.first row.last old in
    let new-text = columns row.first row.last new in
    pick (same_bytes old-text new-text) [] (change_row n k old-text new-text ∷ [])

-- record n: the rows of a record 8, and none of any other
abbrev pub control_rows : ℕ → List ℕ → List ℕ → List (List ℕ)
control_rows n old new = pick (eqb (type_of old) 56) (field_changes n 1 batch_control old new) []

-- the sections of the changes of a lent file f: its records 8, its 9, its fillers
abbrev pub batch_rows : Way → List ℕ → List (List ℕ)
batch_rows way f =
    let olds = raw_records way f in
    changes_from 56 batch_control 1 (take (nine_at olds) olds) (mended_records way olds)

abbrev pub file_rows : Way → List ℕ → List (List ℕ)
file_rows way f =
    let olds = raw_records way f in
    let n = nine_at olds in
    changes_from 57 file_control (n + 1) (take 1 (drop n olds)) (drop n (mended_records way olds))

abbrev pub filler_rows : Way → List ℕ → List (List ℕ)
filler_rows way f =
    let olds = raw_records way f in
    let n = nine_at olds in
    filler_changes (length (drop (n + 1) olds)) (length (drop (n + 1) (mended_records way olds)))

-- the walk along the records before the 9 of f: the rows of its 8s, and what the records sum to, from which the 9 and its fillers are mended
pub record Summed (way : Way) (f : List ℕ) (w : Walk) : Type 0 where
  pub listed : w.listed ≡ listed_of (batch_rows way f)
  pub ends :
      drop (nine_at (raw_records way f)) (mended_records way (raw_records way f))
      ≡ mended_end way w.sums (get_or (raw_records way f) (nine_at (raw_records way f)) [])
  pub small : Small w.sums
  pub count : w.sums.records ≡ nine_at (raw_records way f)
  pub few : w.listed.rows ≤ 13 * nine_at (raw_records way f)
  pub short : w.listed.bytes ≤ 2561 * nine_at (raw_records way f)

-- what the changes of f come to
pub record Counted (way : Way) (f : List ℕ) (c : Changes) : Type 0 where
  pub batch : c.batch ≡ length (batch_rows way f)
  pub file : c.file ≡ length (file_rows way f)
  pub bytes : c.bytes ≡ length (changes_of way f)

-- what is known of f where mending is granted
pub record Ready (way : Way) (f : List ℕ) (p : Plan) : Type 0 where
  pub fits : length_fits way (length f) ≡ true
  pub nine : NineAt way f p.before
  pub size : p.size ≡ length (mended_file way f)
  pub counts : Counted way f p.counts
