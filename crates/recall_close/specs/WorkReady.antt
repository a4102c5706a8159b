-- What the code relies on while it closes up a file, and no rule of the paper.
use Rattle.std.specs.Prelude.{Ok}
use Rattle.std.specs.Prelude.{ℕ, ◌+◌, ◌*◌, ◌≤◌, ◌<◌, ◌≡◌, List, ◌++◌, map, length, take}
use Rattle.std.proofs.lemmas.List.Edits.{sets}
use Rattle.text.specs.Decimal.{pick}
use Rattle.text.specs.Rows.{joined}
use Rattle.layout.specs.declared.Way.{Way}
use Rattle.layout.specs.Ways.{record_bytes}
use Rattle.check_across.specs.declared.Sums.{Sums}
use Rattle.check_across.specs.WorkSmall.{Small}
use Rattle.check_record.specs.Record.{checked_of}
use Rattle.view.specs.View.{closed_by, body_of, view_of}
use Rattle.recall_close.specs.declared.moving.Walk.{Walk}
use Rattle.recall_close.specs.WorkMoving.{first_walk, ending_of, left_from}

-- the file is accepted, and has this many records before its file control
pub record Walkable (way : Way) (f : List ℕ) (count : ℕ) : Type 0 where
  pub accepted : (checked_of way f).answer ≡ Ok tt
  pub counted : count ≡ length (body_of (view_of way f))

-- how many records wait
abbrev pub waiting : Walk → ℕ
waiting w = pick w.held 1 0

-- the sums are small, and the file has room for one more record behind those of the sums and n that wait
pub record Room (way : Way) (f : List ℕ) (s : Sums) (n : ℕ) : Type 0 where
  pub small : Small s
  pub few : s.records + n < 1000000
  pub inside : record_bytes way * (s.records + n + 1) ≤ length f

-- the file with these records put behind n others
abbrev pub put_at : Way → ℕ → List (List ℕ) → List ℕ → List ℕ
put_at way n rs f = sets f (record_bytes way * n) (joined (map (closed_by way) rs))

-- a record was passed: these records are put, and r is what is known
pub record Passed (way : Way) (f : List ℕ) (w : Walk) (rs : List (List ℕ)) (next r : Walk) (g : List ℕ) : Type 0 where
  pub known : r ≡ next
  pub put : g ≡ put_at way w.sums.records rs f
  pub small : Small r.sums

-- the whole new file, by the walk along the old one's records before the file control
abbrev pub closed_up : Way → List ℕ → List ℕ → List ℕ
closed_up way flags f = joined (map (closed_by way) (left_from flags first_walk (body_of (view_of way f))))

-- the records before the file control closed up: s has their sums, and with the records that end the file they are the whole new file
pub record Closed (way : Way) (flags f : List ℕ) (count : ℕ) (s : Sums) (g : List ℕ) : Type 0 where
  pub small : Small s
  pub behind : s.records ≤ count
  pub long : length g ≡ length f
  pub makes : take (record_bytes way * s.records) g ++ joined (map (closed_by way) (ending_of s)) ≡ closed_up way flags f
