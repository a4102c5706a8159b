-- Where the three records of an alteration stand in a file.
use Rattle.std.specs.Prelude.{Ok}
use Rattle.std.specs.Prelude.{ℕ, ◌+◌, ◌*◌, ◌≤◌, ◌<◌, ◌≡◌, List, length}
use Rattle.check_record.specs.Record.{checked_of}
use Rattle.view.specs.View.{entries_of, view_of}
use Rattle.view.specs.Outcome.{spot_of, entry_number, batch_control_number, file_control_number}
use Rattle.find_entry.specs.declared.find.Places.{Places}
use Rattle.layout.specs.declared.Way.{Way}
use Rattle.layout.specs.Ways.{record_bytes}

-- the file is accepted, and has an entry k
pub record There (way : Way) (f : List ℕ) (k : ℕ) : Type 0 where
  pub accepted : (checked_of way f).answer ≡ Ok tt
  pub first : 1 ≤ k
  pub last : k ≤ length (entries_of (view_of way f))

-- its record stands at index i, and another behind it
pub record EntryAt (way : Way) (f : List ℕ) (k i : ℕ) : Type 0 where
  pub number : i + 1 ≡ entry_number (spot_of (view_of way f) k)
  pub inside : record_bytes way * (i + 2) ≤ length f

-- the indices are those of the entry and of the two controls, which stand in this order
pub record Found (way : Way) (f : List ℕ) (k : ℕ) (p : Places) : Type 0 where
  pub entry : p.entry + 1 ≡ entry_number (spot_of (view_of way f) k)
  pub control : p.control + 1 ≡ batch_control_number (spot_of (view_of way f) k)
  pub last : p.last + 1 ≡ file_control_number (view_of way f)
  pub first : p.entry < p.control
  pub second : p.control < p.last
  pub inside : record_bytes way * (p.last + 1) ≤ length f
