-- The sizes of a view, and none of the rules: rows and texts as long as their columns, an addendum for each entry that takes one,
-- and counts that six digits can hold.
use Rattle.std.specs.Prelude.{◌^◌, ◌<◌, ◌≡◌, List, [], ◌∷◌, length}
use Rattle.text.specs.Widths.{AllLong}
use Rattle.view.specs.View.{Entry, Batch, View, entries_of}
use Rattle.view.specs.Table.{count_wide, file_wide, head_wide, entry_wide, addendum_wide, addenda_of, addenda_due}

-- each of the list has the property
abbrev pub All : {A : Type 0} → (A → Type 0) → List A → Type 0
All P [] = Unit {0}
All P (x ∷ xs) = P x × All P xs

pub record SizedEntry (e : Entry) : Type 0 where
  pub long : length e.row ≡ entry_wide
  pub texts : AllLong addendum_wide e.addenda
  -- one where the row's column 79 is '1', else none
  pub due : length e.addenda ≡ addenda_due e.row

pub record SizedBatch (b : Batch) : Type 0 where
  pub long : length b.row ≡ head_wide
  pub each : All SizedEntry b.entries

pub record Sized (v : View) : Type 0 where
  pub long : length v.row ≡ file_wide
  pub each : All SizedBatch v.batches
  -- "counts of six digits"; a batch has no more entries than the file
  pub batches : length v.batches < 10 ^ count_wide
  pub entries : length (entries_of v) < 10 ^ count_wide
  pub addenda : length (addenda_of v) < 10 ^ count_wide
