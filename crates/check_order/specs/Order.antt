-- "Order of record types: one 1; then one or more batches, each a 5, one or more entries, an 8; then one 9; then filler records of
--  94 nines up to the next multiple of ten records. An entry is a 6, followed by one 7 exactly if its column 79 is '1'. An empty
--  batch, or a file with no batch, is refused."
use Rattle.std.specs.Prelude.{ℕ, ◌%◌, Bool, false, List, eqb, get_or}
use Rattle.text.specs.Decimal.{pick}
use Rattle.layout.specs.declared.Line.{Line}
use Rattle.check_across.specs.Across.{entry_flag}
use Rattle.check_order.specs.declared.Place.{Place}

-- a block is ten records; n records fill their last block
abbrev pub filled : ℕ → Bool
filled n = eqb (n % 10) 0

-- what a record that begins with byte b is taken for, after n records that led to this place
abbrev pub line_at : Place → ℕ → ℕ → Line
line_at Place.Start n b = pick (eqb b 49) Line.FileHeader Line.Other
line_at Place.FileOpen n b = pick (eqb b 53) Line.BatchHeader Line.Other
line_at Place.BatchOpen n b = pick (eqb b 54) Line.Entry Line.Other
line_at Place.AddendumDue n b = pick (eqb b 55) Line.Addendum Line.Other
line_at Place.EntryDone n b = pick (eqb b 54) Line.Entry (pick (eqb b 56) Line.BatchControl Line.Other)
line_at Place.BatchDone n b = pick (eqb b 53) Line.BatchHeader (pick (eqb b 57) Line.FileControl Line.Other)
line_at Place.FileDone n b = pick (filled n) Line.Past Line.Filler

-- "exactly if its column 79 is '1'"
abbrev pub takes_addendum : List ℕ → Bool
takes_addendum r = eqb (get_or (entry_flag r) 0 0) 49

-- where the record after r stands
abbrev pub next_place : Place → Line → List ℕ → Place
next_place p Line.FileHeader r = Place.FileOpen
next_place p Line.BatchHeader r = Place.BatchOpen
next_place p Line.Entry r = pick (takes_addendum r) Place.AddendumDue Place.EntryDone
next_place p Line.Addendum r = Place.EntryDone
next_place p Line.BatchControl r = Place.BatchDone
next_place p Line.FileControl r = Place.FileDone
next_place p Line.Filler r = Place.FileDone
next_place p Line.Past r = p
next_place p Line.Other r = p

-- no record is due any more
abbrev pub complete : Place → ℕ → Bool
complete Place.Start n = false
complete Place.FileOpen n = false
complete Place.BatchOpen n = false
complete Place.AddendumDue n = false
complete Place.EntryDone n = false
complete Place.BatchDone n = false
complete Place.FileDone n = filled n
