-- The ways that records stand in a file. A caller tells the way; nothing guesses it.
use Rattle.std.specs.Prelude.{ℕ, ◌+◌, List, [], ◌∷◌, length}
use Rattle.layout.specs.declared.Way.{Way}
use Rattle.layout.specs.Fields.{record_columns}

-- "records of 94 bytes, back to back, no line ends"; "CR LF after every record, filler included"
abbrev pub end_of : Way → List ℕ
end_of Way.Plain = []
end_of Way.Lined = 13 ∷ 10 ∷ []

-- 94 bytes, or "records of 96 bytes"
abbrev pub record_bytes : Way → ℕ
record_bytes way = record_columns + length (end_of way)
