-- What exporting gives, and what it leaves in the lent lines.
use Rattle.std.specs.Prelude.{List, ℕ}
use Rattle.layout.specs.Answers.{Made}
use Rattle.view.specs.Outcome.{Outcome, and_then, made, room}
use Rattle.table_write.specs.Judge.{writable}
use Rattle.csv_export.specs.Lining.{exported}

-- "a table that document 01 would write", in either way; "Export's refusals are writing's, then 23"
abbrev pub export_of : List ℕ → List ℕ → Outcome Made
export_of t lines = made (and_then (writable t) (room (exported t) lines)) (exported t) lines
