-- What writing says to a table before it asks for room.
use Rattle.std.specs.Prelude.{List, ℕ}
use Rattle.layout.specs.declared.Fault.{Fault}
use Rattle.layout.specs.Answers.{Answer}
use Rattle.layout.specs.declared.Way.{Way}
use Rattle.check_record.specs.Record.{checked_of}
use Rattle.view.specs.Table.{shaped, formed}
use Rattle.view.specs.Outcome.{demand}
use Rattle.layout.specs.Paper.{refusal}

-- "Writing tries 24, then the formed file's refusals": the same in either way
abbrev pub writable : List ℕ → Answer
writable t = demand (shaped t) (refusal Fault.Shape 0 0) (checked_of Way.Plain (formed Way.Plain t)).answer
