-- Where the 9 of a lent file stands, and what one record's verdict says of a file.
use Rattle.std.specs.Prelude.{Ok, Err}
use Rattle.std.specs.Prelude.{ℕ, ◌+◌, ◌*◌, ◌≤◌, ◌≡◌, List, length}
use Rattle.layout.specs.Answers.{Answer}
use Rattle.layout.specs.declared.Way.{Way}
use Rattle.layout.specs.Paper.{refusal}
use Rattle.layout.specs.Ways.{record_bytes}
use Rattle.check_record.specs.Verdict.{Verdict}
use Rattle.check_record.specs.Record.{raw_records}
use Rattle.mend.specs.Mend.{nine_at}

-- a record numbered n that passes refuses nothing
abbrev pub said_of : Verdict → ℕ → Answer
said_of (Ok _) n = Ok tt
said_of (Err wrong) n = refusal wrong.fault n wrong.field

-- the 9 stands behind n records, and in the file
pub record NineAt (way : Way) (f : List ℕ) (n : ℕ) : Type 0 where
  pub before : n ≡ nine_at (raw_records way f)
  pub inside : record_bytes way * (n + 1) ≤ length f
