-- What altering gives, and what it leaves of the file and of the list.
use Rattle.std.specs.Prelude.{ℕ, List, pos, ◌-ℤ◌}
use Rattle.layout.specs.declared.Fault.{Fault}
use Rattle.layout.specs.Answers.{Answer}
use Rattle.layout.specs.Answers.{Altered}
use Rattle.layout.specs.declared.Way.{Way}
use Rattle.check_record.specs.Record.{checked_of}
use Rattle.view.specs.View.{amount_of, file_of, view_of}
use Rattle.view.specs.Outcome.{demand, and_then, entry_at, amend, alter_answer, altered}
use Rattle.layout.specs.Paper.{refusal}
use Rattle.funds.specs.Funds.{true_list}
use Rattle.funds.specs.Outcome.{Listed, relisted}

-- "34, before 25, where the first rows lent with an alteration aren't that file's list"
abbrev pub alter_listed_answer : Way → List ℕ → List ℕ → ℕ → ℕ → Answer
alter_listed_answer way f held k amount =
    and_then (checked_of way f).answer (demand (true_list way f held) (refusal Fault.Rows 0 0) (alter_answer way f k amount))

-- "granted, they are that of the file after it"
abbrev pub alter_listed_of : Way → List ℕ → List ℕ → ℕ → ℕ → Listed Altered
alter_listed_of way f held k amount =
    let answer = alter_listed_answer way f held k amount in
    let after = file_of way (amend (view_of way f) k amount) in
    let done = altered answer (pos amount -ℤ pos (amount_of (entry_at (view_of way f) k))) after f in
    record { gives = done.gives; leaves = done.leaves; rows = relisted answer (view_of way after) held }
