-- What a question gives and leaves with a list lent, and what checking does.
use Rattle.std.specs.Prelude.{Ok, Err}
use Rattle.std.specs.Prelude.{ℕ, List, length}
use Rattle.layout.specs.declared.Fault.{Fault}
use Rattle.layout.specs.Answers.{Answer}
use Rattle.layout.specs.Answers.{Checked}
use Rattle.layout.specs.declared.Way.{Way}
use Rattle.check_record.specs.Record.{refused, checked_of}
use Rattle.view.specs.View.{View, view_of}
use Rattle.view.specs.Outcome.{Outcome, demand, and_then}
use Rattle.layout.specs.Paper.{refusal}
use Rattle.funds.specs.Funds.{rows_of, in_front, enough_rows}

-- what a lent list holds afterwards: on a grant this file's list and what stood behind it; a refusal leaves it
abbrev pub relisted : Answer → View → List ℕ → List ℕ
relisted (Ok _) v held = in_front (rows_of v) held
relisted (Err r) v held = held

-- "checking is granted exactly if the file is accepted as demand 2 says and the list has room"; "23, last, where the list .. is too short"
abbrev pub check_answer : Way → List ℕ → List ℕ → Answer
check_answer way f held =
    and_then (checked_of way f).answer (demand (enough_rows (view_of way f) (length held)) (refusal Fault.Room 0 0) (Ok tt))

-- no acceptance is given with a refusal: every number is 0
abbrev pub given : Answer → Checked → Checked
given (Ok _) c = c
given (Err r) c = refused r.fault r.record.0 r.field

abbrev pub check_of : Way → List ℕ → List ℕ → Outcome Checked
check_of way f held =
    record {
      gives = given (check_answer way f held) (checked_of way f);
      leaves = relisted (check_answer way f held) (view_of way f) held;
    }

-- what a question answers, the lent bytes as it leaves them, and the lent list
pub record Listed (A : Type 0) : Type 0 where
  pub gives : A
  pub leaves : List ℕ
  pub rows : List ℕ
