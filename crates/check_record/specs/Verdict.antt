-- What a record's fields say of it.
use Rattle.std.specs.Prelude.{ℕ, Result, Ok, Err}
use Rattle.layout.specs.declared.Fault.{Fault}
use Rattle.check_sums.specs.declared.State.{State}
use Rattle.check_record.specs.declared.Wrong.{Wrong}

-- what is wrong, and the number of the field that it is found in
abbrev pub wrong_of : Fault → ℕ → Wrong
wrong_of fault k = record { fault = fault; field = k }

-- passed, or the first refusal with its field's number
abbrev pub Verdict : Type 0
Verdict = Result (Unit {0}) Wrong

-- one record's check; a record that failed leaves the state as it was
pub record Stepped : Type 0 where
  pub verdict : Verdict
  pub state : State

abbrev pub stepped_as : State → Result State Wrong → Stepped
stepped_as st (Ok next) = record { verdict = Ok tt; state = next }
stepped_as st (Err wrong) = record { verdict = Err wrong; state = st }

-- of a result the verdict alone
abbrev pub verdict_of : {A : Type 0} → Result A Wrong → Verdict
verdict_of (Ok _) = Ok tt
verdict_of (Err wrong) = Err wrong
