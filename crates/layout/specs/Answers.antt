-- What the public functions answer, as the paper has it: "grants, or names the first refusal", with every number 0 on a refusal.
use Rattle.std.specs.Prelude.{ℕ, ℤ, pos, List, replicate, Result, Ok, Err}
use Rattle.layout.specs.declared.Refusal.{Refusal}
use Rattle.layout.specs.declared.Acceptance.{Acceptance}

-- granted, or the first refusal
abbrev pub Answer : Type 0
Answer = Result (Unit {0}) Refusal

-- of a result the answer alone
abbrev pub answer_of : {A : Type 0} → Result A Refusal → Answer
answer_of (Ok _) = Ok tt
answer_of (Err r) = Err r

-- what checking gives
pub record Checked : Type 0 where
  pub answer : Answer
  pub batches : ℕ
  pub entries : ℕ
  pub addenda : ℕ
  pub debit : ℕ
  pub credit : ℕ
  pub bycode : List ℕ

abbrev pub checked_as : Result Acceptance Refusal → Checked
checked_as (Ok a) =
    record {
      answer = Ok tt;
      batches = a.batches;
      entries = a.entries;
      addenda = a.addenda;
      debit = a.debit;
      credit = a.credit;
      bycode = a.bycode;
    }
checked_as (Err r) =
    record {
      answer = Err r;
      batches = 0;
      entries = 0;
      addenda = 0;
      debit = 0;
      credit = 0;
      bycode = replicate 24 0;
    }

-- what reading and writing give: the result's length
pub record Made : Type 0 where
  pub answer : Answer
  pub length : ℕ

abbrev pub made_as : Result ℕ Refusal → Made
made_as (Ok n) = record { answer = Ok tt; length = n }
made_as (Err r) = record { answer = Err r; length = 0 }

-- what altering gives: the new amount less the old
pub record Altered : Type 0 where
  pub answer : Answer
  pub difference : ℤ

abbrev pub altered_as : Result ℤ Refusal → Altered
altered_as (Ok d) = record { answer = Ok tt; difference = d }
altered_as (Err r) = record { answer = Err r; difference = pos 0 }
