-- What mending gives: the lengths of the mended file and of the changes, 0 on a refusal.
use Rattle.std.specs.Prelude.{ℕ, Result, Ok, Err}
use Rattle.layout.specs.declared.Refusal.{Refusal}
use Rattle.layout.specs.Answers.{Answer}
use Rattle.mend.specs.declared.Lengths.{Lengths}

pub record Mended : Type 0 where
  pub answer : Answer
  pub length : ℕ
  pub listed : ℕ

abbrev pub mended_as : Result Lengths Refusal → Mended
mended_as (Ok put) = record { answer = Ok tt; length = put.length; listed = put.listed }
mended_as (Err r) = record { answer = Err r; length = 0; listed = 0 }
