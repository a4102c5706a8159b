-- The answer to a question for an addendum, and the part of the file that holds it; no part on a refusal.
use Rattle.std.specs.Prelude.{ℕ, Result, Ok, Err}
use Rattle.layout.specs.declared.Refusal.{Refusal}
use Rattle.layout.specs.Answers.{Answer}
use Rattle.find_entry.specs.declared.Span.{Span}

pub record AskedSpan : Type 0 where
  pub answer : Answer
  pub from : ℕ
  pub size : ℕ

abbrev pub asked_as : Result Span Refusal → AskedSpan
asked_as (Ok span) = record { answer = Ok tt; from = span.from; size = span.size }
asked_as (Err r) = record { answer = Err r; from = 0; size = 0 }
