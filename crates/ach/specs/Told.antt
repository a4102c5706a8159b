-- What callers in other languages see of an answer and of an acceptance.
use Rattle.std.specs.Prelude.{Result, Ok, Err}
use Rattle.std.specs.Prelude.{ℕ, ◌+◌, ◌*◌, ◌%◌, List, [], ◌∷◌, ◌++◌, eqb}
use Rattle.std.proofs.lemmas.List.Edits.{sets}
use Rattle.layout.specs.Answers.{Answer}
use Rattle.layout.specs.Answers.{Checked}
use Rattle.layout.specs.Paper.{Paper, paper_of}
use Rattle.text.specs.Decimal.{pick}
use Rattle.layout.specs.declared.Refusal.{Refusal}
use Rattle.layout.specs.declared.Way.{Way}

-- "0 the first way, any other the second"
abbrev pub way_of : ℕ → Way
way_of n = pick (eqb n 0) Way.Plain Way.Lined

-- number + 256 * field + 65536 * record, each cut to its bits; 0 where it is granted
abbrev pub coded : Paper → ℕ
coded p = p.number + 256 * (p.field_no % 256) + 65536 * (p.record_no % 4294967296)

abbrev pub code_of_answer : Answer → ℕ
code_of_answer a = coded (paper_of a)

-- the twenty-nine numbers: batches, entries, addenda, debit, credit, then twenty-four by code
abbrev pub numbers_of : Checked → List ℕ
numbers_of c = (c.batches ∷ c.entries ∷ c.addenda ∷ c.debit ∷ c.credit ∷ []) ++ c.bycode

-- granted, the numbers are written over the lent ones from the first on; a refusal leaves them untouched
abbrev pub numbers_left : Answer → List ℕ → List ℕ → List ℕ
numbers_left (Ok _) given lent = sets lent 0 given
numbers_left (Err r) given lent = lent

-- a number that is given on a grant only
abbrev pub left {ℓ} : {A : Type ℓ} → Answer → A → A → A
left (Ok _) given lent = given
left (Err r) given lent = lent

-- the same of a result
abbrev pub told_by : {A : Type 0} → Result A Refusal → A → A
told_by (Ok given) lent = given
told_by (Err r) lent = lent
