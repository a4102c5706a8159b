-- Why an answer's code fits, and what twenty-nine stores make of a lent array.
-- Assumes nothing.
use Rattle.std.specs.Prelude.{ℤ, Result, Ok, Err}
use Prim.Native.Nat.{ℕ, ◌+◌, ◌≤◌}
use mathlib.Core.Path.{◌≡◌, refl, sym, ◌∙◌}
use mathlib.Core.List.{List, [], ◌∷◌, ◌++◌, append_assoc}
use lib.Dec.{lit≤}
use lib.ListN.{length, take, drop}
use lib.Seq.{sets, sets-eq, length-sets, drop-drop}
use Rattle.text.proofs.SetLaws.{sets_append}
use Rattle.layout.specs.declared.Acceptance.{Acceptance}
use Rattle.layout.specs.Answers.{answer_of, Checked, checked_as, Made, made_as, Altered, altered_as}
use Rattle.layout.specs.declared.Refusal.{Refusal}
use Rattle.layout.specs.declared.Fault.{Fault}
use Rattle.layout.specs.Paper.{number_of}
use Rattle.ach.specs.Told.{code_of_answer, numbers_of, numbers_left, left, told_by}

-- the paper's numbers are 1 to 34
pub number_range : (f : Fault) → (1 ≤ number_of f) × (number_of f ≤ 34)
number_range Fault.Length = (lit≤ tt, lit≤ tt)
number_range Fault.Ended = (lit≤ tt, lit≤ tt)
number_range Fault.Misplaced = (lit≤ tt, lit≤ tt)
number_range Fault.Past = (lit≤ tt, lit≤ tt)
number_range Fault.Fixed = (lit≤ tt, lit≤ tt)
number_range Fault.Digits = (lit≤ tt, lit≤ tt)
number_range Fault.Text = (lit≤ tt, lit≤ tt)
number_range Fault.Blank = (lit≤ tt, lit≤ tt)
number_range Fault.Leading = (lit≤ tt, lit≤ tt)
number_range Fault.Date = (lit≤ tt, lit≤ tt)
number_range Fault.Value = (lit≤ tt, lit≤ tt)
number_range Fault.CheckDigit = (lit≤ tt, lit≤ tt)
number_range Fault.Bank = (lit≤ tt, lit≤ tt)
number_range Fault.Amount = (lit≤ tt, lit≤ tt)
number_range Fault.Side = (lit≤ tt, lit≤ tt)
number_range Fault.Trace = (lit≤ tt, lit≤ tt)
number_range Fault.BatchNumber = (lit≤ tt, lit≤ tt)
number_range Fault.Count = (lit≤ tt, lit≤ tt)
number_range Fault.Hash = (lit≤ tt, lit≤ tt)
number_range Fault.Limit = (lit≤ tt, lit≤ tt)
number_range Fault.Total = (lit≤ tt, lit≤ tt)
number_range Fault.Batch = (lit≤ tt, lit≤ tt)
number_range Fault.Room = (lit≤ tt, lit≤ tt)
number_range Fault.Shape = (lit≤ tt, lit≤ tt)
number_range Fault.NoEntry = (lit≤ tt, lit≤ tt)
number_range Fault.LineEnd = (lit≤ tt, lit≤ tt)
number_range Fault.NoneLeft = (lit≤ tt, lit≤ tt)
number_range Fault.Remittance = (lit≤ tt, lit≤ tt)
number_range Fault.Comma = (lit≤ tt, lit≤ tt)
number_range Fault.Cents = (lit≤ tt, lit≤ tt)
number_range Fault.Long = (lit≤ tt, lit≤ tt)
number_range Fault.Rows = (lit≤ tt, lit≤ tt)

-- what is told of a result is what is told of the answer that it stands for
pub checked_told : (x : Result Acceptance Refusal) (c : Checked) (lent : List ℕ) → checked_as x ≡ c
    → (code_of_answer (answer_of x) ≡ code_of_answer c.answer)
    × (numbers_left (answer_of x) (numbers_of (checked_as x)) lent ≡ numbers_left c.answer (numbers_of c) lent)
checked_told (Ok a) c lent e = rw (← e) (refl, refl)
checked_told (Err r) c lent e = rw (← e) (refl, refl)

pub made_told : (x : Result ℕ Refusal) (m : Made) (lent : ℕ) → made_as x ≡ m
    → (code_of_answer (answer_of x) ≡ code_of_answer m.answer) × (told_by x lent ≡ left m.answer m.length lent)
made_told (Ok n) m lent e = rw (← e) (refl, refl)
made_told (Err r) m lent e = rw (← e) (refl, refl)

pub altered_told : (x : Result ℤ Refusal) (m : Altered) (lent : ℤ) → altered_as x ≡ m
    → (code_of_answer (answer_of x) ≡ code_of_answer m.answer) × (told_by x lent ≡ left m.answer m.difference lent)
altered_told (Ok n) m lent e = rw (← e) (refl, refl)
altered_told (Err r) m lent e = rw (← e) (refl, refl)

-- the numbers of an acceptance: the first five stored one by one, the rows by code behind them
pub numbers_put : (a : Acceptance) (lent : List ℕ) → length lent ≡ 29 → length a.bycode ≡ 24
    → take 5 (sets lent 0 (a.batches ∷ a.entries ∷ a.addenda ∷ a.debit ∷ a.credit ∷ []))
    ++ (a.bycode ++ drop 24 (drop 5 (sets lent 0 (a.batches ∷ a.entries ∷ a.addenda ∷ a.debit ∷ a.credit ∷ []))))
    ≡ sets (sets lent 0 (a.batches ∷ a.entries ∷ a.addenda ∷ a.debit ∷ a.credit ∷ [])) 5 a.bycode
numbers_put a lent l m =
    let five = a.batches ∷ a.entries ∷ a.addenda ∷ a.debit ∷ a.credit ∷ [] in
    let front = sets lent 0 five in
    let n : 5 + length a.bycode ≤ length front = rw (length-sets, m, l) (lit≤ tt) in
    rw (drop-drop 24 5 front) (sym (append_assoc (take 5 front) a.bycode (drop 29 front)) ∙ sym (rw m at (sets-eq a.bycode front 5 n)))
