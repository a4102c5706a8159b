-- What callers in other languages are told: of an outcome o the code, what was lent as it is left, and the numbers that are given on a grant
-- only. A lent number held `lent` before.
use Rattle.std.specs.Prelude.{ℕ, ◌≡◌, List, [], ◌∷◌, ℤ}
use Rattle.std.proofs.lemmas.List.Edits.{sets}
use Rattle.text.specs.Decimal.{pick}
use Rattle.layout.specs.Answers.{Answer}
use Rattle.layout.specs.Answers.{Altered}
use Rattle.layout.specs.Answers.{Checked}
use Rattle.layout.specs.Answers.{Made}
use Rattle.view.specs.Outcome.{Outcome, Part}
use Rattle.funds.specs.RunsOut.{RunsOut}
use Rattle.funds.specs.Outcome.{Listed}
use Rattle.mend.specs.Mend.{Mending}
use Rattle.ach.specs.Told.{code_of_answer, numbers_of, numbers_left, left}

-- ach_check: the acceptance, and the lent rows
abbrev pub TellsChecked : Outcome Checked → List ℕ → ℕ → List ℕ → List ℕ → Type 0
TellsChecked o lent code acceptance rows =
    (code ≡ code_of_answer o.gives.answer) × (acceptance ≡ numbers_left o.gives.answer (numbers_of o.gives) lent) × (rows ≡ o.leaves)

-- ach_read, ach_write, ach_import, ach_export: the buffer with the result in front, and the result's length
abbrev pub TellsMade : Outcome Made → ℕ → ℕ → List ℕ → ℕ → Type 0
TellsMade o lent code buffer length =
    (code ≡ code_of_answer o.gives.answer) × (buffer ≡ o.leaves) × (length ≡ left o.gives.answer o.gives.length lent)

-- ach_take_out: the file, the lent rows, and the file's new length
abbrev pub TellsTakenOut : Listed Made → ℕ → ℕ → List ℕ → List ℕ → ℕ → Type 0
TellsTakenOut o lent code file rows length =
    (code ≡ code_of_answer o.gives.answer) × (file ≡ o.leaves) × (rows ≡ o.rows) × (length ≡ left o.gives.answer o.gives.length lent)

-- ach_mend: the mended file with its length, and the changes with theirs
abbrev pub TellsMended : Mending → ℕ → ℕ → ℕ → List ℕ → ℕ → List ℕ → ℕ → Type 0
TellsMended o lent other code mended length changes listed =
    (code ≡ code_of_answer o.gives.answer)
    × (mended ≡ o.leaves)
    × (length ≡ left o.gives.answer o.gives.length lent)
    × (changes ≡ o.changes)
    × (listed ≡ left o.gives.answer o.gives.listed other)

-- ach_alter: the file, the lent rows, and the difference
abbrev pub TellsAltered : Listed Altered → ℤ → ℕ → List ℕ → List ℕ → ℤ → Type 0
TellsAltered o lent code file rows difference =
    (code ≡ code_of_answer o.gives.answer) × (file ≡ o.leaves) × (rows ≡ o.rows) × (difference ≡ left o.gives.answer o.gives.difference lent)

-- ach_addendum: where the part begins, and its length
abbrev pub TellsAsked : Answer → Part → ℕ → ℕ → ℕ → ℕ → ℕ → Type 0
TellsAsked answer part lent other code start length =
    (code ≡ code_of_answer answer) × (start ≡ left answer part.from lent) × (length ≡ left answer part.size other)

-- of the question: how many rows come up to and with the one found, its record number and its credits
abbrev pub row_numbers : RunsOut → List ℕ
row_numbers r = r.rows ∷ r.record ∷ r.credits ∷ []

-- ach_runs_out: 1 where a row is over the limit, and its numbers either way
abbrev pub TellsFound : RunsOut → List ℕ → ℕ → List ℕ → Type 0
TellsFound o lent code numbers = (code ≡ pick o.found 1 0) × (numbers ≡ sets lent 0 (row_numbers o))
