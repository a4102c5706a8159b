-- The contracts: which result, and which content of everything lent, each public function permits, for any bytes at all,
-- in either way of a file.
use Rattle.std.specs.Prelude.{ℕ, ◌≡◌, List, [], ◌∷◌, take, drop}
use Rattle.layout.specs.Answers.{Answer}
use Rattle.layout.specs.Answers.{Checked}
use Rattle.layout.specs.Answers.{Made}
use Rattle.layout.specs.Answers.{Altered}
use Rattle.layout.specs.declared.Way.{Way}
use Rattle.find_entry.specs.AskedSpan.{AskedSpan}
use Rattle.funds.specs.RunsOut.{RunsOut}
use Rattle.funds.specs.Funds.{runs_out}
use Rattle.funds.specs.Outcome.{check_of}
use Rattle.alter.specs.Alter.{alter_listed_of}
use Rattle.csv_entry.specs.Import.{import_of}
use Rattle.csv_export.specs.Export.{export_of}
use Rattle.view.specs.Outcome.{read_of, write_of, addendum_answer, addendum_of}
use Rattle.recall_view.specs.RecallView.{take_out_of}
use Rattle.mend.specs.Mended.{Mended}
use Rattle.mend.specs.Mend.{mend_of}

-- check: the file f, and a lent list that held `held` and then holds `left`
abbrev pub Checks : Way → List ℕ → List ℕ → Checked → List ℕ → Type 0
Checks way f held r left = (r ≡ (check_of way f held).gives) × (left ≡ (check_of way f held).leaves)

-- runs_out: the limit asked of a list, which is lent to be read
abbrev pub Finds : List ℕ → ℕ → RunsOut → Type 0
Finds rows limit r = r ≡ runs_out limit rows

-- read: the file f, and a lent table that held `held` and then holds `left`
abbrev pub Reads : Way → List ℕ → List ℕ → Made → List ℕ → Type 0
Reads way f held r left = (r ≡ (read_of way f held).gives) × (left ≡ (read_of way f held).leaves)

-- write: the table t, and a lent file that held `held` and then holds `left`
abbrev pub Writes : Way → List ℕ → List ℕ → Made → List ℕ → Type 0
Writes way t held r left = (r ≡ (write_of way t held).gives) × (left ≡ (write_of way t held).leaves)

-- alter: a lent file that held f and then holds `left`, its entry k and the new amount, and a lent list that held `held` and then holds `rows`
abbrev pub Alters : Way → List ℕ → List ℕ → ℕ → ℕ → Altered → List ℕ → List ℕ → Type 0
Alters way f held k amount r left rows =
    (r ≡ (alter_listed_of way f held k amount).gives)
    × (left ≡ (alter_listed_of way f held k amount).leaves)
    × (rows ≡ (alter_listed_of way f held k amount).rows)

-- taking out: a lent file that held f and then holds `left`, the list of entry numbers, which is lent to be read, and a lent list that held
-- `held` and then holds `rows`
abbrev pub TakesOut : Way → List ℕ → List ℕ → List ℕ → Made → List ℕ → List ℕ → Type 0
TakesOut way f ns held r left rows =
    (r ≡ (take_out_of way f ns held).gives) × (left ≡ (take_out_of way f ns held).leaves) × (rows ≡ (take_out_of way f ns held).rows)

-- mend: the file f, which is only read, and two lent buffers that held `held` and `list` and then hold `left` and `changes`
abbrev pub Mends : Way → List ℕ → List ℕ → List ℕ → Mended → List ℕ → List ℕ → Type 0
Mends way f held list r left changes =
    (r ≡ (mend_of way f held list).gives) × (left ≡ (mend_of way f held list).leaves) × (changes ≡ (mend_of way f held list).changes)

-- import: the two rows and the lines of a list, and a lent table that held `held` and then holds `left`
abbrev pub Imports : List ℕ → List ℕ → List ℕ → List ℕ → Made → List ℕ → Type 0
Imports filerow batchrow lines held r left =
    (r ≡ (import_of filerow batchrow lines held).gives) × (left ≡ (import_of filerow batchrow lines held).leaves)

-- export: the table t, and lent lines that held `held` and then hold `left`
abbrev pub Exports : List ℕ → List ℕ → Made → List ℕ → Type 0
Exports t held r left = (r ≡ (export_of t held).gives) × (left ≡ (export_of t held).leaves)

-- addendum: the part of the file f that is handed back for entry k
abbrev pub HandsOut : Way → List ℕ → ℕ → List ℕ → Type 0
HandsOut way f k bytes = bytes ≡ take (addendum_of way f k).size (drop (addendum_of way f k).from f)

-- addendum_answer: granted, or why there is no addendum
abbrev pub Explains : Way → List ℕ → ℕ → Answer → Type 0
Explains way f k r = r ≡ addendum_answer way f k

-- asked_span: that answer, and where that part stands
abbrev pub Spans : Way → List ℕ → ℕ → AskedSpan → Type 0
Spans way f k r = (r.answer ≡ addendum_answer way f k) × (r.from ≡ (addendum_of way f k).from) × (r.size ≡ (addendum_of way f k).size)

-- calls of alter one after another, each of an entry number and an amount, from the file f and the list `held` to the file g and the list `rows`:
-- each is lent what the one before it left
abbrev pub Run : Way → List (ℕ × ℕ) → List ℕ → List ℕ → List ℕ → List ℕ → Type 0
Run way [] f held g rows = (g ≡ f) × (rows ≡ held)
Run way (call ∷ calls) f held g rows =
    (r : Altered) × (left : List ℕ) × (list : List ℕ) × Alters way f held call.0 call.1 r left list × Run way calls left list g rows
