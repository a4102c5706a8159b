-- What goes, told beside what stays: the entries, and how many different numbers a list has.
use Rattle.std.specs.Prelude.{ℕ, ◌+◌, List, [], ◌∷◌}
use Rattle.text.specs.Decimal.{pick}
use Rattle.view.specs.View.{Entry, View, entries_of}
use Rattle.recall_view.specs.RecallView.{named}

-- the entries that go, in order; the first of them all has number k in the file
unfoldable pub entries_gone : List ℕ → ℕ → List Entry → List Entry
entries_gone ns k [] = []
entries_gone ns k (e ∷ es) = pick (named k ns) (e ∷ entries_gone ns (k + 1) es) (entries_gone ns (k + 1) es)

abbrev pub gone_of : View → List ℕ → List Entry
gone_of v ns = entries_gone ns 1 (entries_of v)

-- "repeats counting once"
unfoldable pub distinct : List ℕ → ℕ
distinct [] = 0
distinct (n ∷ ns) = pick (named n ns) (distinct ns) (distinct ns + 1)
