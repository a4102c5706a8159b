-- "Recalled payments taken out": which entries stay, and what taking out gives and leaves, for any bytes and any list.
use Rattle.std.specs.Prelude.{Ok, Err, ℕ, ◌+◌, ◌-◌, Bool, true, false, ◌&&◌, ◌||◌, List, [], ◌∷◌, ◌++◌, eqb, leb, length, replicate}
use Rattle.text.specs.Decimal.{pick}
use Rattle.layout.specs.declared.Fault.{Fault}
use Rattle.layout.specs.Answers.{Answer, Made}
use Rattle.layout.specs.declared.Way.{Way}
use Rattle.check_record.specs.Record.{checked_of}
use Rattle.view.specs.View.{Entry, Batch, View, entries_of, file_of, view_of}
use Rattle.view.specs.Table.{table_bytes, view_of_table}
use Rattle.view.specs.Outcome.{Outcome, demand, and_then, exists}
use Rattle.layout.specs.Paper.{refusal}
use Rattle.funds.specs.Funds.{enough_rows}
use Rattle.funds.specs.Outcome.{Listed, relisted}

-- entry k is one of those in the list: "a list of entry numbers in any order, repeats counting once"
unfoldable pub named : ℕ → List ℕ → Bool
named k [] = false
named k (n ∷ ns) = eqb n k || named k ns

-- the entries that stay; the first of them has number k in the file
unfoldable pub entries_left : List ℕ → ℕ → List Entry → List Entry
entries_left ns k [] = []
entries_left ns k (e ∷ es) = pick (named k ns) (entries_left ns (k + 1) es) (e ∷ entries_left ns (k + 1) es)

-- "drop a batch left empty"
abbrev pub unless_empty : List ℕ → List Entry → List Batch → List Batch
unless_empty row [] bs = bs
unless_empty row (e ∷ es) bs = record { row = row; entries = e ∷ es } ∷ bs

-- the batches that stay; the first entry of the first of them has number k in the file
unfoldable pub batches_left : List ℕ → ℕ → List Batch → List Batch
batches_left ns k [] = []
batches_left ns k (b ∷ bs) =
    unless_empty b.row (entries_left ns k b.entries) (batches_left ns (k + length b.entries) bs)

-- "take out those entries with their addenda .. traces and batch numbers kept"
abbrev pub without : View → List ℕ → View
without v ns = record { row = v.row; batches = batches_left ns 1 v.batches }

-- "the table without those rows"
abbrev pub table_without : List ℕ → List ℕ → List ℕ
table_without t ns = table_bytes (without (view_of_table t) ns)

-- each number of the list is an entry's
unfoldable pub all_exist : View → List ℕ → Bool
all_exist v [] = true
all_exist v (n ∷ ns) = exists v n && all_exist v ns

-- "Refusals: the file's own, 25 for the first bad number in the list, 27 if no entry would be left."
-- and "23, last, where the list lent to .. taking out is too short": "the room is measured by the batches left"; a list of n numbers is lent
abbrev pub take_out_answer : Way → List ℕ → List ℕ → ℕ → Answer
take_out_answer way f ns n =
    and_then (checked_of way f).answer
    (demand (all_exist (view_of way f) ns) (refusal Fault.NoEntry 0 0)
    (demand (leb 1 (length (entries_of (without (view_of way f) ns)))) (refusal Fault.NoneLeft 0 0)
    (demand (enough_rows (without (view_of way f) ns) n) (refusal Fault.Room 0 0) (Ok tt))))

-- "The freed bytes after the new end become blanks, and the new length is given."
abbrev pub shortened : Answer → List ℕ → List ℕ → Outcome Made
shortened (Ok _) result f =
    record {
      gives = record { answer = Ok tt; length = length result };
      leaves = result ++ replicate (length f - length result) 32;
    }
shortened (Err r) result f =
    record { gives = record { answer = Err r; length = 0 }; leaves = f }

-- "taking entries out rebuilds it": the list, which held `held`, is that of the file left
abbrev pub take_out_of : Way → List ℕ → List ℕ → List ℕ → Listed Made
take_out_of way f ns held =
    let left = without (view_of way f) ns in
    let answer = take_out_answer way f ns (length held) in
    let done = shortened answer (file_of way left) f in
    record { gives = done.gives; leaves = done.leaves; rows = relisted answer left held }
