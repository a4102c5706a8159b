-- Entries taken out of a worked file of two batches, of which the second entry has an addendum. Each fact is computed from the definitions.
use Rattle.std.specs.Prelude.{Ok}
use mathlib.Core.Path.{◌≡◌, refl}
use mathlib.Core.List.{List, [], ◌∷◌, ◌++◌}
use Prim.Native.Nat.{ℕ}
use lib.ListN.{replicate}
use Rattle.text.specs.Decimal.{every, value_from, render}
use Rattle.text.specs.Same.{same_bytes}
use Rattle.text.specs.Rows.{rows, joined}
use Rattle.layout.specs.declared.Fault.{Fault}
use Rattle.layout.specs.Answers.{Made}
use Rattle.layout.specs.declared.Way.{Way}
use Rattle.check_digit.specs.CheckDigit.{weighed}
use Rattle.check_alone.specs.Own.{unbroken}
use Rattle.check_record.specs.Record.{checked_of, run_from, fields_from}
use Rattle.view.specs.View.{Entry, Batch, View, sum_over, file_of}
use Rattle.view.specs.Table.{with_entries, with_addenda, every_row, table_bytes}
use Rattle.layout.specs.Paper.{refusal}
use Rattle.view.proofs.Across.{item, batch, two}
use Rattle.funds.specs.Funds.{rows_from}
use Rattle.funds.specs.Outcome.{Listed}
use Rattle.recall_view.specs.RecallView.{named, entries_left, batches_left, without, table_without, all_exist, take_out_of}

-- entries 1 and 2 stand in batch 1, entries 3 and 4 in batch 7
abbrev pub sent : View
sent = two 100 1000

-- the same file with these batches alone
abbrev pub sent_with : List Batch → View
sent_with bs = record { row = sent.row; batches = bs }

abbrev credit : Entry
credit = item 22 32207038 100 0 1 []

abbrev debit : Entry
debit = item 27 5300021 250 1 2 ((65 ∷ replicate 79 32) ∷ [])

abbrev third : Entry
third = item 22 2130264 1000 0 1 []

abbrev fourth : Entry
fourth = item 32 32207038 40 0 2 []

-- what taking these out of the sent file gives and leaves, with this list lent
abbrev pub recall : Way → List ℕ → List ℕ → Listed Made
recall way ns held = take_out_of way (file_of way sent) ns held

abbrev pub refused_with : Fault → List ℕ → Listed Made
refused_with fault held = record { gives = record { answer = refusal fault 0 0; length = 0 }; leaves = file_of Way.Plain sent; rows = held }

-- a list with room for two rows, and a number behind them
abbrev lent : List ℕ
lent = 1 ∷ 2 ∷ 3 ∷ 4 ∷ 5 ∷ []

pub record Recalled : Type 0 where
  -- entry 2 goes with its addendum; what stays has its numbers and traces
  pub second : without sent (2 ∷ []) ≡ sent_with (batch 200 1 (credit ∷ []) ∷ batch 220 7 (third ∷ fourth ∷ []) ∷ [])
  -- "a list of entry numbers in any order, repeats counting once": all refer to the lent file
  pub repeated : without sent (4 ∷ 2 ∷ 4 ∷ 2 ∷ []) ≡ sent_with (batch 200 1 (credit ∷ []) ∷ batch 220 7 (third ∷ []) ∷ [])
  -- numbers count through the file: entry 3 is the first of its batch, which then begins with trace 2
  pub through : without sent (3 ∷ []) ≡ sent_with (batch 200 1 (credit ∷ debit ∷ []) ∷ batch 220 7 (fourth ∷ []) ∷ [])
  -- "drop a batch left empty"
  pub first_dropped : without sent (2 ∷ 1 ∷ []) ≡ sent_with (batch 220 7 (third ∷ fourth ∷ []) ∷ [])
  pub last_dropped : without sent (3 ∷ 4 ∷ 3 ∷ []) ≡ sent_with (batch 200 1 (credit ∷ debit ∷ []) ∷ [])
  -- so does the table: "the table without those rows"
  pub table : table_without (table_bytes sent) (3 ∷ 4 ∷ 3 ∷ []) ≡ table_bytes (sent_with (batch 200 1 (credit ∷ debit ∷ []) ∷ []))
  -- nine records and a filler where there were eleven and nine: "the freed bytes after the new end become blanks, and the new length is given";
  -- the controls are now records 4 and 8, the list says so, and what stands behind it stays
  pub plain : recall Way.Plain (2 ∷ []) lent
      ≡ record {
        gives = record { answer = Ok tt; length = 940 };
        leaves = file_of Way.Plain (without sent (2 ∷ [])) ++ replicate 940 32;
        rows = 4 ∷ 100 ∷ 8 ∷ 1140 ∷ 5 ∷ [];
      }
  -- blanks there are with line ends too
  pub lined : recall Way.Lined (2 ∷ []) lent
      ≡ record {
        gives = record { answer = Ok tt; length = 960 };
        leaves = file_of Way.Lined (without sent (2 ∷ [])) ++ replicate 960 32;
        rows = 4 ∷ 100 ∷ 8 ∷ 1140 ∷ 5 ∷ [];
      }
  -- "the room is measured by the batches left": one row is enough where one batch is left
  pub one_row : recall Way.Plain (2 ∷ 1 ∷ []) (1 ∷ 2 ∷ [])
      ≡ record {
        gives = record { answer = Ok tt; length = 940 };
        leaves = file_of Way.Plain (without sent (2 ∷ 1 ∷ [])) ++ replicate 940 32;
        rows = 5 ∷ 1040 ∷ [];
      }
  -- and too short where both are; "23, last": 25 and 27 come first
  pub short : recall Way.Plain (2 ∷ []) (1 ∷ 2 ∷ 3 ∷ []) ≡ refused_with Fault.Room (1 ∷ 2 ∷ 3 ∷ [])
  pub short_and_fifth : recall Way.Plain (5 ∷ 1 ∷ []) [] ≡ refused_with Fault.NoEntry []
  pub short_and_all : recall Way.Plain (4 ∷ 2 ∷ 3 ∷ 1 ∷ []) [] ≡ refused_with Fault.NoneLeft []
  -- "correct every control field": the new file is accepted, with the numbers of what stays
  pub accepted : checked_of Way.Plain (file_of Way.Plain (without sent (2 ∷ 4 ∷ [])))
      ≡ record {
        answer = Ok tt;
        batches = 2;
        entries = 2;
        addenda = 0;
        debit = 0;
        credit = 1100;
        bycode = 2 ∷ 1100 ∷ replicate 22 0;
      }
  -- "An empty list is granted and changes nothing."
  pub none : recall Way.Plain [] lent
      ≡ record { gives = record { answer = Ok tt; length = 1880 }; leaves = file_of Way.Plain sent; rows = 6 ∷ 100 ∷ 10 ∷ 1140 ∷ 5 ∷ [] }
  -- "0 is a bad number"; there is no entry 5; "25 before 27"; "27 is asked of the set"
  pub zeroth : recall Way.Plain (1 ∷ 0 ∷ []) lent ≡ refused_with Fault.NoEntry lent
  pub fifth : recall Way.Plain (5 ∷ 1 ∷ []) lent ≡ refused_with Fault.NoEntry lent
  pub all_and_fifth : recall Way.Plain (1 ∷ 2 ∷ 3 ∷ 4 ∷ 5 ∷ []) lent ≡ refused_with Fault.NoEntry lent
  pub all : recall Way.Plain (4 ∷ 2 ∷ 3 ∷ 1 ∷ 1 ∷ []) lent ≡ refused_with Fault.NoneLeft lent
  pub as_many : (recall Way.Plain (2 ∷ 3 ∷ 1 ∷ 1 ∷ []) lent).gives ≡ record { answer = Ok tt; length = 940 }

-- all of them hold
pub recalled : Recalled
unfolding run_from fields_from every value_from same_bytes rows weighed unbroken joined render sum_over with_entries with_addenda every_row named entries_left batches_left all_exist rows_from
recalled =
    record {
      second = refl;
      repeated = refl;
      through = refl;
      first_dropped = refl;
      last_dropped = refl;
      table = refl;
      plain = refl;
      lined = refl;
      one_row = refl;
      short = refl;
      short_and_fifth = refl;
      short_and_all = refl;
      accepted = refl;
      none = refl;
      zeroth = refl;
      fifth = refl;
      all_and_fifth = refl;
      all = refl;
      as_many = refl;
    }
