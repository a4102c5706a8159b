-- A worked file of two batches, with both sides in the first and the file control as record 11: what one small batch would not show.
-- Each fact is computed from the definitions.
use Rattle.std.specs.Prelude.{Ok}
use Prim.Native.Nat.{ℕ, ◌+◌}
use mathlib.Core.Path.{◌≡◌, refl}
use mathlib.Core.Bool.{true, false}
use mathlib.Core.List.{List, [], ◌∷◌, ◌++◌, foldr}
use lib.IntN.{pos}
use lib.ListN.{length, replicate}
use Rattle.text.specs.Decimal.{every, value_from, render}
use Rattle.text.specs.Same.{same_bytes}
use Rattle.text.specs.Rows.{rows, joined}
use Rattle.check_digit.specs.CheckDigit.{weighed, check_digit}
use Rattle.check_alone.specs.Own.{unbroken}
use Rattle.check_record.specs.Record.{checked_of, run_from, fields_from}
use Rattle.view.specs.View.{Entry, Batch, View, sum_over, entries_of, body_of, records_of, file_of, view_of}
use Rattle.view.specs.Table.{with_entries, with_addenda, every_row, shaped, table_bytes, view_of_table}
use Rattle.view.specs.Outcome.{spot_from, amend_entry, amend_batch, within, altered_table, alter_of}
use Rattle.view.specs.Keeps.{codes, count_by, cents_by}
use Rattle.view.specs.Runs.{alter_run, table_run}
use Rattle.layout.specs.declared.Way.{Way}

-- a letter, and so many blanks behind it
abbrev pub name : ℕ → List ℕ
name blanks = 65 ∷ replicate blanks 32

-- code, bank with its check digit, account, amount, a name, column 79, and the trace
abbrev pub item : ℕ → ℕ → ℕ → ℕ → ℕ → List (List ℕ) → Entry
item code bank amount flag trace addenda =
    record {
      row =
          render 2 code ++ (render 8 bank ++ (render 1 (check_digit (render 8 bank)) ++ (49 ∷ replicate 16 32 ++ (render 10 amount
          ++ (replicate 15 32 ++ (name 21 ++ (replicate 2 32 ++ (render 1 flag ++ (render 8 32207038 ++ render 7 trace)))))))));
      addenda = addenda;
    }

-- class, names, the entries' class, a date, the bank and the batch's number
abbrev pub batch_of : List ℕ → ℕ → ℕ → List Entry → Batch
batch_of kind class number entries =
    record {
      row =
          render 3 class ++ (name 15 ++ (replicate 20 32 ++ (render 10 1123456789 ++ (kind ++ (name 9 ++ (replicate 6 32
          ++ (render 6 261116 ++ (render 8 32207038 ++ render 7 number))))))));
      entries = entries;
    }

-- 'PPD' and 'CCD'
abbrev pub ppd : List ℕ
ppd = 80 ∷ 80 ∷ 68 ∷ []

abbrev pub ccd : List ℕ
ccd = 67 ∷ 67 ∷ 68 ∷ []

abbrev pub batch : ℕ → ℕ → List Entry → Batch
batch class number entries = batch_of ppd class number entries

-- the file's row, and these batches
abbrev pub file_with : List Batch → View
file_with batches =
    record {
      row = 32 ∷ render 9 322070381 ++ (32 ∷ render 9 123456789 ++ (render 6 261113 ++ (render 4 930 ++ (65 ∷ replicate 54 32))));
      batches = batches;
    }

-- a credit of x cents and a debit of 250 with an addendum; then a credit of y cents and one of 40
abbrev pub two : ℕ → ℕ → View
two x y =
    file_with
    (batch 200 1 (item 22 32207038 x 0 1 [] ∷ item 27 5300021 250 1 2 (name 79 ∷ []) ∷ [])
    ∷ batch 220 7 (item 22 2130264 y 0 1 [] ∷ item 32 32207038 40 0 2 [] ∷ [])
    ∷ [])

pub record Across : Type 0 where
  -- its file is accepted, with the numbers of both batches
  pub accepted : checked_of Way.Plain (file_of Way.Plain (two 100 1000))
      ≡ record {
        answer = Ok tt;
        batches = 2;
        entries = 4;
        addenda = 1;
        debit = 250;
        credit = 1140;
        bycode = 2 ∷ 1100 ∷ replicate 4 0 ++ (1 ∷ 250 ∷ replicate 4 0 ++ (1 ∷ 40 ∷ replicate 10 0));
      }
  -- its own entries say the rows by code
  pub by_code : foldr (λ code rows. count_by code (entries_of (two 100 1000)) ∷ cents_by code (entries_of (two 100 1000)) ∷ rows) [] codes
      ≡ 2 ∷ 1100 ∷ replicate 4 0 ++ (1 ∷ 250 ∷ replicate 4 0 ++ (1 ∷ 40 ∷ replicate 10 0))
  -- eleven records and nine fillers, in the second way each with its line end
  pub records : (length (body_of (two 100 1000)) + 1 ≡ 11) × (length (records_of (two 100 1000)) ≡ 20) × (length (file_of Way.Lined (two 100 1000)) ≡ 1920)
  -- file and table each say it again, and each is made of the other
  pub read : view_of Way.Plain (file_of Way.Plain (two 100 1000)) ≡ two 100 1000
  pub table : view_of_table (table_bytes (two 100 1000)) ≡ two 100 1000
  pub tables : (shaped (table_bytes (two 100 1000)) ≡ true) × (length (table_bytes (two 100 1000)) ≡ 109 + 190 + 372 + 80)
  -- entry 3 is the first of the second batch, entry 1 the first of the first
  pub third : alter_of Way.Plain (file_of Way.Plain (two 100 1000)) 3 1001 ≡ record { gives = record { answer = Ok tt; difference = pos 1 }; leaves = file_of Way.Plain (two 100 1001) }
  pub first : (alter_of Way.Plain (file_of Way.Plain (two 100 1000)) 1 99).leaves ≡ file_of Way.Plain (two 99 1000)
  pub third_table : altered_table (table_bytes (two 100 1000)) 3 1001 ≡ table_bytes (two 100 1001)
  -- "the limit is tried on the total less the old amount plus the new"
  pub full : (within 999999999900 9999999999 9999999999 ≡ true) × (within 999999999999 1 1 ≡ true) × (within 999999999999 1 2 ≡ false)
  -- of three calls the last is refused, a credit of 0: the others stand
  pub run : alter_run Way.Plain ((3, 1001) ∷ (1, 101) ∷ (1, 0) ∷ []) (file_of Way.Plain (two 100 1000)) ≡ file_of Way.Plain (two 101 1001)
  pub run_table : table_run Way.Plain ((3, 1001) ∷ (1, 101) ∷ (1, 0) ∷ []) (table_bytes (two 100 1000)) ≡ table_bytes (two 101 1001)

-- all of them hold
pub across : Across
unfolding run_from fields_from every value_from same_bytes rows weighed unbroken joined render sum_over with_entries with_addenda every_row spot_from amend_entry amend_batch alter_run table_run
across =
    record {
      accepted = refl;
      by_code = refl;
      records = (refl, refl, refl);
      read = refl;
      table = refl;
      tables = (refl, refl);
      third = refl;
      first = refl;
      third_table = refl;
      full = (refl, refl, refl);
      run = refl;
      run_table = refl;
    }
