-- "Remittances of nothing": worked files with zero-dollar entries, and what each is refused with where one thing is not as asked.
-- Each fact is computed from the definitions.
use Rattle.std.specs.Prelude.{Ok}
use Prim.Native.Nat.{ℕ}
use mathlib.Core.Path.{◌≡◌, refl}
use mathlib.Core.List.{List, [], ◌∷◌}
use lib.IntN.{pos}
use Rattle.text.specs.Decimal.{every, value_from, render}
use Rattle.text.specs.Same.{same_bytes}
use Rattle.text.specs.Rows.{rows, joined}
use Rattle.layout.specs.declared.Way.{Way}
use Rattle.layout.specs.Paper.{Paper, paper_of}
use Rattle.check_digit.specs.CheckDigit.{weighed}
use Rattle.check_alone.specs.Own.{unbroken}
use Rattle.check_record.specs.Record.{checked_of, run_from, fields_from}
use Rattle.view.specs.View.{Entry, View, sum_over, file_of}
use Rattle.view.specs.Outcome.{spot_from, amend_entry, amend_batch, alter_of}
use Rattle.view.proofs.Across.{name, item, batch_of, ppd, ccd, file_with}

-- one entry of this code and amount, and so much in column 79
abbrev entry_of : ℕ → ℕ → ℕ → List (List ℕ) → List Entry
entry_of code amount flag addenda = item code 32207038 amount flag 1 addenda ∷ []

-- its addendum
abbrev text : List (List ℕ)
text = name 79 ∷ []

-- what the paper prints of a file of one batch, its entries' class and its own told
abbrev printed : List ℕ → ℕ → List Entry → Paper
printed kind class entries = paper_of (checked_of Way.Plain (file_of Way.Plain (file_with (batch_of kind class 1 entries ∷ [])))).answer

abbrev paper : ℕ → ℕ → Paper
paper number field = record { number = number; record_no = 3; field_no = field }

abbrev accepted : Paper
accepted = record { number = 0; record_no = 0; field_no = 0 }

-- all four codes, each with its addendum, before a credit of 7 cents
abbrev four : View
four =
    file_with
    (batch_of ccd 200 1
    (item 24 32207038 0 1 1 text ∷ item 29 32207038 0 1 2 text ∷ item 34 32207038 0 1 3 text ∷ item 39 32207038 0 1 4 text
    ∷ item 22 32207038 7 0 5 [] ∷ [])
    ∷ [])

pub record AcrossNothing : Type 0 where
  -- "codes 24 and 34 credit, 29 and 39 debit .. are known from now on"; "the rows by code become twelve, in rising order"
  pub by_code : checked_of Way.Plain (file_of Way.Plain four)
      ≡ record {
        answer = Ok tt;
        batches = 1;
        entries = 5;
        addenda = 4;
        debit = 0;
        credit = 7;
        bycode =
            1 ∷ 7 ∷ 0 ∷ 0 ∷ 1 ∷ 0
            ∷ 0 ∷ 0 ∷ 0 ∷ 0 ∷ 1 ∷ 0
            ∷ 0 ∷ 0 ∷ 0 ∷ 0 ∷ 1 ∷ 0
            ∷ 0 ∷ 0 ∷ 0 ∷ 0 ∷ 1 ∷ 0 ∷ [];
      }
  -- credits under 220 and debits under 225; the other way round 15
  pub credit : (printed ccd 220 (entry_of 24 0 1 text) ≡ accepted) × (printed ccd 220 (entry_of 34 0 1 text) ≡ accepted)
  pub debit : (printed ccd 225 (entry_of 29 0 1 text) ≡ accepted) × (printed ccd 225 (entry_of 39 0 1 text) ≡ accepted)
  pub side : (printed ccd 225 (entry_of 24 0 1 text) ≡ paper 15 2) × (printed ccd 220 (entry_of 39 0 1 text) ≡ paper 15 2)
  -- "in CCD batches only": 28 "at field 2 after 15 in a PPD batch"
  pub people : (printed ppd 220 (entry_of 24 0 1 text) ≡ paper 28 2) × (printed ppd 200 (entry_of 39 0 1 text) ≡ paper 28 2)
  pub side_first : printed ppd 225 (entry_of 24 0 1 text) ≡ paper 15 2
  -- "with amount 0 and an addendum": 14, and 28 "at field 10 after 11 without the addendum"; the earlier field comes first
  pub cent : printed ccd 220 (entry_of 24 1 1 text) ≡ paper 14 6
  pub alone : (printed ccd 220 (entry_of 24 0 0 []) ≡ paper 28 10) × (printed ccd 200 (entry_of 39 0 0 []) ≡ paper 28 10)
  pub flag_first : printed ccd 220 (entry_of 24 0 2 []) ≡ paper 11 10
  pub cent_first : printed ccd 220 (entry_of 24 1 0 []) ≡ paper 14 6
  -- other codes ask for neither
  pub prenote : (printed ppd 220 (entry_of 23 0 0 []) ≡ accepted) × (printed ccd 220 (entry_of 23 0 1 text) ≡ accepted)
  -- the codes next to these are not known
  pub unknown : (printed ccd 200 (entry_of 25 0 1 text) ≡ paper 11 2) × (printed ccd 200 (entry_of 30 0 1 text) ≡ paper 11 2)
  -- "Altering such an entry to anything but 0 is refused 14"
  pub altered : paper_of (alter_of Way.Plain (file_of Way.Plain four) 2 1).gives.answer ≡ record { number = 14; record_no = 5; field_no = 6 }
  pub altered_not : alter_of Way.Plain (file_of Way.Plain four) 2 0 ≡ record { gives = record { answer = Ok tt; difference = pos 0 }; leaves = file_of Way.Plain four }

-- all of them hold
pub across_nothing : AcrossNothing
unfolding run_from fields_from every value_from same_bytes rows weighed unbroken joined render sum_over spot_from amend_entry amend_batch
across_nothing =
    record {
      by_code = refl;
      credit = (refl, refl);
      debit = (refl, refl);
      side = (refl, refl);
      people = (refl, refl);
      side_first = refl;
      cent = refl;
      alone = (refl, refl);
      flag_first = refl;
      cent_first = refl;
      prenote = (refl, refl);
      unknown = (refl, refl);
      altered = refl;
      altered_not = refl;
    }
