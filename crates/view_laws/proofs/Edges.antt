-- "Both sides of each edge": those marked P, shown of the rules themselves.
-- Assumes nothing.
use Rattle.std.specs.Prelude.{Ok, Err}
use Prim.Native.Nat.{ℕ, ◌+◌}
use mathlib.Core.Path.{◌≡◌, refl}
use mathlib.Core.List.{[], ◌∷◌, ◌++◌}
use lib.ListN.{length, drop, replicate}
use Rattle.text.specs.Decimal.{every, value_from, render}
use Rattle.layout.specs.Fields.{part, entry}
use Rattle.layout.specs.Paper.{number_of}
use Rattle.check_alone.specs.Mark.{Mark}
use Rattle.check_digit.specs.CheckDigit.{weighed, check_digit}
use Rattle.check_alone.specs.Kinds.{date}
use Rattle.check_alone.specs.Own.{time, unbroken, account}
use Rattle.check_across.specs.Across.{amount_rule}
use Rattle.check_field.specs.Field.{hash_of, hash_rule, total_rule}
use Rattle.view.specs.View.{Entry, View, entry_record, sum_over, bank_of, credit_of, fillers_after, filler_record, body_of, records_of}

-- the paper's number for a field, 0 where it is right
abbrev pub given : Mark → ℕ
given (Ok _) = 0
given (Err fault) = number_of fault

-- an entry of this code, bank and amount; its other columns are blank
abbrev pub entry_of : ℕ → ℕ → ℕ → Entry
entry_of code bank amount =
    record {
      row = render 2 code ++ (render 8 bank ++ (render 1 (check_digit (render 8 bank)) ++ (replicate 17 32 ++ (render 10 amount ++ replicate 55 32))));
      addenda = [];
    }

-- what its field 6 is given
abbrev pub amount_given : Entry → ℕ
amount_given e = given (amount_rule (entry_record e) (part entry 6 (entry_record e)))

-- so many credits of 9,999,999,999 together
abbrev pub credits : ℕ → ℕ
credits n = sum_over credit_of (replicate n (entry_of 22 32207038 9999999999))

-- one batch of so many entries: three more records before the file control, and that one itself
abbrev pub batch_with : ℕ → View
batch_with n =
    record {
      row = replicate 85 32;
      batches = record { row = replicate 89 32; entries = replicate n (entry_of 22 32207038 1) } ∷ [];
    }

pub record Edges : Type 0 where
  -- "05300021 has check digit 9; 32207038 has 1; 02130264 has 8."
  pub digit_nine : check_digit (render 8 5300021) ≡ 9
  pub digit_one : check_digit (render 8 32207038) ≡ 1
  pub digit_eight : check_digit (render 8 2130264) ≡ 8
  -- "five entries at 05300021: hash 0026500105"
  pub five : hash_of (sum_over bank_of (replicate 5 (entry_of 22 5300021 1))) ≡ 26500105
  pub five_passes : given (hash_rule (sum_over bank_of (replicate 5 (entry_of 22 5300021 1))) (48 ∷ 48 ∷ 50 ∷ 54 ∷ 53 ∷ 48 ∷ 48 ∷ 49 ∷ 48 ∷ 53 ∷ [])) ≡ 0
  -- "two at 32207038: 64414076"; 64404066 is refused 19
  pub two : hash_of (sum_over bank_of (replicate 2 (entry_of 22 32207038 1))) ≡ 64414076
  pub two_passes : given (hash_rule (sum_over bank_of (replicate 2 (entry_of 22 32207038 1))) (render 10 64414076)) ≡ 0
  pub two_misprinted : given (hash_rule (sum_over bank_of (replicate 2 (entry_of 22 32207038 1))) (render 10 64404066)) ≡ 19
  -- "hash sum 9,999,999,999 stays; 10,000,000,000 becomes 0"
  pub hash_stays : hash_of 9999999999 ≡ 9999999999
  pub hash_cut : hash_of 10000000000 ≡ 0
  -- "000229 is a date, 010229 is not"
  pub leap_day : given (date (render 6 229)) ≡ 0
  pub no_leap_day : given (date (render 6 10229)) ≡ 10
  -- "2400 is no time, 2359 is"
  pub no_time : given (time (render 4 2400)) ≡ 10
  pub last_minute : given (time (render 4 2359)) ≡ 0
  -- "code 22 with amount 0 is refused 14; 23 with 0 passes; 23 with 1 is refused"
  pub live_nothing : amount_given (entry_of 22 32207038 0) ≡ 14
  pub prenote_nothing : amount_given (entry_of 23 32207038 0) ≡ 0
  pub prenote_cent : amount_given (entry_of 23 32207038 1) ≡ 14
  -- "account '12-3' then blanks passes; '12 3' is refused 9"
  pub hyphen : given (account (49 ∷ 50 ∷ 45 ∷ 51 ∷ replicate 13 32)) ≡ 0
  pub gap : given (account (49 ∷ 50 ∷ 32 ∷ 51 ∷ replicate 13 32)) ≡ 9
  -- "The account field takes A to Z as well. Lower case stays refused": 'A-Z', and the bytes next to the letters; a letter behind a blank
  pub letters : given (account (65 ∷ 45 ∷ 90 ∷ replicate 14 32)) ≡ 0
  pub before_letters : given (account (64 ∷ replicate 16 32)) ≡ 7
  pub behind_letters : given (account (91 ∷ replicate 16 32)) ≡ 7
  pub lower_case : given (account (97 ∷ replicate 16 32)) ≡ 7
  pub letter_gap : given (account (49 ∷ 32 ∷ 65 ∷ replicate 14 32)) ≡ 9
  -- "100 credits of 9,999,999,999 total 999,999,999,900 and fit; 101 total 1,009,999,999,899 and are refused 20"
  pub hundred : credits 100 ≡ 999999999900
  pub hundred_fit : given (total_rule (credits 100) (render 12 (credits 100))) ≡ 0
  pub one_more : credits 101 ≡ 1009999999899
  pub one_more_refused : given (total_rule (credits 101) (render 12 (credits 101))) ≡ 20
  -- "7 records are followed by 3 fillers, 10 by none, 11 by 9"
  pub seven : fillers_after 7 ≡ 3
  pub ten : fillers_after 10 ≡ 0
  pub eleven : fillers_after 11 ≡ 9
  -- so in files of 3, 6 and 7 entries, whose file control is record 7, 10 and 11
  pub seven_file : (length (body_of (batch_with 3)) + 1 ≡ 7) × (drop 7 (records_of (batch_with 3)) ≡ replicate 3 filler_record)
  pub ten_file : (length (body_of (batch_with 6)) + 1 ≡ 10) × (drop 10 (records_of (batch_with 6)) ≡ [])
  pub eleven_file : (length (body_of (batch_with 7)) + 1 ≡ 11) × (drop 11 (records_of (batch_with 7)) ≡ replicate 9 filler_record)

-- all of them hold
pub edges : Edges
unfolding every value_from render weighed unbroken sum_over
edges =
    record {
      digit_nine = refl;
      digit_one = refl;
      digit_eight = refl;
      five = refl;
      five_passes = refl;
      two = refl;
      two_passes = refl;
      two_misprinted = refl;
      hash_stays = refl;
      hash_cut = refl;
      leap_day = refl;
      no_leap_day = refl;
      no_time = refl;
      last_minute = refl;
      live_nothing = refl;
      prenote_nothing = refl;
      prenote_cent = refl;
      hyphen = refl;
      gap = refl;
      letters = refl;
      before_letters = refl;
      behind_letters = refl;
      lower_case = refl;
      letter_gap = refl;
      hundred = refl;
      hundred_fit = refl;
      one_more = refl;
      one_more_refused = refl;
      seven = refl;
      ten = refl;
      eleven = refl;
      seven_file = (refl, refl);
      ten_file = (refl, refl);
      eleven_file = (refl, refl);
    }
