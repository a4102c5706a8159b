-- A worked file of two batches, damaged in one thing or another and mended. Its records are 1, 5, 6, 6, 7, 8, 5, 6, 6, 8, 9 and nine fillers.
-- Each fact is computed from the definitions.
use Rattle.std.specs.Prelude.{Ok}
use Prim.Native.Nat.{ℕ, ◌+◌, ◌-◌, ◌*◌}
use mathlib.Core.Path.{◌≡◌, refl}
use mathlib.Core.List.{List, [], ◌∷◌, ◌++◌}
use lib.ListN.{length, take, drop, replicate}
use lib.Seq.{sets}
use Rattle.text.specs.Decimal.{every, value_from, render}
use Rattle.text.specs.Same.{same_bytes}
use Rattle.text.specs.Rows.{rows, joined}
use Rattle.layout.specs.declared.Fault.{Fault}
use Rattle.layout.specs.declared.Way.{Way}
use Rattle.layout.specs.Paper.{refusal}
use Rattle.layout.specs.Ways.{record_bytes}
use Rattle.check_digit.specs.CheckDigit.{weighed}
use Rattle.check_alone.specs.Own.{unbroken}
use Rattle.check_record.specs.Record.{run_from, fields_from}
use Rattle.view.specs.View.{sum_over, file_of}
use Rattle.view.proofs.Across.{two}
use Rattle.mend.specs.Mend.{mended_from, mended_file, before_nine, field_changes, changes_from, only_nines, Mending, mend_of}

abbrev pub sent : Way → List ℕ
sent way = file_of way (two 100 1000)

-- these bytes in record n of a file, from column c on
abbrev pub damaged : Way → ℕ → ℕ → List ℕ → List ℕ → List ℕ
damaged way n c bytes f = sets f (record_bytes way * (n - 1) + (c - 1)) bytes

-- records a to b of a file in the first way
abbrev pub records : ℕ → ℕ → List ℕ → List ℕ
records a b f = take (94 * (b + 1 - a)) (drop (94 * (a - 1)) f)

-- the buffers lent: one byte more than the file has, and 300 bytes for the changes
abbrev pub mend : Way → List ℕ → Mending
mend way f = mend_of way f (replicate (record_bytes way * 20 + 1) 42) (replicate 300 46)

-- the sent file, and these changes
abbrev pub mended_with : Way → List ℕ → Mending
mended_with way changes =
    record {
      gives = record { answer = Ok tt; length = record_bytes way * 20; listed = length changes };
      leaves = sent way ++ (42 ∷ []);
      changes = changes ++ replicate (300 - length changes) 46;
    }

-- a refusal: both numbers 0, and neither buffer touched
abbrev pub refused_with : Way → Fault → ℕ → ℕ → Mending
refused_with way fault n k =
    record {
      gives = record { answer = refusal fault n k; length = 0; listed = 0 };
      leaves = replicate (record_bytes way * 20 + 1) 42;
      changes = replicate 300 46;
    }

-- a count of seven digits
abbrev pub count : ℕ → List ℕ
count n = render 7 n

-- a field that differs
abbrev pub change : ℕ → ℕ → List ℕ → List ℕ → List ℕ
change n k old new = render 7 n ++ (render 2 k ++ (old ++ new))

-- the credits of the first batch are said to be 999 cents
abbrev pub total_wrong : Way → List ℕ
total_wrong way = damaged way 6 33 (render 12 999) (sent way)

abbrev pub total_mended : List ℕ
total_mended = count 1 ++ (change 6 6 (render 12 999) (render 12 100) ++ (count 0 ++ count 0))

-- a field of a filler that takes the place of the 9
abbrev nine_filled : ℕ → ℕ → List ℕ → List ℕ
nine_filled k wide new = change 11 k (replicate wide 57) new

-- only the number of fillers changes, from the old to 9
abbrev fillers_from : List ℕ → List ℕ
fillers_from old = count 0 ++ (count 0 ++ (count 1 ++ (old ++ render 1 9)))

-- the 8 of the first batch stands before its 5 too
abbrev early : List ℕ
early = records 1 1 (sent Way.Plain) ++ (records 6 6 (sent Way.Plain) ++ records 2 20 (sent Way.Plain))

-- a record of nines behind the first entry
abbrev inside : List ℕ → List ℕ
inside f = records 1 3 f ++ (replicate 94 57 ++ records 4 20 f)

pub record Worked : Type 0 where
  -- "No change is 21 zeros", in both ways
  pub same : mend Way.Plain (sent Way.Plain) ≡ mended_with Way.Plain (replicate 21 48)
  pub same_lined : mend Way.Lined (sent Way.Lined) ≡ mended_with Way.Lined (replicate 21 48)
  -- one total of an 8
  pub total : mend Way.Plain (total_wrong Way.Plain) ≡ mended_with Way.Plain total_mended
  pub total_lined : mend Way.Lined (total_wrong Way.Lined) ≡ mended_with Way.Lined total_mended
  -- "An 8 record is filled from the nearest 5 before it": class, count, company, blanks, bank and batch number of the second
  pub second : mend Way.Plain (damaged Way.Plain 10 88 (render 7 8) (damaged Way.Plain 10 45 (replicate 36 65) (damaged Way.Plain 10 2 (render 9 200000003) (sent Way.Plain))))
      ≡ mended_with Way.Plain
      (count 7 ++ (change 10 2 (render 3 200) (render 3 220) ++ (change 10 3 (render 6 3) (render 6 2) ++ (change 10 7 (replicate 10 65) (render 10 1123456789)
      ++ (change 10 8 (replicate 19 65) (replicate 19 32) ++ (change 10 9 (replicate 6 65) (replicate 6 32) ++ (change 10 10 (65 ∷ render 7 2207038) (render 8 32207038)
      ++ (change 10 11 (render 7 8) (render 7 7) ++ (count 0 ++ count 0)))))))))
  -- both 8s, and their hashes
  pub both : mend Way.Plain (damaged Way.Plain 6 11 (render 10 1) (damaged Way.Plain 10 11 (render 10 2) (sent Way.Plain)))
      ≡ mended_with Way.Plain (count 2 ++ (change 6 4 (render 10 1) (render 10 37507059) ++ (change 10 4 (render 10 2) (render 10 34337302) ++ (count 0 ++ count 0))))
  -- two fields of the 9: its blocks, and a letter in its last column
  pub nine : mend Way.Plain (damaged Way.Plain 11 94 (65 ∷ []) (damaged Way.Plain 11 8 (render 6 3) (sent Way.Plain)))
      ≡ mended_with Way.Plain
      (count 0 ++ (count 2 ++ (change 11 3 (render 6 3) (render 6 2) ++ (change 11 8 (replicate 38 32 ++ (65 ∷ [])) (replicate 39 32) ++ count 0))))
  -- "Where the file control is missing and a filler follows the last 8, that filler is the 9 and is filled in."
  pub filler_as_nine : mend Way.Plain (records 1 10 (sent Way.Plain) ++ records 12 20 (sent Way.Plain))
      ≡ mended_with Way.Plain
      (count 0 ++ (count 7 ++ (nine_filled 2 6 (render 6 2) ++ (nine_filled 3 6 (render 6 2) ++ (nine_filled 4 8 (render 8 5) ++ (nine_filled 5 10 (render 10 71844361)
      ++ (nine_filled 6 12 (render 12 250) ++ (nine_filled 7 12 (render 12 1140) ++ (nine_filled 8 39 (replicate 39 32) ++ (count 1 ++ (56 ∷ 57 ∷ [])))))))))))
  -- none, one too few, one too many, and "'+' from ten old ones on"
  pub no_filler : mend Way.Plain (records 1 11 (sent Way.Plain)) ≡ mended_with Way.Plain (fillers_from (48 ∷ []))
  pub few : mend Way.Plain (records 1 19 (sent Way.Plain)) ≡ mended_with Way.Plain (fillers_from (56 ∷ []))
  pub many : mend Way.Plain (sent Way.Plain ++ replicate 94 57) ≡ mended_with Way.Plain (fillers_from (43 ∷ []))
  pub many_lined : mend Way.Lined (sent Way.Lined ++ replicate 288 57) ≡ mended_with Way.Lined (fillers_from (43 ∷ []))
  -- "a filler of nines with a wrong line end is granted and gives no row in the list"; "Other wrong line ends are the mended file's 26"
  pub filler_open : mend Way.Lined (damaged Way.Lined 15 95 (10 ∷ 13 ∷ []) (sent Way.Lined)) ≡ mended_with Way.Lined (replicate 21 48)
  pub batch_open : mend Way.Lined (damaged Way.Lined 6 95 (10 ∷ 13 ∷ []) (total_wrong Way.Lined)) ≡ refused_with Way.Lined Fault.LineEnd 6 0
  pub nine_open : mend Way.Lined (damaged Way.Lined 11 96 (32 ∷ []) (sent Way.Lined)) ≡ refused_with Way.Lined Fault.LineEnd 11 0
  -- "with no 5 before it, it stays": the 9 is then record 12, with eight fillers
  pub early_stays : mended_file Way.Plain early ≡ records 1 20 early
  pub early_refused : mend Way.Plain early ≡ refused_with Way.Plain Fault.Misplaced 2 1
  -- an 8 behind an 8 is filled from the same 5
  pub twice : mended_file Way.Plain (records 1 6 (sent Way.Plain) ++ records 6 6 (total_wrong Way.Plain)) ≡ records 1 6 (sent Way.Plain) ++ records 6 6 (sent Way.Plain)
  -- "The 9 that is mended is the one right behind an 8": nines inside a batch are no 9, and what stands behind them is mended
  pub nines_inside : mended_file Way.Plain (inside (total_wrong Way.Plain)) ≡ records 1 20 (inside (sent Way.Plain))
  pub inside_refused : mend Way.Plain (inside (total_wrong Way.Plain)) ≡ refused_with Way.Plain Fault.Misplaced 4 1
  -- "With no such 9 the 8s are mended all the same and the refusal is what is left."
  pub no_nine : mended_file Way.Plain (records 1 10 (total_wrong Way.Plain)) ≡ records 1 10 (sent Way.Plain)
  pub no_nine_refused : mend Way.Plain (records 1 10 (total_wrong Way.Plain)) ≡ refused_with Way.Plain Fault.Ended 11 0
  -- a letter in an entry's amount stays refused, with the totals that it has no part in mended; before 4 and before 23
  pub entry : mend Way.Plain (damaged Way.Plain 3 30 (65 ∷ []) (total_wrong Way.Plain)) ≡ refused_with Way.Plain Fault.Digits 3 6
  pub entry_first : mend_of Way.Plain (damaged Way.Plain 3 30 (65 ∷ []) (damaged Way.Plain 15 50 (56 ∷ []) (sent Way.Plain))) [] []
      ≡ record { gives = record { answer = refusal Fault.Digits 3 6; length = 0; listed = 0 }; leaves = []; changes = [] }
  -- "4 names the first record behind the 9 that is not 94 nines, also inside the block"
  pub other_filler : mend Way.Plain (damaged Way.Plain 15 50 (56 ∷ []) (damaged Way.Plain 17 1 (32 ∷ []) (sent Way.Plain))) ≡ refused_with Way.Plain Fault.Past 15 0
  pub past_block : mend Way.Plain (sent Way.Plain ++ records 3 3 (sent Way.Plain)) ≡ refused_with Way.Plain Fault.Past 21 0
  -- before 23
  pub other_first : mend_of Way.Plain (damaged Way.Plain 12 94 (32 ∷ []) (sent Way.Plain)) [] []
      ≡ record { gives = record { answer = refusal Fault.Past 12 0; length = 0; listed = 0 }; leaves = []; changes = [] }
  -- "23 if either buffer is short; neither is touched"; room equal to the need is enough
  pub short_file : mend_of Way.Plain (sent Way.Plain) (replicate 1879 42) (replicate 21 46)
      ≡ record { gives = record { answer = refusal Fault.Room 0 0; length = 0; listed = 0 }; leaves = replicate 1879 42; changes = replicate 21 46 }
  pub short_list : mend_of Way.Plain (sent Way.Plain) (replicate 1880 42) (replicate 20 46)
      ≡ record { gives = record { answer = refusal Fault.Room 0 0; length = 0; listed = 0 }; leaves = replicate 1880 42; changes = replicate 20 46 }
  pub just_enough : mend_of Way.Plain (sent Way.Plain) (replicate 1880 42) (replicate 21 46)
      ≡ record { gives = record { answer = Ok tt; length = 1880; listed = 21 }; leaves = sent Way.Plain; changes = replicate 21 48 }
  -- "1 for the lent file"
  pub lent_length : mend Way.Plain (take 1879 (sent Way.Plain)) ≡ refused_with Way.Plain Fault.Length 0 0
  pub other_way : mend Way.Plain (sent Way.Lined) ≡ refused_with Way.Plain Fault.Length 0 0
  pub nothing_lent : mend Way.Lined [] ≡ refused_with Way.Lined Fault.Length 0 0

-- all of them hold
pub worked : Worked
unfolding run_from fields_from every value_from same_bytes rows weighed unbroken joined render sum_over mended_from before_nine field_changes changes_from only_nines
worked =
    record {
      same = refl;
      same_lined = refl;
      total = refl;
      total_lined = refl;
      second = refl;
      both = refl;
      nine = refl;
      filler_as_nine = refl;
      no_filler = refl;
      few = refl;
      many = refl;
      many_lined = refl;
      filler_open = refl;
      batch_open = refl;
      nine_open = refl;
      early_stays = refl;
      early_refused = refl;
      twice = refl;
      nines_inside = refl;
      inside_refused = refl;
      no_nine = refl;
      no_nine_refused = refl;
      entry = refl;
      entry_first = refl;
      other_filler = refl;
      past_block = refl;
      other_first = refl;
      short_file = refl;
      short_list = refl;
      just_enough = refl;
      lent_length = refl;
      other_way = refl;
      nothing_lent = refl;
    }
