-- Mending, for any bytes: when it is granted, what it then gives and leaves, and what an accepted file is given.
-- Assumes nothing but what a statement says.
use Rattle.std.specs.Prelude.{Ok, Err}
use mathlib.Core.Path.{◌≡◌, refl, sym, ap, ◌∙◌}
use mathlib.Core.Logic.{◌↔◌}
use mathlib.Core.Bool.{Bool, true, false, ◌&&◌}
use mathlib.Core.List.{List, ◌++◌, map}
use Prim.Native.Nat.{ℕ, ◌≤◌}
use native.Mathlib.Omega.{arith}
use borrow.Author.Tests.{leb-true, le-leb}
use lib.Dec.{leb}
use lib.ListN.{length, drop, replicate}
use Rattle.text.specs.Decimal.{pick}
use Rattle.text.proofs.DecimalLaws.{and_both, both_and}
use Rattle.layout.specs.Answers.{Answer}
use Rattle.layout.specs.declared.Fault.{Fault}
use Rattle.layout.specs.declared.Refusal.{Refusal}
use Rattle.layout.specs.declared.Way.{Way}
use Rattle.layout.specs.Paper.{refusal}
use Rattle.check_sums.specs.Sums.{start}
use Rattle.check_record.specs.Record.{run_from, refused, length_fits, raw_records, piece_of, checked_of}
use Rattle.view.specs.Outcome.{demand, and_then}
use Rattle.view_laws.proofs.Answers.{demand_granted, then_granted}
use Rattle.mend.specs.Mend.{mended_file, changes_of, behind_nine, mend_answer, done_with, mend_of}
use Rattle.mend.specs.Kept.{beside_controls}
use Rattle.mend.proofs.Stays.{accepted_stays, mended_accepted, accepted_unchanged}
use Rattle.mend.proofs.Again.{mended_behind}
use Rattle.mend.proofs.Besides.{records_kept}

module _ (way : Way) where
  -- "Mending is granted exactly if the mended file is accepted, only nines stood behind the 9 and there is room": the lent file is whole records
  pub record Grants (f : List ℕ) (n m : ℕ) : Type 0 where
    pub whole : length_fits way (length f) ≡ true
    pub accepted : (checked_of way (mended_file way f)).answer ≡ Ok tt
    pub nines : behind_nine (raw_records way f) ≡ Ok tt
    pub room : length (mended_file way f) ≤ n
    pub listed : length (changes_of way f) ≤ m

  grants : (f : List ℕ) (n m : ℕ) → mend_answer way f n m ≡ Ok tt → Grants f n m
  grants f n m e =
      let one = demand_granted (length_fits way (length f)) _ _ e in
      let two = then_granted (checked_of way (mended_file way f)).answer _ one.1 in
      let three = then_granted (behind_nine (raw_records way f)) _ two.1 in
      let four = demand_granted (leb (length (mended_file way f)) n && leb (length (changes_of way f)) m) _ (Ok tt) three.1 in
      let five = and_both (leb (length (mended_file way f)) n) (leb (length (changes_of way f)) m) four.0 in
      record {
        whole = one.0;
        accepted = two.0;
        nines = three.0;
        room = leb-true (length (mended_file way f)) n five.0;
        listed = leb-true (length (changes_of way f)) m five.1;
      }

  -- what is asked behind the length, behind the mended file's check, and last
  abbrev room_of : List ℕ → ℕ → ℕ → Answer
  room_of f n m = demand (leb (length (mended_file way f)) n && leb (length (changes_of way f)) m) (refusal Fault.Room 0 0) (Ok tt)

  abbrev behind_of : List ℕ → ℕ → ℕ → Answer
  behind_of f n m = and_then (behind_nine (raw_records way f)) (room_of f n m)

  abbrev rest_of : List ℕ → ℕ → ℕ → Answer
  rest_of f n m = and_then (checked_of way (mended_file way f)).answer (behind_of f n m)

  granted_so : (f : List ℕ) (n m : ℕ) → Grants f n m → mend_answer way f n m ≡ Ok tt
  granted_so f n m g =
      let enough = both_and (le-leb (length (mended_file way f)) n g.room) (le-leb (length (changes_of way f)) m g.listed) in
      ap (λ t. demand t (refusal Fault.Length 0 0) (rest_of f n m)) g.whole
      ∙ ap (λ a. and_then a (behind_of f n m)) g.accepted
      ∙ ap (λ a. and_then a (room_of f n m)) g.nines
      ∙ ap (λ t. demand t (refusal Fault.Room 0 0) (Ok tt)) enough

  pub exactly_granted : (f : List ℕ) (n m : ℕ) → (mend_answer way f n m ≡ Ok tt) ↔ Grants f n m
  exactly_granted f n m = (grants f n m, granted_so f n m)

  -- ---- the refusals in their order

  -- "1 for the lent file"
  pub refused_length : (f : List ℕ) (n m : ℕ) → length_fits way (length f) ≡ false → mend_answer way f n m ≡ refusal Fault.Length 0 0
  refused_length f n m e = ap (λ t. demand t (refusal Fault.Length 0 0) (rest_of f n m)) e

  -- "those of the mended file"
  pub refused_mended : (f : List ℕ) (n m : ℕ) (r : Refusal) → length_fits way (length f) ≡ true → (checked_of way (mended_file way f)).answer ≡ Err r
      → mend_answer way f n m ≡ Err r
  refused_mended f n m r e a = ap (λ t. demand t (refusal Fault.Length 0 0) (rest_of f n m)) e ∙ ap (λ x. and_then x (behind_of f n m)) a

  -- "4 for the first record behind the 9 that isn't all nines"
  pub refused_behind : (f : List ℕ) (n m : ℕ) (r : Refusal) → length_fits way (length f) ≡ true → (checked_of way (mended_file way f)).answer ≡ Ok tt
      → behind_nine (raw_records way f) ≡ Err r → mend_answer way f n m ≡ Err r
  refused_behind f n m r e a b =
      ap (λ t. demand t (refusal Fault.Length 0 0) (rest_of f n m)) e ∙ ap (λ x. and_then x (behind_of f n m)) a ∙ ap (λ x. and_then x (room_of f n m)) b

  -- "23 if either buffer is short"
  pub refused_room : (f : List ℕ) (n m : ℕ) → length_fits way (length f) ≡ true → (checked_of way (mended_file way f)).answer ≡ Ok tt
      → behind_nine (raw_records way f) ≡ Ok tt → (leb (length (mended_file way f)) n && leb (length (changes_of way f)) m) ≡ false
      → mend_answer way f n m ≡ refusal Fault.Room 0 0
  refused_room f n m e a b c =
      ap (λ t. demand t (refusal Fault.Length 0 0) (rest_of f n m)) e
      ∙ ap (λ x. and_then x (behind_of f n m)) a
      ∙ ap (λ x. and_then x (room_of f n m)) b
      ∙ ap (λ t. demand t (refusal Fault.Room 0 0) (Ok tt)) c

  -- ---- what it gives and leaves

  pub mend_granted : (f held listheld : List ℕ) → mend_answer way f (length held) (length listheld) ≡ Ok tt
      → mend_of way f held listheld
      ≡ record {
        gives = record { answer = Ok tt; length = length (mended_file way f); listed = length (changes_of way f) };
        leaves = mended_file way f ++ drop (length (mended_file way f)) held;
        changes = changes_of way f ++ drop (length (changes_of way f)) listheld;
      }
  mend_granted f held listheld e = ap (λ a. done_with a (mended_file way f) (changes_of way f) held listheld) e

  -- "on a refusal both numbers are 0 and neither buffer is touched"
  pub mend_refused : (f held listheld : List ℕ) (r : Refusal) → mend_answer way f (length held) (length listheld) ≡ Err r
      → mend_of way f held listheld ≡ record { gives = record { answer = Err r; length = 0; listed = 0 }; leaves = held; changes = listheld }
  mend_refused f held listheld r e = ap (λ a. done_with a (mended_file way f) (changes_of way f) held listheld) e

  -- a grant keeps every record of the lent file that begins with neither 8 nor 9
  pub grant_keeps : (f : List ℕ) (n m : ℕ) → mend_answer way f n m ≡ Ok tt → beside_controls (raw_records way (mended_file way f)) ≡ beside_controls (raw_records way f)
  grant_keeps f n m e = records_kept way f (grants f n m e).nines

  -- ---- an accepted file

  accepted_fits : (f : List ℕ) → (checked_of way f).answer ≡ Ok tt → length_fits way (length f) ≡ true
  accepted_fits f e = go (length_fits way (length f)) refl e
    where
      go : (b : Bool) → length_fits way (length f) ≡ b → (pick b (run_from start (map (piece_of way) (raw_records way f))) (refused Fault.Length 0 0)).answer ≡ Ok tt
          → length_fits way (length f) ≡ true
      go true h g = h
      go false h g = cc

  -- it is granted where there is room, and given back
  pub accepted_granted : (f : List ℕ) (n m : ℕ) → (checked_of way f).answer ≡ Ok tt → length f ≤ n → 21 ≤ m → mend_answer way f n m ≡ Ok tt
  accepted_granted f n m e k l =
      let file = mended_accepted way f e in
      let long = ap length file in
      let short = ap length (accepted_unchanged way f e) in
      granted_so f n m
      (record {
        whole = accepted_fits f e;
        accepted = ap (λ x. (checked_of way x).answer) file ∙ e;
        nines = ap behind_nine (sym (accepted_stays way f e)) ∙ mended_behind way f;
        room = omega (arith, long, k);
        listed = omega (arith, short, l);
      })

  -- so is what mending has made, with no change to list
  pub granted_again : (f : List ℕ) (n m k : ℕ) → mend_answer way f n m ≡ Ok tt → 21 ≤ k
      → (mend_answer way (mended_file way f) n k ≡ Ok tt) × (mended_file way (mended_file way f) ≡ mended_file way f) × (changes_of way (mended_file way f) ≡ replicate 21 48)
  granted_again f n m k e l =
      let g = grants f n m e in
      (accepted_granted (mended_file way f) n k g.accepted g.room l, mended_accepted way (mended_file way f) g.accepted, accepted_unchanged way (mended_file way f) g.accepted)
