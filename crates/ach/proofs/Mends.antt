-- What request 9 asks of mending, over its contract: whatever outcome it permits has these properties.
-- Assumes nothing.
use Rattle.std.specs.Prelude.{Ok, Err}
use mathlib.Core.Path.{◌≡◌, refl, sym, ap, ◌∙◌}
use mathlib.Core.Logic.{◌↔◌}
use mathlib.Core.Bool.{true, false, ◌&&◌}
use mathlib.Core.List.{List, [], ◌∷◌, ◌++◌}
use Prim.Native.Nat.{ℕ, ◌≤◌}
use lib.Dec.{leb}
use lib.ListN.{length, take, drop, replicate}
use lib.Seq.{take_at}
use Rattle.layout.specs.declared.Fault.{Fault}
use Rattle.layout.specs.declared.Refusal.{Refusal}
use Rattle.layout.specs.declared.Way.{Way}
use Rattle.layout.specs.Paper.{refusal}
use Rattle.check_record.specs.Record.{length_fits, raw_records, checked_of}
use Rattle.view.specs.View.{view_of}
use Rattle.view.specs.Table.{formed, table_of}
use Rattle.mend.specs.Mended.{Mended}
use Rattle.mend.specs.Mend.{Mending, mended_file, changes_of, behind_nine, mend_answer, mend_of}
use Rattle.mend.proofs.Examples.{worked, sent, total_wrong, total_mended, damaged}
use Rattle.mend.specs.Listed.{ListOf}
use Rattle.mend.proofs.Granted.{Grants, exactly_granted, refused_length, refused_mended, refused_behind, refused_room, mend_granted, mend_refused, accepted_granted}
use Rattle.mend.proofs.Stays.{mended_accepted, accepted_unchanged}
use Rattle.mend.proofs.Says.{granted_view, granted_table_lem}
use Rattle.mend.proofs.Complete.{granted_list}
use Rattle.ach.specs.Permits.{Mends}

module _ (way : Way) where
  -- ---- every input has one outcome, and no other is permitted

  pub mend_ends : (f held list : List ℕ) → (r : Mended) × (left : List ℕ) × (changes : List ℕ) × Mends way f held list r left changes
  mend_ends f held list =
      let o = mend_of way f held list in
      (o.gives, o.leaves, o.changes, (refl, refl, refl))

  pub mend_one : (f held list left kept changes other : List ℕ) (r s : Mended) → Mends way f held list r left changes → Mends way f held list s kept other
      → (r ≡ s) × (left ≡ kept) × (changes ≡ other)
  mend_one f held list left kept changes other r s p q = (p.0 ∙ sym q.0, p.1 ∙ sym q.1, p.2 ∙ sym q.2)

  module _ (f held list left changes : List ℕ) (r : Mended) (p : Mends way f held list r left changes) where
    answer_is : r.answer ≡ mend_answer way f (length held) (length list)
    answer_is = ap (λ (m : Mended). m.answer) p.0

    -- ---- the refusals, in order: "1 for the lent file; those of the mended file; 4 for the first record behind the 9 that isn't all nines; 23"

    pub mend_of_no_records : length_fits way (length f) ≡ false → r.answer ≡ refusal Fault.Length 0 0
    mend_of_no_records e = answer_is ∙ refused_length way f (length held) (length list) e

    pub mend_refused_still : (x : Refusal) → length_fits way (length f) ≡ true → (checked_of way (mended_file way f)).answer ≡ Err x → r.answer ≡ Err x
    mend_refused_still x e a = answer_is ∙ refused_mended way f (length held) (length list) x e a

    pub mend_not_only_nines : (x : Refusal) → length_fits way (length f) ≡ true → (checked_of way (mended_file way f)).answer ≡ Ok tt
        → behind_nine (raw_records way f) ≡ Err x → r.answer ≡ Err x
    mend_not_only_nines x e a b = answer_is ∙ refused_behind way f (length held) (length list) x e a b

    pub mend_no_room : length_fits way (length f) ≡ true → (checked_of way (mended_file way f)).answer ≡ Ok tt → behind_nine (raw_records way f) ≡ Ok tt
        → (leb (length (mended_file way f)) (length held) && leb (length (changes_of way f)) (length list)) ≡ false → r.answer ≡ refusal Fault.Room 0 0
    mend_no_room e a b c = answer_is ∙ refused_room way f (length held) (length list) e a b c

    -- "Mending is granted exactly if the mended file is accepted, only nines stood behind the 9 and there is room"
    pub exactly_mended : (r.answer ≡ Ok tt) ↔ Grants way f (length held) (length list)
    exactly_mended =
        let e = exactly_granted way f (length held) (length list) in
        (λ g. e.0 (sym answer_is ∙ g), λ g. answer_is ∙ e.1 g)

    -- a refusal gives no length, and leaves both buffers as they were
    pub mend_refused_untouched : (x : Refusal) → r.answer ≡ Err x → (r.length ≡ 0) × (r.listed ≡ 0) × (left ≡ held) × (changes ≡ list)
    mend_refused_untouched x e =
        let o = mend_refused way f held list x (sym answer_is ∙ e) in (
          ap (λ (m : Mended). m.length) p.0 ∙ ap (λ (m : Mending). m.gives.length) o,
          ap (λ (m : Mended). m.listed) p.0 ∙ ap (λ (m : Mending). m.gives.listed) o,
          p.1 ∙ ap (λ (m : Mending). m.leaves) o,
          p.2 ∙ ap (λ (m : Mending). m.changes) o,
        )

    -- ---- granted

    module _ (g : r.answer ≡ Ok tt) where
      asked : mend_answer way f (length held) (length list) ≡ Ok tt
      asked = sym answer_is ∙ g

      outcome : mend_of way f held list
          ≡ record {
            gives = record { answer = Ok tt; length = length (mended_file way f); listed = length (changes_of way f) };
            leaves = mended_file way f ++ drop (length (mended_file way f)) held;
            changes = changes_of way f ++ drop (length (changes_of way f)) list;
          }
      outcome = mend_granted way f held list asked

      -- the buffers begin with the mended file and with the changes, whose lengths are given; what is behind them stays
      pub mended_given : (r.length ≡ length (mended_file way f)) × (left ≡ mended_file way f ++ drop (length (mended_file way f)) held)
      mended_given = (ap (λ (m : Mended). m.length) p.0 ∙ ap (λ (m : Mending). m.gives.length) outcome, p.1 ∙ ap (λ (m : Mending). m.leaves) outcome)

      pub changes_given : (r.listed ≡ length (changes_of way f)) × (changes ≡ changes_of way f ++ drop (length (changes_of way f)) list)
      changes_given = (ap (λ (m : Mended). m.listed) p.0 ∙ ap (λ (m : Mending). m.gives.listed) outcome, p.2 ∙ ap (λ (m : Mending). m.changes) outcome)

      front : take r.length left ≡ mended_file way f
      front =
          ap (λ n. take n left) mended_given.0
          ∙ ap (take (length (mended_file way f))) mended_given.1
          ∙ take_at (mended_file way f) (drop (length (mended_file way f)) held) (length (mended_file way f)) refl

      -- the mended file is accepted
      pub mended_is_accepted : (checked_of way (take r.length left)).answer ≡ Ok tt
      mended_is_accepted = ap (λ x. (checked_of way x).answer) front ∙ ((exactly_granted way f (length held) (length list)).0 asked).accepted

      -- it says what the lent file's other records say: nobody's entry, addendum or header changes
      pub mended_says_the_same : view_of way (take r.length left) ≡ view_of way f
      mended_says_the_same = ap (view_of way) front ∙ granted_view way f (length held) (length list) asked

      -- and is the file written from the table of those records
      pub mended_as_written : take r.length left ≡ formed way (table_of way f)
      mended_as_written = front ∙ (granted_table_lem way f (length held) (length list) asked).1

      -- the list is complete and true (specs/Listed of mended)
      pub changes_complete : ListOf way f
      changes_complete = granted_list way f (length held) (length list) asked

    -- ---- an accepted file is given back as it is, and "no change is 21 zeros"

    module _ (g : (checked_of way f).answer ≡ Ok tt) (room : length f ≤ length held) (zeros : 21 ≤ length list) where
      pub accepted_is_mended : r.answer ≡ Ok tt
      accepted_is_mended = answer_is ∙ accepted_granted way f (length held) (length list) g room zeros

      pub accepted_comes_back : (take r.length left ≡ f) × (changes ≡ replicate 21 48 ++ drop 21 list)
      accepted_comes_back = (
        front accepted_is_mended ∙ mended_accepted way f g,
        (changes_given accepted_is_mended).1 ∙ ap (λ x. x ++ drop (length x) list) (accepted_unchanged way f g),
      )

-- ---- idle versions

-- one that mends nothing, or reports nothing: a wrong total of a literal file is put right, and the list has its old and its new text
pub a_total_is_mended : (left changes : List ℕ) (r : Mended) → Mends Way.Plain (total_wrong Way.Plain) (replicate 1881 42) (replicate 300 46) r left changes
    → (r.answer ≡ Ok tt) × (left ≡ sent Way.Plain ++ replicate 1 42) × (take r.listed changes ≡ total_mended)
a_total_is_mended left changes r p =
    let o = worked.total in
    let listed : r.listed ≡ length total_mended = ap (λ (m : Mended). m.listed) p.0 ∙ ap (λ (m : Mending). m.gives.listed) o in (
      ap (λ (m : Mended). m.answer) p.0 ∙ ap (λ (m : Mending). m.gives.answer) o,
      p.1 ∙ ap (λ (m : Mending). m.leaves) o,
      ap (λ n. take n changes) listed
          ∙ ap (take (length total_mended)) (p.2 ∙ ap (λ (m : Mending). m.changes) o)
          ∙ take_at total_mended _ (length total_mended) refl,
    )

-- one that mends an entry: a letter in an amount stays refused, and nothing is put
pub no_entry_is_mended : (left changes : List ℕ) (r : Mended)
    → Mends Way.Plain (damaged Way.Plain 3 30 (65 ∷ []) (total_wrong Way.Plain)) (replicate 1881 42) (replicate 300 46) r left changes
    → (r.answer ≡ refusal Fault.Digits 3 6) × (left ≡ replicate 1881 42) × (changes ≡ replicate 300 46)
no_entry_is_mended left changes r p =
    let o = worked.entry in (
      ap (λ (m : Mended). m.answer) p.0 ∙ ap (λ (m : Mending). m.gives.answer) o,
      p.1 ∙ ap (λ (m : Mending). m.leaves) o,
      p.2 ∙ ap (λ (m : Mending). m.changes) o,
    )
