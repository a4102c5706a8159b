-- Mending from what is known before a byte is put: the room, the answer, and what is left in the buffers.
-- Assumes nothing but what a statement says.
use Rattle.std.specs.Prelude.{Ok, Err}
use mathlib.Core.Path.{◌≡◌, refl, sym, ap, ap₂, ◌∙◌}
use mathlib.Core.Bool.{true, false, ◌&&◌}
use mathlib.Core.Logic.{◌⊎◌, inl, inr}
use mathlib.Core.List.{List, ◌++◌}
use Prim.Native.Nat.{ℕ, ◌+◌, ◌-◌, ◌≤◌, ◌<◌}
use native.Mathlib.Nat.{zero-add}
use native.Mathlib.Omega.{arith}
use borrow.Author.Tests.{lt-leb, le-leb}
use lib.Dec.{leb}
use lib.ListN.{length, take, drop, length-append, length-drop}
use lib.Seq.{sets-eq, take_at}
use Rattle.layout.specs.declared.Refusal.{Refusal}
use Rattle.layout.specs.declared.Way.{Way}
use Rattle.table_read.specs.WorkPuts.{Puts, Room}
use Rattle.mend.specs.Mended.{Mended}
use Rattle.mend.specs.Mend.{Mending, mended_file, changes_of, mend_answer, mend_of}
use Rattle.mend.proofs.Granted.{exactly_granted, mend_granted, mend_refused}

-- "23 if either buffer is short"
pub rooms_short : (long n other m : ℕ) → (n < long) ⊎ ((long ≤ n) × (m < other)) → (leb long n && leb other m) ≡ false
rooms_short long n other m (inl h) = ap (λ t. t && leb other m) (lt-leb long n h)
rooms_short long n other m (inr h) = rw (le-leb long n h.0) (lt-leb other m h.1)

module _ (way : Way) (f : List ℕ) where
  -- an outcome: the answer, and what the two buffers then hold
  abbrev Mends : List ℕ → List ℕ → Mended → List ℕ → List ℕ → Type 0
  Mends held list r left changes =
      (r ≡ (mend_of way f held list).gives) × (left ≡ (mend_of way f held list).leaves) × (changes ≡ (mend_of way f held list).changes)

  -- what a refusal leaves
  pub mends_refused : (held list : List ℕ) (r : Refusal) → mend_answer way f (length held) (length list) ≡ Err r
      → Mends held list (record { answer = Err r; length = 0; listed = 0 }) held list
  mends_refused held list r e =
      let o = mend_refused way f held list r e in
      (sym (ap (λ (m : Mending). m.gives) o), sym (ap (λ (m : Mending). m.leaves) o), sym (ap (λ (m : Mending). m.changes) o))

  -- and what a grant does: m is the mended file in front of what was there, and l has the changes put in front
  module _ (held list : List ℕ) (e : mend_answer way f (length held) (length list) ≡ Ok tt) where
    pub file_room : length (mended_file way f) ≤ length held
    file_room = ((exactly_granted way f (length held) (length list)).0 e).room

    pub list_room : Room (changes_of way f) list 0
    list_room = record { fits = omega (arith, ((exactly_granted way f (length held) (length list)).0 e).listed) }

    pub mends_granted : (size bytes : ℕ) (m l : List ℕ) {next : ℕ} → size ≡ length (mended_file way f) → bytes ≡ length (changes_of way f)
        → m ≡ mended_file way f ++ drop (length (mended_file way f)) held → Puts (changes_of way f) list l 0 next
        → Mends held list (record { answer = Ok tt; length = size; listed = bytes }) m l
    mends_granted size bytes m l s b q p =
        let o = mend_granted way f held list e in
        let put : l ≡ changes_of way f ++ drop (length (changes_of way f)) list = p.stands ∙ sets-eq (changes_of way f) list 0 list_room.fits ∙ rw zero-add refl in (
          ap₂ (λ x y. record { answer = Ok tt; length = x; listed = y }) s b ∙ sym (ap (λ (m : Mending). m.gives) o),
          q ∙ sym (ap (λ (m : Mending). m.leaves) o),
          put ∙ sym (ap (λ (m : Mending). m.changes) o),
        )

    pub mended_long : (m : List ℕ) → m ≡ mended_file way f ++ drop (length (mended_file way f)) held → length m ≡ length held
    mended_long m q =
        let a = mended_file way f in
        ap length q ∙ length-append a (drop (length a) held) ∙ ap (λ k. length a + k) (length-drop (length a) held) ∙ omega (arith, file_room)

    -- the mended file is at hand in front of the buffer
    pub mended_front : (size : ℕ) (m : List ℕ) → size ≡ length (mended_file way f) → m ≡ mended_file way f ++ drop (length (mended_file way f)) held
        → take (size - 0) (drop 0 m) ≡ mended_file way f
    mended_front size m s q =
        let none : size - 0 ≡ size = omega arith in
        ap (λ k. take k m) none ∙ ap (take size) q ∙ take_at (mended_file way f) (drop (length (mended_file way f)) held) size (sym s)
