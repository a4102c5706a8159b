-- What request 8 asks of checking, of altering and of the question, over their contracts: whatever outcome they permit has these properties.
-- Assumes nothing.
use Rattle.std.specs.Prelude.{Ok, Err}
use mathlib.Core.Path.{◌≡◌, refl, sym, ap, ap₂, ◌∙◌}
use mathlib.Core.Logic.{◌↔◌}
use mathlib.Core.Bool.{Bool, true, false}
use mathlib.Core.List.{List, [], ◌∷◌, ◌++◌}
use Prim.Native.Nat.{ℕ, ◌*◌, ◌+◌, ◌/◌, ◌%◌, ◌≤◌, ◌<◌}
use native.Mathlib.Omega.{arith}
use lib.ListN.{length, get_or, take, drop}
use lib.Seq.{take-append_seam, drop-append_seam}
use lib.IntN.{pos}
use Rattle.layout.specs.declared.Fault.{Fault}
use Rattle.layout.specs.Answers.{Answer}
use Rattle.layout.specs.declared.Refusal.{Refusal}
use Rattle.layout.specs.Answers.{Checked}
use Rattle.layout.specs.Answers.{Altered}
use Rattle.layout.specs.declared.Way.{Way}
use Rattle.check_record.specs.Record.{refused, checked_of}
use Rattle.view.specs.View.{View, view_of}
use Rattle.view.specs.Outcome.{alter_of}
use Rattle.layout.specs.Paper.{refusal}
use Rattle.view_laws.proofs.Alter.{alter_exactly}
use Rattle.view_laws.proofs.Bridge.{FileOf, accepted_exactly}
use Rattle.view_laws.proofs.Own.{own_entries}
use Rattle.funds.specs.RunsOut.{RunsOut}
use Rattle.funds.specs.Funds.{rows_of, in_front, true_list, runs_out}
use Rattle.funds.specs.Summed.{summed, FirstOver, NoneOver}
use Rattle.funds.proofs.Asked.{found_first, found_none, lone_number, own_list}
use Rattle.funds.proofs.CheckLaws.{check_own, check_short, check_done, check_exactly, check_leaves}
use Rattle.funds.proofs.RowLaws.{rows_long}
use Rattle.alter.proofs.Listing.{listed_exactly, listed_step, as_asked, other_list}
use Rattle.ach.specs.Permits.{Checks, Finds, Alters}

module _ (way : Way) where
  -- ---- checking

  module _ (f held left : List ℕ) (c : Checked) (p : Checks way f held c left) where
    -- "checking is granted exactly if the file is accepted as demand 2 says and the list has room"
    pub exactly_checked : (c.answer ≡ Ok tt) ↔ (((checked_of way f).answer ≡ Ok tt) × (2 * length (view_of way f).batches ≤ length held))
    exactly_checked = rw p.0 (check_exactly way f held)

    pub exactly_kept : (c.answer ≡ Ok tt) ↔ (((v : View) × FileOf way f v) × (2 * length (view_of way f).batches ≤ length held))
    exactly_kept = (
      λ e. let h = exactly_checked.0 e in ((accepted_exactly way f).0 h.0, h.1),
      λ h. exactly_checked.1 ((accepted_exactly way f).1 h.0, h.1),
    )

    -- "23, last": whatever the file is refused with comes first, and no acceptance is given with it
    pub checked_own : (x : Refusal) → (checked_of way f).answer ≡ Err x → (c ≡ checked_of way f) × (left ≡ held)
    checked_own x e = let o = check_own way f held x e in (p.0 ∙ o.0, p.1 ∙ o.1)

    pub checked_short : (checked_of way f).answer ≡ Ok tt → length held < 2 * length (view_of way f).batches → (c ≡ refused Fault.Room 0 0) × (left ≡ held)
    checked_short g h = let o = check_short way f held g h in (p.0 ∙ o.0, p.1 ∙ o.1)

    -- "On a refusal every number is 0", and the list stays
    pub checked_refused : (x : Refusal) → c.answer ≡ Err x → (c ≡ refused x.fault x.record.0 x.field) × (left ≡ held)
    checked_refused x e = let o = check_leaves way f held x (rw (← p.0) e) in (p.0 ∙ o.0, p.1 ∙ o.1)

    -- "Whether a file is accepted doesn't hang on the list": with room the answer is the file's alone
    pub as_the_file : 2 * length (view_of way f).batches ≤ length held → c ≡ checked_of way f
    as_the_file h = go (checked_of way f).answer refl
      where
        go : (a : Answer) → (checked_of way f).answer ≡ a → c ≡ checked_of way f
        go (Ok _) e = p.0 ∙ (check_done way f held e h).0
        go (Err x) e = p.0 ∙ (check_own way f held x e).0

    -- "one row a batch .. which checking gives along with acceptance"; what stands behind stays
    module _ (g : c.answer ≡ Ok tt) where
      pub checked_rows : left ≡ in_front (rows_of (view_of way f)) held
      checked_rows = let h = exactly_checked.0 g in p.1 ∙ (check_done way f held h.0 h.1).1

      many : 2 * c.batches ≡ length (rows_of (view_of way f))
      many =
          let h = exactly_checked.0 g in
          omega (arith, ap (λ (x : Checked). x.batches) (p.0 ∙ (check_done way f held h.0 h.1).0), (own_entries way f h.0).batches, rows_long (view_of way f))

      pub checked_list : (take (2 * c.batches) left ≡ rows_of (view_of way f)) × (drop (2 * c.batches) left ≡ drop (2 * c.batches) held)
      checked_list =
          let list = rows_of (view_of way f) in (
            ap₂ take many checked_rows ∙ take-append_seam list (drop (length list) held),
            ap₂ drop many checked_rows ∙ drop-append_seam list (drop (length list) held) ∙ ap (λ n. drop n held) (sym many),
          )

      -- "For the file's own list the answer equals the one from summing every entry"
      pub own_question : (limit : ℕ) (r : RunsOut) → Finds (take (2 * c.batches) left) limit r → r ≡ summed limit (view_of way f)
      own_question limit r q = q ∙ ap (runs_out limit) checked_list.0 ∙ own_list limit (view_of way f)

  -- ---- the question: it refuses nothing, and has one answer

  pub question_ends : (rows : List ℕ) (limit : ℕ) → (r : RunsOut) × Finds rows limit r
  question_ends rows limit = (runs_out limit rows, refl)

  pub question_one : (rows : List ℕ) (limit : ℕ) (r s : RunsOut) → Finds rows limit r → Finds rows limit s → r ≡ s
  question_one rows limit r s p q = p ∙ sym q

  module _ (rows : List ℕ) (limit : ℕ) (r : RunsOut) (p : Finds rows limit r) where
    -- "of any list it is the first row over the limit"; "how many rows come up to and with the one found, or all of them"
    pub first_over : r.found ≡ true → FirstOver limit rows r
    first_over e = rw p (found_first limit rows (rw (← p) e))

    pub none_over : r.found ≡ false → NoneOver limit rows r
    none_over e = rw p (found_none limit rows (rw (← p) e))

    pub found_exactly : (r.found ≡ true) ↔ ((i : ℕ) × (i < length rows / 2) × (limit < get_or rows (2 * i + 1) 0))
    found_exactly = (λ e. let o = first_over e in (o.index, omega (arith, o.whole), o.over), λ h. go r.found refl h)
      where
        go : (b : Bool) → r.found ≡ b → ((i : ℕ) × (i < length rows / 2) × (limit < get_or rows (2 * i + 1) 0)) → r.found ≡ true
        go true e h = e
        go false e h = absurd (omega (arith, h.2, (none_over e).none h.0 h.1))

  -- "a lone number at the end is no row"
  pub lone_unread : (rows : List ℕ) (n limit : ℕ) (r s : RunsOut) → length rows % 2 ≡ 0 → Finds (rows ++ (n ∷ [])) limit r → Finds rows limit s → r ≡ s
  lone_unread rows n limit r s even p q = p ∙ lone_number limit 0 n rows even ∙ sym q

  -- ---- altering

  module _ (f held left rows : List ℕ) (k a : ℕ) (r : Altered) (p : Alters way f held k a r left rows) where
    -- "34, before 25, where the first rows lent with an alteration aren't that file's list"
    pub other_rows : (checked_of way f).answer ≡ Ok tt → true_list way f held ≡ false
        → (r ≡ record { answer = refusal Fault.Rows 0 0; difference = pos 0 }) × (left ≡ f) × (rows ≡ held)
    other_rows g t = let o = other_list way f held k a g t in (p.0 ∙ sym o.0, p.1 ∙ sym o.1, p.2 ∙ sym o.2)

    -- with the file's list it gives and leaves what it did without one
    pub as_without_list : (checked_of way f).answer ≡ Ok tt → true_list way f held ≡ true → (r ≡ (alter_of way f k a).gives) × (left ≡ (alter_of way f k a).leaves)
    as_without_list g t = let o = as_asked way f held k a g t in (p.0 ∙ sym o.0, p.1 ∙ sym o.1)

    -- "granted, they are that of the file after it"
    pub altered_rows : r.answer ≡ Ok tt → rows ≡ in_front (rows_of (view_of way left)) held
    altered_rows e =
        let h = (listed_exactly way f held k a).0 (rw (← p.0) e) in
        let s = listed_step way f held k a ((alter_exactly way f k a).0 h.0).accepted h.1 in
        p.2 ∙ s.rows ∙ ap (λ x. in_front (rows_of (view_of way x)) held) (sym (p.1 ∙ s.leaves))
