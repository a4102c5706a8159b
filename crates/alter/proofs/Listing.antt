-- An alteration with the file's list.
-- Assumes nothing but what a statement says.
use Rattle.std.specs.Prelude.{Ok, Err}
use mathlib.Core.Path.{◌≡◌, refl, sym, ap, ◌∙◌}
use mathlib.Core.Logic.{◌↔◌}
use mathlib.Core.Bool.{true, false}
use mathlib.Core.List.{List}
use Prim.Native.Nat.{ℕ, ◌≤◌}
use native.Mathlib.Omega.{arith}
use borrow.Author.Tests.{leb-true}
use lib.Dec.{leb}
use lib.IntN.{ℤ, pos, ◌-ℤ◌}
use lib.ListN.{length}
use Rattle.text.proofs.DecimalLaws.{and_both}
use Rattle.layout.specs.Answers.{Answer}
use Rattle.layout.specs.Answers.{Altered}
use Rattle.layout.specs.declared.Fault.{Fault}
use Rattle.layout.specs.declared.Refusal.{Refusal}
use Rattle.layout.specs.declared.Way.{Way}
use Rattle.check_record.specs.Record.{checked_of}
use Rattle.view.specs.View.{View, entries_of, amount_of, file_of, view_of}
use Rattle.view.specs.Outcome.{entry_at, amend, alter_answer, altered, alter_of}
use Rattle.layout.specs.Paper.{refusal}
use Rattle.view_laws.proofs.Alter.{alter_exactly, alter_accepted, alter_refused}
use Rattle.view_laws.proofs.Amend.{amend_sized, batches_length}
use Rattle.view_laws.proofs.Answers.{not_granted, demand_granted, then_granted}
use Rattle.view_laws.proofs.Bridge.{accepted_view}
use Rattle.view_laws.proofs.Reading.{view_of_file}
use Rattle.funds.specs.Funds.{rows_of, in_front, true_list}
use Rattle.funds.specs.Outcome.{relisted}
use Rattle.alter.specs.Alter.{alter_listed_answer, alter_listed_of}
use Rattle.funds.proofs.FrontLaws.{begins_long, front_same}
use Rattle.funds.proofs.RowLaws.{rows_long}
use Rattle.alter.proofs.AmountLaws.{asked_granted}

-- the answer of an alteration, the file that a grant leaves, and the list that follows them
answered : (x : Answer) (d : ℤ) (result f : List ℕ) → (altered x d result f).gives.answer ≡ x
answered (Ok _) d result f = refl
answered (Err r) d result f = refl

grant_leaves : (x : Answer) (d : ℤ) (result f : List ℕ) → (altered x d result f).gives.answer ≡ Ok tt → (altered x d result f).leaves ≡ result
grant_leaves (Ok _) d result f e = refl
grant_leaves (Err r) d result f e = not_granted e

list_follows : (way : Way) (x : Answer) (d : ℤ) (result f held : List ℕ)
    → relisted (altered x d result f).gives.answer (view_of way (altered x d result f).leaves) held ≡ relisted x (view_of way result) held
list_follows way (Ok _) d result f held = refl
list_follows way (Err r) d result f held = refl

module _ (way : Way) (f held : List ℕ) (k amount : ℕ) where
  -- what is given, the file left and the list left
  abbrev pub Comes : Altered → List ℕ → List ℕ → Type 0
  Comes r left rows =
      (r ≡ (alter_listed_of way f held k amount).gives) × (left ≡ (alter_listed_of way f held k amount).leaves) × (rows ≡ (alter_listed_of way f held k amount).rows)

  after : List ℕ
  after = file_of way (amend (view_of way f) k amount)

  change : ℤ
  change = pos amount -ℤ pos (amount_of (entry_at (view_of way f) k))

  comes : (x : Answer) → alter_listed_answer way f held k amount ≡ x → Comes (altered x change after f).gives (altered x change after f).leaves (relisted x (view_of way after) held)
  unfolding after change
  comes x e = (ap (λ a. (altered a change after f).gives) (sym e), ap (λ a. (altered a change after f).leaves) (sym e), ap (λ a. relisted a (view_of way after) held) (sym e))

  -- the file's refusals come first, and then 34
  pub file_first : (r : Refusal) → (checked_of way f).answer ≡ Err r → Comes (record { answer = Err r; difference = pos 0 }) f held
  file_first r e = comes (Err r) (rw e refl)

  module _ (g : (checked_of way f).answer ≡ Ok tt) where
    pub other_list : true_list way f held ≡ false → Comes (record { answer = refusal Fault.Rows 0 0; difference = pos 0 }) f held
    other_list e = comes (refusal Fault.Rows 0 0) (rw (g, e) refl)

    -- with the file's list it is the alteration of the file
    module _ (t : true_list way f held ≡ true) where
      pub as_asked : Comes (alter_of way f k amount).gives (alter_of way f k amount).leaves
          (relisted (alter_of way f k amount).gives.answer (view_of way (alter_of way f k amount).leaves) held)
      unfolding after change
      as_asked =
          let c = comes (alter_answer way f k amount) (asked_granted (checked_of way f).answer (true_list way f held) _ _ g t) in
          (c.0, c.1, list_follows way (alter_answer way f k amount) change after f held ∙ c.2)

      -- r and left are what the alteration of the file gave and left
      module _ {r : Altered} {left : List ℕ} (p : r ≡ (alter_of way f k amount).gives) (q : left ≡ (alter_of way f k amount).leaves) where
        pub refused_listed : (x : Refusal) → r.answer ≡ Err x → Comes r left held
        refused_listed x e = (p ∙ as_asked.0, q ∙ as_asked.1, ap (λ a. relisted a (view_of way (alter_of way f k amount).leaves) held) (sym (ap (λ o. o.answer) (sym p) ∙ e)) ∙ as_asked.2)

        module _ (e : r.answer ≡ Ok tt) where
          granted : (alter_of way f k amount).gives.answer ≡ Ok tt
          granted = ap (λ o. o.answer) (sym p) ∙ e

          pub granted_listed : {rows : List ℕ} → rows ≡ in_front (rows_of (view_of way left)) held → Comes r left rows
          granted_listed u = (
            p ∙ as_asked.0,
            q ∙ as_asked.1,
            u ∙ ap (λ x. in_front (rows_of (view_of way x)) held) q ∙ ap (λ a. relisted a (view_of way (alter_of way f k amount).leaves) held) (sym granted) ∙ as_asked.2,
          )

          -- the file left has as many batches
          pub as_many : length (rows_of (view_of way left)) ≡ length (rows_of (view_of way f))
          unfolding after change
          as_many =
              let v = view_of way f in
              let may = (alter_exactly way f k amount).0 granted in
              let there = and_both (leb 1 k) (leb k (length (entries_of v))) may.entry in
              let first = leb-true 1 k there.0 in
              let last = leb-true k (length (entries_of v)) there.1 in
              let s = (accepted_view way f g).sized in
              let made : left ≡ after = q ∙ grant_leaves (alter_answer way f k amount) change after f granted in
              let new : view_of way left ≡ amend v k amount = ap (view_of way) made ∙ view_of_file way (amend v k amount) (amend_sized v k amount s first last (omega (arith, may.digits))) in
              omega (arith, ap (λ x. length (rows_of x)) new, rows_long (amend v k amount), rows_long v, batches_length v k amount s first last (omega (arith, may.digits)))

          -- so the list has room
          pub ready_again : ((checked_of way left).answer ≡ Ok tt) × (length (rows_of (view_of way left)) ≤ length held)
          ready_again = (rw q (alter_accepted way f k amount granted), omega (arith, as_many, begins_long (rows_of (view_of way f)) held t))

-- one call of a run: of an accepted file, with its list
pub record Step (way : Way) (f held : List ℕ) (k amount : ℕ) : Type 0 where
  pub leaves : (alter_listed_of way f held k amount).leaves ≡ (alter_of way f k amount).leaves
  pub rows : (alter_listed_of way f held k amount).rows ≡ in_front (rows_of (view_of way (alter_of way f k amount).leaves)) held
  pub many : length (rows_of (view_of way (alter_of way f k amount).leaves)) ≡ length (rows_of (view_of way f))

pub listed_step : (way : Way) (f held : List ℕ) (k amount : ℕ) → (checked_of way f).answer ≡ Ok tt → true_list way f held ≡ true → Step way f held k amount
listed_step way f held k amount g t = go (alter_of way f k amount).gives.answer refl
  where
    follows : (x : Answer) → (alter_of way f k amount).gives.answer ≡ x
        → (alter_listed_of way f held k amount).rows ≡ relisted x (view_of way (alter_of way f k amount).leaves) held
    follows x e = sym (as_asked way f held k amount g t).2 ∙ ap (λ a. relisted a (view_of way (alter_of way f k amount).leaves) held) e

    go : (x : Answer) → (alter_of way f k amount).gives.answer ≡ x → Step way f held k amount
    go (Ok _) e =
        record { leaves = sym (as_asked way f held k amount g t).1; rows = follows (Ok tt) e; many = as_many way f held k amount g t refl refl e }
    go (Err r) e =
        let same = (alter_refused way f k amount r e).0 in
        record {
          leaves = sym (as_asked way f held k amount g t).1;
          rows = follows (Err r) e ∙ sym (ap (λ x. in_front (rows_of (view_of way x)) held) same ∙ front_same (rows_of (view_of way f)) held t);
          many = ap (λ x. length (rows_of (view_of way x))) same;
        }

-- a refusal leaves the file and the list, and no difference
refusal_leaves : (x : Answer) (d : ℤ) (result f held : List ℕ) (v : View) (r : Refusal) → (altered x d result f).gives.answer ≡ Err r
    → ((altered x d result f).leaves ≡ f) × (relisted x v held ≡ held) × ((altered x d result f).gives.difference ≡ pos 0)
refusal_leaves (Ok _) d result f held v r e = not_granted (sym e)
refusal_leaves (Err x) d result f held v r e = (refl, refl, refl)

pub listed_refused : (way : Way) (f held : List ℕ) (k amount : ℕ) (r : Refusal) → (alter_listed_of way f held k amount).gives.answer ≡ Err r
    → ((alter_listed_of way f held k amount).leaves ≡ f) × ((alter_listed_of way f held k amount).rows ≡ held) × ((alter_listed_of way f held k amount).gives.difference ≡ pos 0)
listed_refused way f held k amount r e = refusal_leaves (alter_listed_answer way f held k amount) _ _ f held _ r e

-- it is granted exactly if the alteration of the file is, and the list is the file's
pub listed_exactly : (way : Way) (f held : List ℕ) (k amount : ℕ)
    → ((alter_listed_of way f held k amount).gives.answer ≡ Ok tt) ↔ (((alter_of way f k amount).gives.answer ≡ Ok tt) × (true_list way f held ≡ true))
listed_exactly way f held k amount =
    let whole : (alter_listed_of way f held k amount).gives.answer ≡ alter_listed_answer way f held k amount = answered (alter_listed_answer way f held k amount) _ _ f in
    let alone : (alter_of way f k amount).gives.answer ≡ alter_answer way f k amount = answered (alter_answer way f k amount) _ _ f in (
      λ e.
          let a = then_granted (checked_of way f).answer _ (sym whole ∙ e) in
          let b = demand_granted (true_list way f held) _ (alter_answer way f k amount) a.1 in
          (alone ∙ b.1, b.0),
      λ h.
          let g = (then_granted (checked_of way f).answer _ (sym alone ∙ h.0)).0 in
          whole ∙ asked_granted (checked_of way f).answer (true_list way f held) _ _ g h.1 ∙ sym alone ∙ h.0,
    )
