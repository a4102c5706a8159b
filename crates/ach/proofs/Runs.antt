-- "After any run of alterations": each call is lent the file and the list that the one before it left.
-- Assumes nothing.
use Rattle.std.specs.Prelude.{Ok, Err}
use mathlib.Core.Path.{◌≡◌, refl, sym, ap, ap₂, ◌∙◌}
use mathlib.Core.Bool.{true, false}
use mathlib.Core.List.{List, [], ◌∷◌}
use Prim.Native.Nat.{ℕ, ◌≤◌}
use lib.ListN.{length, take}
use Rattle.text.specs.Decimal.{pick}
use Rattle.layout.specs.declared.Refusal.{Refusal}
use Rattle.layout.specs.Answers.{Made}
use Rattle.layout.specs.Answers.{Altered}
use Rattle.layout.specs.declared.Way.{Way}
use Rattle.check_record.specs.Record.{checked_of}
use Rattle.view.specs.View.{view_of}
use Rattle.view.specs.Table.{formed, table_of}
use Rattle.view.specs.Outcome.{made, write_of, altered_table, alter_of}
use Rattle.view.specs.Runs.{is_granted, table_run, alter_run}
use Rattle.view_laws.proofs.Alter.{may_put_lem, alter_step, run_table, run_file}
use Rattle.funds.specs.Funds.{rows_of, in_front, true_list}
use Rattle.alter.specs.Alter.{alter_listed_of}
use Rattle.funds.proofs.FrontLaws.{front_begins, front_same, front_front}
use Rattle.alter.proofs.Listing.{as_asked, file_first, other_list, listed_step}
use Rattle.ach.specs.Permits.{Writes, Alters, Run}
use Rattle.ach.proofs.Demands.{alter_ends}
use Rattle.ach.proofs.Grants.{write_file, done}

module _ (way : Way) where
  -- the list lent at the start is the file's. Then, refused calls among them, the file is the one of the granted amounts, and the list is that
  -- file's; what stands behind it stays.
  pub permitted : (calls : List (ℕ × ℕ)) (f held g rows : List ℕ) → (checked_of way f).answer ≡ Ok tt → true_list way f held ≡ true → Run way calls f held g rows
      → (g ≡ alter_run way calls f) × (rows ≡ in_front (rows_of (view_of way g)) held) × (length (rows_of (view_of way g)) ≡ length (rows_of (view_of way f)))
  unfolding alter_run
  permitted [] f held g rows a t p = (
    p.0,
    p.1 ∙ sym (ap (λ x. in_front (rows_of (view_of way x)) held) p.0 ∙ front_same (rows_of (view_of way f)) held t),
    ap (λ x. length (rows_of (view_of way x))) p.0,
  )
  permitted (call ∷ calls) f held g rows a t p =
      let s = listed_step way f held call.0 call.1 a t in
      let left : p.1 ≡ (alter_of way f call.0 call.1).leaves = p.3.1 ∙ s.leaves in
      let list : p.2 ≡ in_front (rows_of (view_of way p.1)) held = p.3.2 ∙ s.rows ∙ ap (λ x. in_front (rows_of (view_of way x)) held) (sym left) in
      let own : true_list way p.1 p.2 ≡ true = ap (true_list way p.1) list ∙ front_begins (rows_of (view_of way p.1)) held in
      let later = permitted calls p.1 p.2 g rows (ap (λ x. (checked_of way x).answer) left ∙ (alter_step way f call.0 call.1 a).0) own p.4 in (
        later.0 ∙ ap (alter_run way calls) left,
        later.1 ∙ ap (in_front (rows_of (view_of way g))) list ∙ front_front (rows_of (view_of way g)) (rows_of (view_of way p.1)) held later.2,
        later.2 ∙ ap (λ x. length (rows_of (view_of way x))) left ∙ s.many,
      )

  -- one call puts its amount into the table exactly if it is granted
  pub granted_put : (f held left rows : List ℕ) (k a : ℕ) (r : Altered) → (checked_of way f).answer ≡ Ok tt → true_list way f held ≡ true → Alters way f held k a r left rows
      → table_of way left ≡ pick (is_granted r.answer) (altered_table (table_of way f) k a) (table_of way f)
  granted_put f held left rows k a r e t p =
      let o = as_asked way f held k a e t in
      rw (p.0 ∙ sym o.0, p.1 ∙ sym o.1) ((alter_step way f k a e).1 ∙ ap (λ b. pick b (altered_table (table_of way f) k a) (table_of way f)) (sym (may_put_lem way f k a e)))

  module _ (calls : List (ℕ × ℕ)) (f held g rows : List ℕ) (a : (checked_of way f).answer ≡ Ok tt) (t : true_list way f held ≡ true) (p : Run way calls f held g rows) where
    -- After any run of alterations, refused ones among them, the file is the one written from the table with each granted amount put in, in order,
    pub run_ends_in : g ≡ formed way (table_run way calls (table_of way f))
    run_ends_in = (permitted calls f held g rows a t p).0 ∙ run_file way calls f a

    pub run_as_written : (lent left : List ℕ) (s : Made) → Writes way (table_run way calls (table_of way f)) lent s left → length g ≤ length lent
        → (s.answer ≡ Ok tt) × (s.length ≡ length g) × (take s.length left ≡ g)
    run_as_written lent left s w l =
        let e = (permitted calls f held g rows a t p).0 in
        let u = run_table way calls f a in
        let o : write_of way (table_run way calls (table_of way f)) lent ≡ made (Ok tt) (alter_run way calls f) lent =
        ap (λ x. write_of way x lent) (sym u.1) ∙ write_file way (alter_run way calls f) lent u.0 (rw (← e) l) in
        rw e (done s left (alter_run way calls f) lent (w.0 ∙ ap (λ x. x.gives) o) (w.1 ∙ ap (λ x. x.leaves) o))

    -- and "the list is kept true": it is that of this file, and what stands behind it stays
    pub run_list : rows ≡ in_front (rows_of (view_of way g)) held
    run_list = (permitted calls f held g rows a t p).1

    pub run_true : true_list way g rows ≡ true
    run_true = ap (true_list way g) run_list ∙ front_begins (rows_of (view_of way g)) held

  -- a run on a file that is not accepted, or with a list that is not its own, leaves both as they were
  pub run_of_refused : (calls : List (ℕ × ℕ)) (f held g rows : List ℕ) (x : Refusal) → (checked_of way f).answer ≡ Err x → Run way calls f held g rows → (g ≡ f) × (rows ≡ held)
  run_of_refused [] f held g rows x e p = p
  run_of_refused (call ∷ calls) f held g rows x e p =
      let o = file_first way f held call.0 call.1 x e in
      let left : p.1 ≡ f = p.3.1 ∙ sym o.1 in
      let later = run_of_refused calls p.1 p.2 g rows x (ap (λ y. (checked_of way y).answer) left ∙ e) p.4 in
      (later.0 ∙ left, later.1 ∙ p.3.2 ∙ sym o.2)

  pub run_of_other_list : (calls : List (ℕ × ℕ)) (f held g rows : List ℕ) → (checked_of way f).answer ≡ Ok tt → true_list way f held ≡ false → Run way calls f held g rows
      → (g ≡ f) × (rows ≡ held)
  run_of_other_list [] f held g rows a t p = p
  run_of_other_list (call ∷ calls) f held g rows a t p =
      let o = other_list way f held call.0 call.1 a t in
      let left : p.1 ≡ f = p.3.1 ∙ sym o.1 in
      let list : p.2 ≡ held = p.3.2 ∙ sym o.2 in
      let later = run_of_other_list calls p.1 p.2 g rows (ap (λ y. (checked_of way y).answer) left ∙ a) (ap₂ (true_list way) left list ∙ t) p.4 in
      (later.0 ∙ left, later.1 ∙ list)

  -- for any calls a run is permitted, and no two end differently
  same_from : (calls : List (ℕ × ℕ)) (f held f' held' g h rows list : List ℕ) → f ≡ f' → held ≡ held' → Run way calls f held g rows → Run way calls f' held' h list
      → (g ≡ h) × (rows ≡ list)
  same_from [] f held f' held' g h rows list d e p q = (p.0 ∙ d ∙ sym q.0, p.1 ∙ e ∙ sym q.1)
  same_from (call ∷ calls) f held f' held' g h rows list d e p q =
      let o = ap₂ (λ x y. alter_listed_of way x y call.0 call.1) d e in
      same_from calls p.1 p.2 q.1 q.2 g h rows list (p.3.1 ∙ ap (λ x. x.leaves) o ∙ sym q.3.1) (p.3.2 ∙ ap (λ x. x.rows) o ∙ sym q.3.2) p.4 q.4

  pub run_one : (calls : List (ℕ × ℕ)) (f held g h rows list : List ℕ) → Run way calls f held g rows → Run way calls f held h list → (g ≡ h) × (rows ≡ list)
  run_one calls f held g h rows list p q = same_from calls f held f held g h rows list refl refl p q

  pub run_ends : (calls : List (ℕ × ℕ)) (f held : List ℕ) → (g : List ℕ) × (rows : List ℕ) × Run way calls f held g rows
  run_ends [] f held = (f, held, (refl, refl))
  run_ends (call ∷ calls) f held =
      let s = alter_ends way f held call.0 call.1 in
      let e = run_ends calls s.1 s.2 in
      (e.0, e.1, (s.0, s.1, s.2, s.3, e.2))
