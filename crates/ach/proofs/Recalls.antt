-- What requests 6 and 8 ask of taking out, over its contract: whatever outcome it permits has these properties.
-- Assumes nothing.
use Rattle.std.specs.Prelude.{Ok, Err}
use mathlib.Core.Path.{◌≡◌, refl, sym, ap, ap₂, subst, ◌∙◌}
use mathlib.Core.Logic.{◌↔◌}
use mathlib.Core.Bool.{true, false}
use mathlib.Core.List.{List, []}
use Prim.Native.Nat.{ℕ, ◌+◌, ◌-◌, ◌*◌, ◌≤◌, ◌<◌}
use native.Mathlib.Omega.{arith}
use lib.ListN.{length, take, drop, replicate}
use lib.Seq.{length-take-le, take-append_seam, drop-append_seam}
use Rattle.layout.specs.declared.Fault.{Fault}
use Rattle.layout.specs.declared.Refusal.{Refusal}
use Rattle.layout.specs.Answers.{Checked}
use Rattle.layout.specs.Answers.{Made}
use Rattle.layout.specs.declared.Way.{Way}
use Rattle.check_record.specs.Record.{checked_of}
use Rattle.view.specs.View.{sum_over, debit_of, credit_of, entries_of, view_of}
use Rattle.view.specs.Table.{formed, table_of}
use Rattle.view.specs.Outcome.{made, write_of, exists}
use Rattle.layout.specs.Paper.{refusal}
use Rattle.view_laws.proofs.Own.{Told, own_entries}
use Rattle.funds.specs.RunsOut.{RunsOut}
use Rattle.funds.specs.Funds.{rows_of, in_front, begins_with, true_list, runs_out}
use Rattle.funds.specs.Summed.{summed}
use Rattle.funds.proofs.Asked.{own_list}
use Rattle.funds.proofs.CheckLaws.{check_done}
use Rattle.funds.proofs.FrontLaws.{front_begins, front_front, front_long}
use Rattle.funds.proofs.RowLaws.{rows_long}
use Rattle.recall_view.specs.RecallView.{named, without, table_without, all_exist, take_out_of}
use Rattle.recall_view.specs.Gone.{gone_of, distinct}
use Rattle.recall_view.proofs.Left.{sum_without, length_without, length_gone}
use Rattle.recall_view.proofs.TakenOut.{take_out_exactly, take_out_refused, take_out_written, take_out_blanks, take_out_length, take_out_accepted, take_out_view, take_out_table, take_out_rows, take_out_none, refused_own, refused_number, refused_none, refused_room, same_outcome, list_unread}
use Rattle.ach.specs.Permits.{Checks, Finds, Writes, TakesOut}
use Rattle.ach.proofs.Grants.{write_file, done}

module _ (way : Way) where
  -- ---- every input has one outcome, and no other is permitted

  pub take_out_ends : (f ns held : List ℕ) → (r : Made) × (left : List ℕ) × (rows : List ℕ) × TakesOut way f ns held r left rows
  take_out_ends f ns held =
      let o = take_out_of way f ns held in
      (o.gives, o.leaves, o.rows, (refl, refl, refl))

  pub take_out_one : (f ns held left kept rows list : List ℕ) (r s : Made) → TakesOut way f ns held r left rows → TakesOut way f ns held s kept list
      → (r ≡ s) × (left ≡ kept) × (rows ≡ list)
  take_out_one f ns held left kept rows list r s p q = (p.0 ∙ sym q.0, p.1 ∙ sym q.1, p.2 ∙ sym q.2)

  -- "a list of entry numbers in any order, repeats counting once": lists that name the same entries have the same outcome
  pub same_entries_named : (f ns ms held left kept rows list : List ℕ) (r s : Made) → ((k : ℕ) → named k ns ≡ named k ms)
      → TakesOut way f ns held r left rows → TakesOut way f ms held s kept list → (r ≡ s) × (left ≡ kept) × (rows ≡ list)
  same_entries_named f ns ms held left kept rows list r s same p q =
      let o = same_outcome way f ns ms held same in
      (p.0 ∙ ap (λ x. x.gives) o ∙ sym q.0, p.1 ∙ ap (λ x. x.leaves) o ∙ sym q.1, p.2 ∙ ap (λ x. x.rows) o ∙ sym q.2)

  -- "what the list held before is not read": answer and file hang on its length alone
  pub recall_list_unread : (f ns held other left kept rows list : List ℕ) (r s : Made) → length held ≡ length other
      → TakesOut way f ns held r left rows → TakesOut way f ns other s kept list → (r ≡ s) × (left ≡ kept)
  recall_list_unread f ns held other left kept rows list r s e p q =
      let o = list_unread way f ns held other e in
      (p.0 ∙ o.0 ∙ sym q.0, p.1 ∙ o.1 ∙ sym q.1)

  module _ (f ns held left rows : List ℕ) (r : Made) (p : TakesOut way f ns held r left rows) where
    answer_is : r.answer ≡ (take_out_of way f ns held).gives.answer
    answer_is = ap (λ (m : Made). m.answer) p.0

    -- ---- the refusals, in order: "the file's own, 25 for the first bad number in the list, 27 if no entry would be left", and 23 last

    pub recall_of_refused : (x : Refusal) → (checked_of way f).answer ≡ Err x → r.answer ≡ Err x
    recall_of_refused x e = answer_is ∙ refused_own way f ns held x e

    pub recall_bad_number : (k : ℕ) → (checked_of way f).answer ≡ Ok tt → named k ns ≡ true → exists (view_of way f) k ≡ false → r.answer ≡ refusal Fault.NoEntry 0 0
    recall_bad_number k g h bad = answer_is ∙ refused_number way f ns held g k h bad

    module _ (g : (checked_of way f).answer ≡ Ok tt) (a : all_exist (view_of way f) ns ≡ true) where
      pub recall_of_all : length (entries_of (without (view_of way f) ns)) ≡ 0 → r.answer ≡ refusal Fault.NoneLeft 0 0
      recall_of_all z = answer_is ∙ refused_none way f ns held g a z

      -- "the room is measured by the batches left"
      pub recall_no_room : 1 ≤ length (entries_of (without (view_of way f) ns)) → length held < 2 * length (without (view_of way f) ns).batches
          → r.answer ≡ refusal Fault.Room 0 0
      recall_no_room some short = answer_is ∙ refused_room way f ns held g a some short

    -- and it is granted otherwise
    pub exactly_recalled : (r.answer ≡ Ok tt)
        ↔ (((checked_of way f).answer ≡ Ok tt)
        × (all_exist (view_of way f) ns ≡ true)
        × (1 ≤ length (entries_of (without (view_of way f) ns)))
        × (2 * length (without (view_of way f) ns).batches ≤ length held))
    exactly_recalled = (
      λ e. let h = (take_out_exactly way f ns held).0 (sym answer_is ∙ e) in (h.accepted, h.numbers, h.left, h.room),
      λ h. answer_is ∙ (take_out_exactly way f ns held).1 (record { accepted = h.0; numbers = h.1; left = h.2; room = h.3 }),
    )

    -- a refusal touches nothing, the list neither
    pub recall_refused : (x : Refusal) → r.answer ≡ Err x → (left ≡ f) × (rows ≡ held) × (r.length ≡ 0)
    recall_refused x e =
        let o = take_out_refused way f ns held x (sym answer_is ∙ e) in
        (p.1 ∙ o.0, p.2 ∙ o.1, ap (λ (m : Made). m.length) p.0 ∙ o.2)

    -- ---- a grant

    module _ (g : r.answer ≡ Ok tt) where
      granted : (take_out_of way f ns held).gives.answer ≡ Ok tt
      granted = sym answer_is ∙ g

      front : take r.length left ≡ take (take_out_of way f ns held).gives.length (take_out_of way f ns held).leaves
      front = ap₂ (λ (m : Made) (l : List ℕ). take m.length l) p.0 p.1

      -- "The result is the file written from the table without those rows"; (it is the one that write permits)
      pub recall_afresh : take r.length left ≡ formed way (table_without (table_of way f) ns)
      recall_afresh = front ∙ take_out_written way f ns held granted

      pub recall_accepted : (checked_of way (take r.length left)).answer ≡ Ok tt
      recall_accepted = ap (λ x. (checked_of way x).answer) front ∙ take_out_accepted way f ns held granted

      pub recall_view : view_of way (take r.length left) ≡ without (view_of way f) ns
      recall_view = ap (view_of way) front ∙ take_out_view way f ns held granted

      pub recall_table : table_of way (take r.length left) ≡ table_without (table_of way f) ns
      recall_table = ap (table_of way) front ∙ take_out_table way f ns held granted

      -- "the freed bytes after the new end become blanks, and the new length is given"
      pub recall_blanks : drop r.length left ≡ replicate (length f - r.length) 32
      recall_blanks = rw (p.0, p.1) (take_out_blanks way f ns held granted)

      pub recall_length : (r.length ≤ length f) × (length left ≡ length f)
      recall_length = rw (p.0, p.1) (take_out_length way f ns held granted)

      new_length : length (take r.length left) ≡ r.length
      new_length = length-take-le r.length left (omega (arith, recall_length.0, recall_length.1))

      pub recall_as_written : (lent kept : List ℕ) (s : Made) → Writes way (table_without (table_of way f) ns) lent s kept → length f ≤ length lent
          → (s.answer ≡ Ok tt) × (s.length ≡ r.length) × (take s.length kept ≡ take r.length left)
      recall_as_written lent kept s w l =
          let new = take r.length left in
          let o : write_of way (table_without (table_of way f) ns) lent ≡ made (Ok tt) new lent =
          ap (λ t. write_of way t lent) (sym recall_table) ∙ write_file way new lent recall_accepted (omega (arith, recall_length.0, new_length)) in
          let d = done s kept new lent (w.0 ∙ ap (λ x. x.gives) o) (w.1 ∙ ap (λ x. x.leaves) o) in
          (d.0, d.1 ∙ new_length, d.2)

      -- ---- "taking entries out rebuilds it": the list in front is that of the file left, two numbers for each of its batches; what stands behind stays

      pub recall_rows : rows ≡ in_front (rows_of (view_of way (take r.length left))) held
      recall_rows = p.2 ∙ take_out_rows way f ns held granted ∙ ap (λ x. in_front (rows_of (view_of way x)) held) (sym front)

      pub recall_rows_parts : (take (2 * length (without (view_of way f) ns).batches) rows ≡ rows_of (view_of way (take r.length left)))
          × (drop (2 * length (without (view_of way f) ns).batches) rows ≡ drop (2 * length (without (view_of way f) ns).batches) held)
      recall_rows_parts =
          let list = rows_of (view_of way (take r.length left)) in
          let many : 2 * length (without (view_of way f) ns).batches ≡ length list = sym (ap (λ v. length (rows_of v)) recall_view ∙ rows_long (without (view_of way f) ns)) in (
            ap₂ take many recall_rows ∙ take-append_seam list (drop (length list) held),
            ap₂ drop many recall_rows ∙ drop-append_seam list (drop (length list) held) ∙ ap (λ n. drop n held) (sym many),
          )

      pub recall_rows_length : length rows ≡ length held
      recall_rows_length =
          let own = rows_of (view_of way (take r.length left)) in
          ap length recall_rows
          ∙ front_long own held (omega (arith, ap (λ v. length (rows_of v)) recall_view ∙ rows_long (without (view_of way f) ns), ((take_out_exactly way f ns held).0 granted).room))

      -- so the question put to it is answered from every entry left,
      pub recall_question : (limit : ℕ) (q : RunsOut) → Finds (take (2 * length (without (view_of way f) ns).batches) rows) limit q → q ≡ summed limit (without (view_of way f) ns)
      recall_question limit q u =
          u ∙ ap (runs_out limit) recall_rows_parts.0 ∙ ap (λ v. runs_out limit (rows_of v)) recall_view ∙ own_list limit (without (view_of way f) ns)

      -- an alteration finds the list that it asks for,
      pub recall_then_alter : true_list way (take r.length left) rows ≡ true
      recall_then_alter =
          let own = rows_of (view_of way (take r.length left)) in
          ap (begins_with own) recall_rows ∙ front_begins own held

      -- and checking the file left, with the list lent as it is, grants and changes nothing of it
      pub recall_then_check : (d : Checked) (list : List ℕ) → Checks way (take r.length left) rows d list
          → (d ≡ checked_of way (take r.length left)) × (d.answer ≡ Ok tt) × (list ≡ rows)
      recall_then_check d list u =
          let new = take r.length left in
          let own = rows_of (view_of way new) in
          let enough : 2 * length (view_of way new).batches ≤ length rows =
          omega (arith, ap (λ v. 2 * length v.batches) recall_view, ((take_out_exactly way f ns held).0 granted).room, recall_rows_length) in
          let room = check_done way new rows recall_accepted enough in
          let same : d ≡ checked_of way new = u.0 ∙ room.0 in (
            same,
            ap (λ (c : Checked). c.answer) same ∙ recall_accepted,
            u.1 ∙ room.1 ∙ ap (in_front own) recall_rows ∙ front_front own own held refl ∙ sym recall_rows,
          )

      -- ---- what stays and what goes: not a cent is lost, and as many entries go as the list has different numbers

      told : Told (checked_of way (take r.length left)) (without (view_of way f) ns)
      told = subst (Told (checked_of way (take r.length left))) recall_view (own_entries way (take r.length left) recall_accepted)

      was : Told (checked_of way f) (view_of way f)
      was = own_entries way f ((take_out_exactly way f ns held).0 granted).accepted

      pub recall_cents : ((checked_of way (take r.length left)).debit + sum_over debit_of (gone_of (view_of way f) ns) ≡ (checked_of way f).debit)
          × ((checked_of way (take r.length left)).credit + sum_over credit_of (gone_of (view_of way f) ns) ≡ (checked_of way f).credit)
      recall_cents = (rw (told.debit, was.debit) (sum_without (view_of way f) ns debit_of), rw (told.credit, was.credit) (sum_without (view_of way f) ns credit_of))

      pub recall_entries : (checked_of way (take r.length left)).entries + distinct ns ≡ (checked_of way f).entries
      recall_entries =
          rw (told.entries, was.entries, ← length_gone (view_of way f) ns ((take_out_exactly way f ns held).0 granted).numbers) (length_without (view_of way f) ns)

  -- "An empty list is granted and changes nothing": with room it gives the file's own list
  pub recall_of_none : (f held left rows : List ℕ) (r : Made) → (checked_of way f).answer ≡ Ok tt → 2 * length (view_of way f).batches ≤ length held
      → TakesOut way f [] held r left rows → (r.answer ≡ Ok tt) × (r.length ≡ length f) × (left ≡ f) × (rows ≡ in_front (rows_of (view_of way f)) held)
  recall_of_none f held left rows r g h p =
      let o = take_out_none way f held g h in
      let given = p.0 ∙ ap (λ x. x.gives) o in
      (ap (λ (m : Made). m.answer) given, ap (λ (m : Made). m.length) given, p.1 ∙ ap (λ x. x.leaves) o, p.2 ∙ ap (λ x. x.rows) o)
