-- When reading and writing are granted, what their refusals leave, and that an alteration is seen in the file.
-- Assumes nothing.
use Rattle.std.specs.Prelude.{Ok, Err}
use mathlib.Core.Path.{◌≡◌, refl, sym, ap, ◌∙◌}
use mathlib.Core.Logic.{◌↔◌}
use mathlib.Core.Bool.{true, ◌&&◌}
use mathlib.Core.List.{List}
use Prim.Native.Nat.{ℕ, ◌-◌, ◌≤◌, ◌<◌, ◌^◌}
use native.Mathlib.Omega.{arith}
use borrow.Author.Tests.{leb-true}
use lib.Dec.{leb}
use lib.ListN.{length, take, drop}
use lib.Seq.{take-append_seam}
use Rattle.text.proofs.DecimalLaws.{and_both}
use Rattle.layout.specs.declared.Fault.{Fault}
use Rattle.layout.specs.Answers.{Answer}
use Rattle.layout.specs.declared.Refusal.{Refusal}
use Rattle.layout.specs.Answers.{Made}
use Rattle.check_record.specs.Record.{checked_of}
use Rattle.view.specs.View.{entries_of, amount_of, file_of, view_of}
use Rattle.view.specs.Table.{shaped, formed, table_of}
use Rattle.view.specs.Outcome.{demand, and_then, room, made, read_of, write_of, no_entry, entry_at, amend, alter_of}
use Rattle.layout.specs.Paper.{refusal}
use Rattle.view.specs.Sized.{SizedEntry}
use Rattle.view_laws.proofs.Answers.{not_granted, demand_granted, then_granted}
use Rattle.view_laws.proofs.Bridge.{accepted_view}
use Rattle.view_laws.proofs.Lists.{all_at}
use Rattle.view_laws.proofs.Reading.{view_of_file}
use Rattle.view_laws.proofs.Tables.{entries_sized, formed_of_table}
use Rattle.view_laws.proofs.Amend.{amended_amount, entry_amended, amend_sized, table_amended}
use Rattle.view_laws.proofs.RoundTrips.{file_back, read_done, write_done}
use Rattle.view_laws.proofs.Alter.{alter_exactly, alter_leaves}
use Rattle.layout.specs.declared.Way.{Way}

-- ---- the answer of what was made

pub answered : (x : Answer) (result buffer : List ℕ) → (made x result buffer).gives.answer ≡ x
answered (Ok _) result buffer = refl
answered (Err r) result buffer = refl

pub made_refused : (x : Answer) (result buffer : List ℕ) (r : Refusal) → (made x result buffer).gives.answer ≡ Err r
    → ((made x result buffer).leaves ≡ buffer) × ((made x result buffer).gives.length ≡ 0)
made_refused (Ok _) result buffer r e = not_granted (sym e)
made_refused (Err x) result buffer r e = (refl, refl)

-- a refusal leaves what was lent, and its length is 0
pub read_leaves : (way : Way) (f table : List ℕ) (r : Refusal) → (read_of way f table).gives.answer ≡ Err r
    → ((read_of way f table).leaves ≡ table) × ((read_of way f table).gives.length ≡ 0)
read_leaves way f table r e = made_refused (and_then (checked_of way f).answer (room (table_of way f) table)) (table_of way f) table r e

pub write_leaves : (way : Way) (t file : List ℕ) (r : Refusal) → (write_of way t file).gives.answer ≡ Err r
    → ((write_of way t file).leaves ≡ file) × ((write_of way t file).gives.length ≡ 0)
write_leaves way t file r e =
    made_refused (demand (shaped t) (refusal Fault.Shape 0 0) (and_then (checked_of way (formed way t)).answer (room (formed way t) file))) (formed way t) file r e

pub room_granted : (result buffer : List ℕ) → room result buffer ≡ Ok tt → length result ≤ length buffer
room_granted result buffer e = leb-true (length result) (length buffer) (demand_granted (leb (length result) (length buffer)) _ (Ok tt) e).0

-- ---- when it is granted

pub read_exactly : (way : Way) (f table : List ℕ)
    → ((read_of way f table).gives.answer ≡ Ok tt) ↔ (((checked_of way f).answer ≡ Ok tt) × (length (table_of way f) ≤ length table))
read_exactly way f table = (
  λ e.
      let a = then_granted (checked_of way f).answer (room (table_of way f) table) (sym (answered _ (table_of way f) table) ∙ e) in
      (a.0, room_granted (table_of way f) table a.1),
  λ h. ap (λ o. o.gives.answer) (read_done way f table h.0 h.1),
)

pub write_exactly : (way : Way) (t file : List ℕ)
    → ((write_of way t file).gives.answer ≡ Ok tt)
    ↔ ((shaped t ≡ true) × ((checked_of way (formed way t)).answer ≡ Ok tt) × (length (formed way t) ≤ length file))
write_exactly way t file = (
  λ e.
      let tried = and_then (checked_of way (formed way t)).answer (room (formed way t) file) in
      let a = demand_granted (shaped t) _ tried (sym (answered _ (formed way t) file) ∙ e) in
      let b = then_granted (checked_of way (formed way t)).answer (room (formed way t) file) a.1 in
      (a.0, b.0, room_granted (formed way t) file b.1),
  λ h. ap (λ o. o.gives.answer) (write_done way t file h.0 h.1 h.2),
)

-- an accepted file is written from its table
pub write_file : (way : Way) (f file : List ℕ) → (checked_of way f).answer ≡ Ok tt → length f ≤ length file
    → write_of way (table_of way f) file ≡ made (Ok tt) f file
write_file way f file g l =
    let b = file_back way f g in
    write_done way (table_of way f) file b.0 (ap (λ x. (checked_of way x).answer) b.1 ∙ g) (rw b.1 l) ∙ ap (λ x. made (Ok tt) x file) b.1

-- ---- an alteration is seen

there : (n k : ℕ) → (leb 1 k && leb k n) ≡ true → (1 ≤ k) × (k ≤ n)
there n k e = let b = and_both (leb 1 k) (leb k n) e in (leb-true 1 k b.0, leb-true k n b.1)

-- the amount that the file then has is the one that was put in
pub alter_amount : (way : Way) (f : List ℕ) (k a : ℕ) → (alter_of way f k a).gives.answer ≡ Ok tt
    → amount_of (entry_at (view_of way (alter_of way f k a).leaves) k) ≡ a
alter_amount way f k a e =
    let v = view_of way f in
    let may = (alter_exactly way f k a).0 e in
    let few : a < 10 ^ 10 = omega (arith, may.digits) in
    let s = (accepted_view way f may.accepted).sized in
    let b = there (length (entries_of v)) k may.entry in
    let new = amend_sized v k a s b.0 b.1 few in
    let long = (all_at SizedEntry (entries_of v) (k - 1) no_entry (entries_sized v.batches s.each) (omega (arith, b.0, b.1))).long in
    let left : (alter_of way f k a).leaves ≡ file_of way (amend v k a) =
    alter_leaves way f k a e ∙ ap (formed way) (table_amended v k a s b.0 b.1 few) ∙ formed_of_table way (amend v k a) new in
    ap (λ x. amount_of (entry_at (view_of way x) k)) left
    ∙ ap (λ x. amount_of (entry_at x k)) (view_of_file way (amend v k a) new)
    ∙ ap amount_of (entry_amended v k a s b.0 b.1 few)
    ∙ amended_amount (entry_at v k) a long few

-- what a grant of reading or writing gives, and where it stands
pub done : (s : Made) (kept result held : List ℕ) → s ≡ (made (Ok tt) result held).gives → kept ≡ (made (Ok tt) result held).leaves
    → (s.answer ≡ Ok tt) × (s.length ≡ length result) × (take s.length kept ≡ result)
done s kept result held p q = rw (p, q) (refl, refl, take-append_seam result (drop (length result) held))
