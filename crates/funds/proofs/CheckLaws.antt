-- A check with a list lent.
-- Assumes nothing but what a statement says.
use Rattle.std.specs.Prelude.{Ok, Err}
use mathlib.Core.Path.{◌≡◌, refl, sym, ap, ◌∙◌}
use mathlib.Core.Logic.{◌↔◌}
use mathlib.Core.Bool.{Bool, true, false}
use mathlib.Core.List.{List, [], ◌∷◌, map}
use Prim.Native.Nat.{ℕ, ◌+◌, ◌*◌, ◌/◌, ◌≤◌, ◌<◌}
use native.Mathlib.Omega.{arith}
use borrow.Author.Tests.{le-leb, lt-leb, leb-true}
use lib.Dec.{leb}
use lib.ListN.{length}
use Rattle.text.specs.Decimal.{pick}
use Rattle.layout.specs.Answers.{Answer}
use Rattle.layout.specs.Answers.{Checked}
use Rattle.layout.specs.declared.Fault.{Fault}
use Rattle.layout.specs.declared.Refusal.{Refusal}
use Rattle.layout.specs.declared.Way.{Way}
use Rattle.check_order.specs.Order.{complete}
use Rattle.check_sums.specs.declared.State.{State}
use Rattle.check_sums.specs.Sums.{start}
use Rattle.check_record.specs.Verdict.{Verdict}
use Rattle.check_record.specs.Record.{Piece, record_of, refused, accepted, onward, run_from, length_fits, raw_records, piece_of, checked_of}
use Rattle.view.specs.View.{view_of}
use Rattle.layout.specs.Paper.{refusal}
use Rattle.view_laws.proofs.Answers.{not_granted, demand_granted, then_granted}
use Rattle.view_laws.proofs.Own.{own_entries}
use Rattle.funds.specs.Funds.{rows_of, in_front}
use Rattle.funds.specs.Outcome.{relisted, check_answer, given, check_of}
use Rattle.funds.proofs.RowLaws.{rows_long}

-- ---- a refusal of the file has no numbers

abbrev refused_by : Refusal → Checked
refused_by r = refused r.fault r.record.0 r.field

abbrev said_of : Answer → Refusal → Refusal
said_of (Ok _) d = d
said_of (Err r) d = r

same_refusal : (x r : Refusal) → ◌≡◌ {A = Answer} (Err x) (Err r) → refused_by x ≡ refused_by r
same_refusal x r e = ap (λ a. refused_by (said_of a r)) e

run_refused : (st : State) (ps : List Piece) (r : Refusal) → (run_from st ps).answer ≡ Err r → run_from st ps ≡ refused_by r
unfolding run_from
run_refused st [] r e = go (complete st.place st.sums.records) e
  where
    go : (b : Bool) → (pick b (accepted st) (refused Fault.Ended (st.sums.records + 1) 0)).answer ≡ Err r
        → pick b (accepted st) (refused Fault.Ended (st.sums.records + 1) 0) ≡ refused_by r
    go true g = not_granted (sym g)
    go false g = same_refusal _ r g
run_refused st (p ∷ ps) r e = go (record_of st p).verdict e (run_refused (record_of st p).state ps r)
  where
    go : (v : Verdict) → (onward v (st.sums.records + 1) (run_from (record_of st p).state ps)).answer ≡ Err r
        → ((run_from (record_of st p).state ps).answer ≡ Err r → run_from (record_of st p).state ps ≡ refused_by r)
        → onward v (st.sums.records + 1) (run_from (record_of st p).state ps) ≡ refused_by r
    go (Ok _) g later = later g
    go (Err wrong) g later = same_refusal _ r g

pub no_numbers : (way : Way) (f : List ℕ) (r : Refusal) → (checked_of way f).answer ≡ Err r → checked_of way f ≡ refused r.fault r.record.0 r.field
no_numbers way f r e = go (length_fits way (length f)) e
  where
    go : (b : Bool) → (pick b (run_from start (map (piece_of way) (raw_records way f))) (refused Fault.Length 0 0)).answer ≡ Err r
        → pick b (run_from start (map (piece_of way) (raw_records way f))) (refused Fault.Length 0 0) ≡ refused_by r
    go true g = run_refused start (map (piece_of way) (raw_records way f)) r g
    go false g = same_refusal _ r g

-- ---- what a check comes to

module _ (way : Way) (f held : List ℕ) where
  -- an answer, and what it gives and leaves
  abbrev pub Comes : Checked → List ℕ → Type 0
  Comes c left = (c ≡ (check_of way f held).gives) × (left ≡ (check_of way f held).leaves)

  comes : (a : Answer) → check_answer way f held ≡ a → Comes (given a (checked_of way f)) (relisted a (view_of way f) held)
  comes a e = (ap (λ x. given x (checked_of way f)) (sym e), ap (λ x. relisted x (view_of way f) held) (sym e))

  pub file_refused : (r : Refusal) → (checked_of way f).answer ≡ Err r → Comes (checked_of way f) held
  file_refused r e =
      let c = comes (Err r) (rw e refl) in
      (no_numbers way f r e ∙ c.0, c.1)

  module _ (g : (checked_of way f).answer ≡ Ok tt) where
    pub no_room : length held / 2 < (checked_of way f).batches → Comes (refused Fault.Room 0 0) held
    no_room h =
        let short : length held < 2 * length (view_of way f).batches = omega (arith, h, (own_entries way f g).batches) in
        comes (refusal Fault.Room 0 0) (rw (g, lt-leb (2 * length (view_of way f).batches) (length held) short) refl)

    module _ (h : (checked_of way f).batches ≤ length held / 2) where
      enough : 2 * length (view_of way f).batches ≤ length held
      enough = omega (arith, h, (own_entries way f g).batches)

      pub room_for_rows : length (rows_of (view_of way f)) ≤ length held
      room_for_rows = omega (arith, enough, rows_long (view_of way f))

      pub listed : Comes (checked_of way f) (in_front (rows_of (view_of way f)) held)
      listed = comes (Ok tt) (rw (g, le-leb (2 * length (view_of way f).batches) (length held) enough) refl)

-- ---- its outcome, told of the file

module _ (way : Way) (f held : List ℕ) where
  -- the file's own refusals come first, and are the same whatever is lent
  pub check_own : (x : Refusal) → (checked_of way f).answer ≡ Err x → ((check_of way f held).gives ≡ checked_of way f) × ((check_of way f held).leaves ≡ held)
  check_own x e = let c = file_refused way f held x e in (sym c.0, sym c.1)

  -- 23 comes last
  pub check_short : (checked_of way f).answer ≡ Ok tt → length held < 2 * length (view_of way f).batches
      → ((check_of way f held).gives ≡ refused Fault.Room 0 0) × ((check_of way f held).leaves ≡ held)
  check_short g h = let c = no_room way f held g (omega (arith, h, (own_entries way f g).batches)) in (sym c.0, sym c.1)

  -- and otherwise it is granted
  module _ (g : (checked_of way f).answer ≡ Ok tt) (h : 2 * length (view_of way f).batches ≤ length held) where
    pub check_done : ((check_of way f held).gives ≡ checked_of way f) × ((check_of way f held).leaves ≡ in_front (rows_of (view_of way f)) held)
    check_done = let c = listed way f held g (omega (arith, h, (own_entries way f g).batches)) in (sym c.0, sym c.1)

  given_answer : (a : Answer) (c : Checked) → (a ≡ Ok tt → c.answer ≡ Ok tt) → (given a c).answer ≡ a
  given_answer (Ok _) c h = h refl
  given_answer (Err r) c h = refl

  answer_is : (check_of way f held).gives.answer ≡ check_answer way f held
  answer_is = given_answer (check_answer way f held) (checked_of way f) λ e. (then_granted (checked_of way f).answer _ e).0

  pub check_exactly : ((check_of way f held).gives.answer ≡ Ok tt) ↔ (((checked_of way f).answer ≡ Ok tt) × (2 * length (view_of way f).batches ≤ length held))
  check_exactly = (
    λ e.
        let a = then_granted (checked_of way f).answer _ (sym answer_is ∙ e) in
        let b = demand_granted (leb (2 * length (view_of way f).batches) (length held)) _ (Ok tt) a.1 in
        (a.0, leb-true (2 * length (view_of way f).batches) (length held) b.0),
    λ h. ap (λ c. c.answer) (check_done h.0 h.1).0 ∙ h.0,
  )

  pub check_gives : (check_of way f held).gives.answer ≡ Ok tt → (check_of way f held).gives ≡ checked_of way f
  check_gives e = let h = check_exactly.0 e in (check_done h.0 h.1).0

  -- a refusal gives no numbers and leaves the list
  pub check_leaves : (x : Refusal) → (check_of way f held).gives.answer ≡ Err x
      → ((check_of way f held).gives ≡ refused x.fault x.record.0 x.field) × ((check_of way f held).leaves ≡ held)
  check_leaves x e =
      let a = sym answer_is ∙ e in
      (ap (λ y. given y (checked_of way f)) a, ap (λ y. relisted y (view_of way f) held) a)
