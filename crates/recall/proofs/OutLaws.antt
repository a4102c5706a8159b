-- What taking out answers, test by test, and what it gives and leaves for each answer.
-- Assumes nothing.
use Rattle.std.specs.Prelude.{Ok}
use Prim.Native.Nat.{ℕ, ◌+◌, ◌-◌, ◌*◌, ◌≤◌, ◌<◌}
use native.Mathlib.Omega.{arith}
use mathlib.Core.Path.{◌≡◌, refl, sym, ap, ap₂, ◌∙◌}
use mathlib.Core.Bool.{true, false}
use mathlib.Core.List.{List, [], ◌++◌, map}
use borrow.Author.Tests.{le-leb, lt-leb}
use lib.Dec.{leb}
use lib.ListN.{length, take, replicate}
use lib.Seq.{take-append_seam}
use Rattle.text.specs.Rows.{joined}
use Rattle.layout.specs.Answers.{Checked}
use Rattle.layout.specs.declared.Fault.{Fault}
use Rattle.layout.specs.Answers.{Made}
use Rattle.layout.specs.declared.Way.{Way}
use Rattle.check_record.specs.Record.{checked_of}
use Rattle.view.specs.View.{closed_by, entries_of, file_of, view_of}
use Rattle.layout.specs.Paper.{refusal}
use Rattle.view_laws.proofs.BridgeSums.{file_sums, body_length}
use Rattle.view_laws.proofs.Bridge.{accepted_gives}
use Rattle.funds.specs.Funds.{rows_of, in_front}
use Rattle.funds.specs.Outcome.{Listed}
use Rattle.funds.proofs.RowLaws.{rows_long}
use Rattle.recall_view.specs.RecallView.{named, all_exist, without, take_out_answer, take_out_of}
use Rattle.recall_view.proofs.TakenOut.{Removable, take_out_exactly, told, result_accepted, result_view}
use Rattle.recall_close.specs.WorkMoving.{gone}
use Rattle.recall_close.specs.WorkReady.{Walkable, closed_up}
use Rattle.recall.specs.WorkReady.{AcceptedAs}
use Rattle.recall.proofs.LeftLaws.{left_whole}
use Rattle.recall_close.proofs.CloseLaws.{old_few}

-- ---- what the check gave

module _ (way : Way) (f : List ℕ) (checked : Checked) (known : AcceptedAs way f checked) where
  pub accepted : (checked_of way f).answer ≡ Ok tt
  accepted = ap (λ (c : Checked). c.answer) (sym known.told) ∙ known.granted

  pub entries_told : length (entries_of (view_of way f)) ≡ checked.entries
  entries_told = sym (ap (λ (c : Checked). c.entries) (known.told ∙ accepted_gives way f accepted) ∙ (file_sums (view_of way f)).entries)

  pub body_told : Walkable way f (1 + 2 * checked.batches + checked.entries + checked.addenda)
  body_told =
      let v = view_of way f in
      let c = known.told ∙ accepted_gives way f accepted in
      let sums = file_sums v in
      record {
        accepted = accepted;
        counted =
            ap (λ (x : Checked). 1 + 2 * x.batches + x.entries + x.addenda) c
            ∙ omega (arith, sums.batches, sums.count, body_length v);
      }

  pub told_few : 1 + 2 * checked.batches + checked.entries + checked.addenda < 1000000
  told_few = omega (arith, old_few way [] f _ body_told)

-- ---- the answer, test by test

module _ (way : Way) (f ns : List ℕ) (n : ℕ) where
  module _ (g : (checked_of way f).answer ≡ Ok tt) where
    pub asked_missing : all_exist (view_of way f) ns ≡ false → refusal Fault.NoEntry 0 0 ≡ take_out_answer way f ns n
    asked_missing a = rw (g, a) refl

    module _ (a : all_exist (view_of way f) ns ≡ true) where
      pub asked_none : leb 1 (length (entries_of (without (view_of way f) ns))) ≡ false → refusal Fault.NoneLeft 0 0 ≡ take_out_answer way f ns n
      asked_none b = rw (g, a, b) refl

      module _ (b : leb 1 (length (entries_of (without (view_of way f) ns))) ≡ true) (count : ℕ) (many : count ≡ length (without (view_of way f) ns).batches) where
        pub asked_short : n < 2 * count → refusal Fault.Room 0 0 ≡ take_out_answer way f ns n
        asked_short h = rw (g, a, b, lt-leb (2 * length (without (view_of way f) ns).batches) n (omega (arith, h, many))) refl

        pub asked_granted : 2 * count ≤ n → (Ok tt) ≡ take_out_answer way f ns n
        asked_granted h = rw (g, a, b, le-leb (2 * length (without (view_of way f) ns).batches) n (omega (arith, h, many))) refl

-- ---- what it gives and leaves for each answer

-- what is given, and the file and the list as they are left
abbrev pub Outs : Listed Made → Made → List ℕ → List ℕ → Type 0
Outs o r file rows = (r ≡ o.gives) × (file ≡ o.leaves) × (rows ≡ o.rows)

module _ (way : Way) (f ns held : List ℕ) where
  module _ (e : take_out_answer way f ns (length held) ≡ Ok tt) where
    may : Removable way f ns held
    may = (take_out_exactly way f ns held).0 (told way f ns held ∙ e)

    -- what stands in front is accepted, and its list has room
    module _ (new : List ℕ) (p : new ≡ file_of way (without (view_of way f) ns)) where
      pub new_accepted : (checked_of way new).answer ≡ Ok tt
      new_accepted = ap (λ x. (checked_of way x).answer) p ∙ result_accepted way f ns may.accepted may.left

      says : view_of way new ≡ without (view_of way f) ns
      says = ap (view_of way) p ∙ result_view way f ns may.accepted

      pub new_room : length (rows_of (view_of way new)) ≤ length held
      new_room = omega (arith, ap (λ v. length (rows_of v)) says ∙ rows_long (without (view_of way f) ns), may.room)

      pub out_granted : (size : ℕ) (file rows : List ℕ) → size ≡ length new → file ≡ new ++ replicate (length f - size) 32 → rows ≡ in_front (rows_of (view_of way new)) held
          → Outs (take_out_of way f ns held) (record { answer = Ok tt; length = size }) file rows
      out_granted size file rows s q l =
          rw e (
            ap (λ n. record { answer = Ok tt; length = n }) (s ∙ ap length p),
            q ∙ ap₂ (λ x n. x ++ replicate (length f - n) 32) p (s ∙ ap length p),
            l ∙ ap (λ v. in_front (rows_of v) held) says,
          )

-- the file that was closed up is the new one
pub closed_new : (way : Way) (flags f ns : List ℕ) → ((k : ℕ) → gone flags k ≡ named k ns) → closed_up way flags f ≡ file_of way (without (view_of way f) ns)
closed_new way flags f ns same = ap (λ rs. joined (map (closed_by way) rs)) (left_whole flags ns same (view_of way f))

-- it stands in front of the blanks: as the code cuts it out
module _ (way : Way) (flags f ns file : List ℕ) (size : ℕ) (same : (k : ℕ) → gone flags k ≡ named k ns) (s : size ≡ length (closed_up way flags f)) (p : file ≡ closed_up way flags f ++ replicate (length f - size) 32) where
  front : take size file ≡ closed_up way flags f
  front = ap₂ take s p ∙ take-append_seam (closed_up way flags f) (replicate (length f - size) 32)

  pub front_new : take size file ≡ file_of way (without (view_of way f) ns)
  front_new = front ∙ closed_new way flags f ns same

  pub front_long : size ≡ length (take size file)
  front_long = s ∙ ap length (sym front)

  pub front_blanks : file ≡ take size file ++ replicate (length f - size) 32
  front_blanks = p ∙ ap (λ x. x ++ replicate (length f - size) 32) (sym front)
