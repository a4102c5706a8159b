-- An alteration is an exchange on the entry's side.
-- Assumes nothing but what a statement says.
use Rattle.std.specs.Prelude.{Ok, Err}
use mathlib.Core.Path.{◌≡◌, refl, sym, ap, ap₂, ◌∙◌}
use mathlib.Core.Bool.{Bool, true, false}
use mathlib.Core.List.{List, []}
use Prim.Native.Nat.{ℕ, ◌+◌, ◌-◌, ◌*◌, ◌≤◌, ◌<◌}
use native.Mathlib.Omega.{arith}
use borrow.Author.Tests.{leb-true, le-leb, eqb-true}
use lib.Dec.{leb, lit<, lit≤}
use lib.IntN.{pos, ◌-ℤ◌}
use lib.ListN.{length, get_or, take, drop}
use lib.Seq.{sets}
use Rattle.text.specs.Decimal.{value, render}
use Rattle.text.proofs.DecimalLaws.{and_both, both_and, value_render_lt}
use Rattle.layout.specs.Answers.{Answer}
use Rattle.layout.specs.declared.Fault.{Fault}
use Rattle.layout.specs.declared.Refusal.{Refusal}
use Rattle.check_codes.specs.declared.Use.{Use}
use Rattle.check_codes.specs.declared.Code.{Code}
use Rattle.check_codes.specs.Codes.{code_of, carries, use_carries}
use Rattle.check_across.specs.Across.{entry_code, entry_amount}
use Rattle.check_field.specs.Field.{total_limit}
use Rattle.check_record.specs.Record.{columns_in, checked_of}
use Rattle.view.specs.View.{Entry, entries_of, sum_over, debit_of, credit_of, amount_of, code_in, batch_control_record, file_of, view_of}
use Rattle.view.specs.Sized.{Sized}
use Rattle.view.specs.Outcome.{demand, and_then, exists, entry_at, spot_of, entry_number, batch_control_number, file_control_number, amend, limits, addendum_answer, alter_answer, altered, alter_of}
use Rattle.layout.specs.Paper.{refusal}
use Rattle.view_laws.proofs.Formed.{BatchControlFields, batch_control_fields}
use Rattle.view_laws.proofs.Amend.{spot_sized, batch_moved, file_moved, debit_moved, credit_moved}
use Rattle.view_laws.proofs.AmendFile.{file_amended_debit, file_amended_credit}
use Rattle.view_laws.proofs.Bridge.{accepted_view}
use Rattle.view_laws.proofs.Own.{own_entries}
use Rattle.find_entry.specs.declared.find.Places.{Places}
use Rattle.alter.specs.declared.sides.Side.{Side}
use Rattle.layout.specs.declared.Way.{Way}
use Rattle.layout.specs.Ways.{record_bytes}
use Rattle.find_entry.specs.WorkThere.{There, Found}
use Rattle.alter.specs.WorkSides.{debit_side, credit_side, batch_total, side_put, side_outcome, Ready}
use Rattle.find_entry.proofs.Places.{batch_part_lem}
use Rattle.find_entry.proofs.Accepted.{entry_text, found_entry, total_text, few_records}
use Rattle.alter.proofs.ExchangeLaws.{Comes, comes_refused}

-- ---- the answer

-- the file's refusals and 25 come before everything else
asked_first : (a : Answer) (t : Bool) (none more : Answer) (r : Refusal) → and_then a (demand t none (Ok tt)) ≡ Err r → and_then a (demand t none more) ≡ Err r
asked_first (Ok _) true none more r e = cc
asked_first (Ok _) false none more r e = e
asked_first (Err x) t none more r e = e

pub refused_first : (way : Way) (f : List ℕ) (k amount : ℕ) (r : Refusal) → addendum_answer way f k ≡ Err r → Comes (Err r) (pos 0) f (alter_of way f k amount)
refused_first way f k amount r e = comes_refused _ _ f _ r (asked_first (checked_of way f).answer (exists (view_of way f) k) _ _ r e)

pub asked_granted : (a : Answer) (t : Bool) (none more : Answer) → a ≡ Ok tt → t ≡ true → and_then a (demand t none more) ≡ more
asked_granted a t none more e h = rw (e, h)

-- an amount that a code carries has ten digits
use_small : (u : Use) (amount : ℕ) → use_carries u amount ≡ true → amount < 10000000000
use_small Use.Live amount e = omega (arith, leb-true amount 9999999999 (and_both (leb 1 amount) (leb amount 9999999999) e).1)
use_small Use.Prenote amount e = omega (arith, eqb-true amount 0 e)
use_small Use.Remittance amount e = omega (arith, eqb-true amount 0 e)

-- ---- one side

-- an amount put in: the totals of g in the batch and in the file lose the old amount and gain the new one
abbrev Moves : Way → List ℕ → ℕ → ℕ → (Entry → ℕ) → Type 0
Moves way f k amount g =
    (sum_over g (spot_of (amend (view_of way f) k amount) k).batch.entries + amount_of (entry_at (view_of way f) k) ≡ sum_over g (spot_of (view_of way f) k).batch.entries + amount)
    × (sum_over g (entries_of (amend (view_of way f) k amount)) + amount_of (entry_at (view_of way f) k) ≡ sum_over g (entries_of (view_of way f)) + amount)

-- the altered file, by three texts put into the old one
abbrev Puts : Way → List ℕ → ℕ → ℕ → Side → (Entry → ℕ) → Type 0
Puts way f k amount s g =
    file_of way (amend (view_of way f) k amount)
    ≡ sets (sets (sets (file_of way (view_of way f))
    (record_bytes way * (entry_number (spot_of (view_of way f) k) - 1) + 29) (render 10 amount))
    (record_bytes way * (batch_control_number (spot_of (view_of way f) k) - 1) + s.batchat) (render 12 (sum_over g (spot_of (amend (view_of way f) k amount) k).batch.entries)))
    (record_bytes way * (file_control_number (view_of way f) - 1) + s.fileat) (render 12 (sum_over g (entries_of (amend (view_of way f) k amount))))

-- what an alteration relies on of the side that sums g: the batch's total is written in its control, the old amount is in both totals and
-- moves out of them, and three texts change
record Sided (way : Way) (f : List ℕ) (k amount : ℕ) (p : Places) (s : Side) (g : Entry → ℕ) : Type 0 where
  batchat : s.batchat + 12 ≤ 94
  fileat : s.fileat + 12 ≤ 94
  text : batch_total way f p s ≡ sum_over g (spot_of (view_of way f) k).batch.entries
  inbatch : amount_of (entry_at (view_of way f) k) ≤ sum_over g (spot_of (view_of way f) k).batch.entries
  most : sum_over g (entries_of (view_of way f)) ≤ total_limit
  inpart : sum_over g (spot_of (view_of way f) k).batch.entries ≤ sum_over g (entries_of (view_of way f))
  moves : Moves way f k amount g
  put : Puts way f k amount s g

-- the same three texts, by equal numbers
three_same : {f g : List ℕ} {a a' b b' c c' y y' z z' : ℕ} (x : ℕ) → f ≡ g → a ≡ a' → b ≡ b' → c ≡ c' → y ≡ y' → z ≡ z'
    → sets (sets (sets f a (render 10 x)) b (render 12 y)) c (render 12 z) ≡ sets (sets (sets g a' (render 10 x)) b' (render 12 y')) c' (render 12 z')
three_same x ef ea eb ec ey ez = rw (ef, ea, eb, ec, ey, ez)

-- the two limits: of new totals y and z, at records m and n
abbrev tried : ℕ → ℕ → ℕ → ℕ → Side → Answer
tried y z m n s =
    demand (leb y total_limit) (refusal Fault.Limit m s.batchfield) (demand (leb z total_limit) (refusal Fault.Limit n s.filefield) (Ok tt))

tried_same : {y y' m m' n n' : ℕ} (z : ℕ) (s : Side) → y ≡ y' → m ≡ m' → n ≡ n' → tried y z m n s ≡ tried y' z m' n' s
tried_same z s ey em en = rw (ey, em, en)

module _ (way : Way) (f : List ℕ) (k amount : ℕ) (t : There way f k) (p : Places) (at : Found way f k p) where
  -- code and amount, as they are read
  code_read : code_of (entry_code (get_or (columns_in way f) p.entry [])) ≡ code_of (code_in (entry_at (view_of way f) k))
  code_read = ap (λ r. code_of (entry_code r)) (entry_text way f k t p.entry (found_entry way f k t p at))

  amount_read : entry_amount (get_or (columns_in way f) p.entry []) ≡ amount_of (entry_at (view_of way f) k)
  amount_read = ap entry_amount (entry_text way f k t p.entry (found_entry way f k t p at))

  -- 14 comes next, and then the limits
  there_answer : (b : Bool) (code : Code) → code_of (code_in (entry_at (view_of way f) k)) ≡ code → carries code amount ≡ b
      → alter_answer way f k amount
      ≡ demand b (refusal Fault.Amount (entry_number (spot_of (view_of way f) k)) 6) (limits (view_of way f) (spot_of (view_of way f) k) code (amount_of (entry_at (view_of way f) k)) amount)
  there_answer b code c h =
      let w = view_of way f in
      asked_granted (checked_of way f).answer (exists w k) _ _ t.accepted (both_and (le-leb 1 k t.first) (le-leb k (length (entries_of w)) t.last))
      ∙ ap (λ x. demand (carries x amount) (refusal Fault.Amount (entry_number (spot_of w k)) 6) (limits w (spot_of w k) x (amount_of (entry_at w k)) amount)) c
      ∙ ap (λ x. demand x (refusal Fault.Amount (entry_number (spot_of w k)) 6) (limits w (spot_of w k) code (amount_of (entry_at w k)) amount)) h

  pub amount_refused : (code : Code) → code ≡ code_of (entry_code (get_or (columns_in way f) p.entry [])) → carries code amount ≡ false
      → Comes (refusal Fault.Amount (p.entry + 1) 6) (pos 0) f (alter_of way f k amount)
  amount_refused code c h =
      comes_refused _ _ f _ _ (there_answer false code (sym (c ∙ code_read)) h ∙ ap (λ n. refusal Fault.Amount n 6) (sym at.entry))

  module _ (s : Side) (g : Entry → ℕ) (d : Sided way f k amount p s g) where
    side_ready : amount < 10000000000 → Ready way f p s (sum_over g (entries_of (view_of way f))) (amount_of (entry_at (view_of way f) k)) amount
    side_ready h =
        record {
          ordered = record { first = at.first; second = at.second; inside = at.inside; batchat = d.batchat; fileat = d.fileat };
          few = few_records way f k t p at;
          inbatch = omega (arith, d.text, d.inbatch);
          batch = omega (arith, d.text, d.inpart, d.most);
          intotal = omega (arith, d.inbatch, d.inpart);
          whole = d.most;
          new = h;
        }

    same : (n i o : ℕ) → i + 1 ≡ n → record_bytes way * (n - 1) + o ≡ record_bytes way * i + o
    same n i o e = let less : n - 1 ≡ i = omega (arith, e) in rw less

    side_put_lem : side_put way f p s amount (batch_total way f p s - amount_of (entry_at (view_of way f) k) + amount) (sum_over g (entries_of (view_of way f)) - amount_of (entry_at (view_of way f) k) + amount)
        ≡ file_of way (amend (view_of way f) k amount)
    side_put_lem =
        sym (d.put ∙ three_same amount (sym (accepted_view way f t.accepted).form) (same (entry_number (spot_of (view_of way f) k)) p.entry 29 at.entry) (same (batch_control_number (spot_of (view_of way f) k)) p.control s.batchat at.control) (same (file_control_number (view_of way f)) p.last s.fileat at.last)
        (omega (arith, d.moves.0, d.text, d.inbatch)) (omega (arith, d.moves.1, d.inbatch, d.inpart)))

    side_alters : (code : Code) → code_of (code_in (entry_at (view_of way f) k)) ≡ code → carries code amount ≡ true
        → limits (view_of way f) (spot_of (view_of way f) k) code (amount_of (entry_at (view_of way f) k)) amount
        ≡ tried (sum_over g (spot_of (view_of way f) k).batch.entries - amount_of (entry_at (view_of way f) k) + amount) (sum_over g (entries_of (view_of way f)) - amount_of (entry_at (view_of way f) k) + amount)
        (batch_control_number (spot_of (view_of way f) k)) (file_control_number (view_of way f)) s
        → side_outcome way f p s (sum_over g (entries_of (view_of way f))) (amount_of (entry_at (view_of way f) k)) amount ≡ alter_of way f k amount
    side_alters code c h l =
        ap₂ (λ x y. altered x (pos amount -ℤ pos (amount_of (entry_at (view_of way f) k))) y f)
        (tried_same (sum_over g (entries_of (view_of way f)) - amount_of (entry_at (view_of way f) k) + amount) s (ap (λ n. n - amount_of (entry_at (view_of way f) k) + amount) d.text) at.control at.last ∙ sym (there_answer true code c h ∙ l)) side_put_lem

  -- ---- the two sides

  sized : Sized (view_of way f)
  sized = (accepted_view way f t.accepted).sized

  controls : BatchControlFields (spot_of (view_of way f) k).batch
  controls = batch_control_fields (spot_of (view_of way f) k).batch (spot_sized (view_of way f) k 0 sized t.first t.last (lit< tt)).long

  -- one side that sums g: its total is a field of the batch's control, and an amount put in moves in the batch and in the file
  sided : (s : Side) (g : Entry → ℕ) → s.batchat + 12 ≤ 94 → s.fileat + 12 ≤ 94 → sum_over g (entries_of (view_of way f)) ≤ total_limit
      → take 12 (drop s.batchat (batch_control_record (spot_of (view_of way f) k).batch)) ≡ render 12 (sum_over g (spot_of (view_of way f) k).batch.entries)
      → ((a : ℕ) → a < 10000000000 → Moves way f k a g) → Puts way f k amount s g → amount < 10000000000 → Sided way f k amount p s g
  sided s g batchat fileat most control moves put h =
      let w = view_of way f in
      let inpart = batch_part_lem w k t.first t.last g in
      record {
        batchat = batchat;
        fileat = fileat;
        text = ap value (total_text way f k t p at s.batchat batchat ∙ control) ∙ value_render_lt 12 (sum_over g (spot_of w k).batch.entries) (omega (arith, inpart, most));
        inbatch = omega (arith, (moves 0 (lit< tt)).0);
        most = most;
        inpart = inpart;
        moves = moves amount h;
        put = put;
      }

  debit_sided : (u : Use) → code_of (code_in (entry_at (view_of way f) k)) ≡ Code.Debit u → amount < 10000000000 → Sided way f k amount p debit_side debit_of
  debit_sided u c h =
      let w = view_of way f in
      sided debit_side debit_of (lit≤ tt) (lit≤ tt) (accepted_view way f t.accepted).keeps.within.debit controls.debit
      (λ a g. ((debit_moved (batch_moved w k a sized t.first t.last g) u c).0, (debit_moved (file_moved w k a sized t.first t.last g) u c).0))
      (file_amended_debit w k amount sized t.first t.last h way u c) h

  credit_sided : (u : Use) → code_of (code_in (entry_at (view_of way f) k)) ≡ Code.Credit u → amount < 10000000000 → Sided way f k amount p credit_side credit_of
  credit_sided u c h =
      let w = view_of way f in
      sided credit_side credit_of (lit≤ tt) (lit≤ tt) (accepted_view way f t.accepted).keeps.within.credit controls.credit
      (λ a g. ((credit_moved (batch_moved w k a sized t.first t.last g) u c).1, (credit_moved (file_moved w k a sized t.first t.last g) u c).1))
      (file_amended_credit w k amount sized t.first t.last h way u c) h

  -- an amount that the code carries is exchanged on the code's side: that can be done, and is the alteration
  abbrev pub Alters : Side → ℕ → ℕ → Type 0
  Alters s total old = Ready way f p s total old amount × (side_outcome way f p s total old amount ≡ alter_of way f k amount)

  module _ (code : Code) (s : Side) (total old : ℕ) (u : Use) (c : code ≡ code_of (entry_code (get_or (columns_in way f) p.entry [])))
      (o : old ≡ entry_amount (get_or (columns_in way f) p.entry [])) (carried : carries code amount ≡ true) where
    pub debit_alters : code ≡ Code.Debit u → s ≡ debit_side → total ≡ (checked_of way f).debit → Alters s total old
    debit_alters e i n =
        let told : code_of (code_in (entry_at (view_of way f) k)) ≡ Code.Debit u = sym (c ∙ code_read) ∙ e in
        let can : carries (Code.Debit u) amount ≡ true = ap (λ x. carries x amount) (sym e) ∙ carried in
        let d = debit_sided u told (use_small u amount can) in
        rw (i, n ∙ (own_entries way f t.accepted).debit, o ∙ amount_read)
        (side_ready debit_side debit_of d (use_small u amount can), side_alters debit_side debit_of d (Code.Debit u) told can refl)

    pub credit_alters : code ≡ Code.Credit u → s ≡ credit_side → total ≡ (checked_of way f).credit → Alters s total old
    credit_alters e i n =
        let told : code_of (code_in (entry_at (view_of way f) k)) ≡ Code.Credit u = sym (c ∙ code_read) ∙ e in
        let can : carries (Code.Credit u) amount ≡ true = ap (λ x. carries x amount) (sym e) ∙ carried in
        let d = credit_sided u told (use_small u amount can) in
        rw (i, n ∙ (own_entries way f t.accepted).credit, o ∙ amount_read)
        (side_ready credit_side credit_of d (use_small u amount can), side_alters credit_side credit_of d (Code.Credit u) told can refl)
