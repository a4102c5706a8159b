-- Altering one amount, for any bytes, entry number and amount: when it is granted, and what it leaves.
-- Assumes nothing; what a grant leaves is told of granted calls.
use Rattle.std.specs.Prelude.{Ok, Err}
use Rattle.std.specs.Bool.{Decides}
use Rattle.std.proofs.lemmas.Bool.Decides.{same_from_decides}
use mathlib.Core.Path.{◌≡◌, refl, sym, ap, ◌∙◌}
use mathlib.Core.Logic.{◌↔◌}
use mathlib.Core.Bool.{Bool, true, ◌&&◌}
use mathlib.Core.List.{List, [], ◌∷◌, ◌++◌}
use Prim.Native.Nat.{ℕ, ◌+◌, ◌-◌, ◌^◌, ◌≤◌, ◌<◌}
use Rattle.std.proofs.Common.{rules}
use native.Mathlib.Omega.{arith}
use borrow.Author.Tests.{leb-true, le-leb}
use lib.Dec.{leb, lit≤}
use lib.IntN.{ℤ, pos, ◌-ℤ◌, +ℤ_invr}
use lib.ListN.{length, drop, get_or, set}
use lib.Seq.{sets, set-get_or}
use Rattle.text.specs.Decimal.{pick, value, render}
use Rattle.text.specs.Rows.{columns}
use Rattle.text.proofs.DecimalLaws.{and_both, both_and, render_value}
use Rattle.text.proofs.RowLaws.{length_columns}
use Rattle.text.proofs.SetLaws.{sets_same}
use Rattle.layout.specs.Answers.{Answer}
use Rattle.layout.specs.declared.Refusal.{Refusal}
use Rattle.layout.specs.Fields.{entry, batch_control, file_control, part}
use Rattle.check_codes.specs.declared.Use.{Use}
use Rattle.check_codes.specs.declared.Code.{Code}
use Rattle.check_codes.specs.Codes.{code_of, carries}
use Rattle.check_record.specs.Record.{checked_of}
use Rattle.view.specs.View.{Entry, View, entry_record, entries_of, amount_of, code_in, file_of, view_of}
use Rattle.view.specs.Table.{view_of_table, formed, table_of}
use Rattle.view.specs.Outcome.{demand, and_then, no_entry, entry_at, exists, spot_of, entry_number, batch_control_number, file_control_number, amended, amend_entry, amend, altered_table, limits, alter_answer, altered, alter_of}
use Rattle.view.specs.Sized.{SizedEntry, Sized}
use Rattle.view.specs.Keeps.{Keeps}
use Rattle.view.specs.Runs.{Alterable, is_granted, may_put, granted_table, table_run, alter_run}
use Rattle.view_laws.proofs.Lists.{all_at}
use Rattle.view_laws.proofs.Tables.{entries_sized, view_of_table_lem, formed_of_table, table_of_file}
use Rattle.view_laws.proofs.Amend.{amend_entry_lem, amended_record, amend_sized, table_amended, stands}
use Rattle.view_laws.proofs.AmendFile.{field_at, Outside, file_length_amended, bytes_stay, bytes_stay_debit, bytes_stay_credit}
use Rattle.view_laws.proofs.AmendKeeps.{carried_few, amount_carried, AmountRight, amounts_right, amend_keeps}
use Rattle.view_laws.proofs.Bridge.{granted, accepted_view, keeps_exactly}
use Rattle.view_laws.proofs.RoundTrips.{file_back}
use Rattle.layout.specs.declared.Way.{Way}

-- ---- when it is granted

-- the answer of an outcome is the one that it was made of
answered : (x : Answer) (d : ℤ) (result f : List ℕ) → (altered x d result f).gives.answer ≡ x
answered x d result f = search rules

all_granted : (x l : Answer) (t u : Bool) (p q : Refusal)
    → (and_then x (demand t (Err p) (demand u (Err q) l)) ≡ Ok tt) ↔ ((x ≡ Ok tt) × (t ≡ true) × (u ≡ true) × (l ≡ Ok tt))
all_granted x l t u p q = search rules

-- there is such an entry
between : (v : View) (k : ℕ) → exists v k ≡ true → (1 ≤ k) × (k ≤ length (entries_of v))
between v k e = let b = and_both (leb 1 k) (leb k (length (entries_of v))) e in (leb-true 1 k b.0, leb-true k (length (entries_of v)) b.1)

-- the table with the amount put in forms the file of the view with the amount put in
formed_amended : (way : Way) (v : View) (k a : ℕ) → Sized v → exists v k ≡ true → a < 10 ^ 10 → formed way (altered_table (table_of way (file_of way v)) k a) ≡ file_of way (amend v k a)
formed_amended way v k a s x few =
    let b = between v k x in
    ap (λ t. formed way (altered_table t k a)) (table_of_file way v s) ∙ ap (formed way) (table_amended v k a s b.0 b.1 few) ∙ formed_of_table way (amend v k a) (amend_sized v k a s b.0 b.1 few)

module _ (way : Way) (f : List ℕ) (k a : ℕ) where
  abbrev v : View
  v = view_of way f

  -- of an accepted file the one is the other
  afresh : (checked_of way f).answer ≡ Ok tt → exists v k ≡ true → a < 10 ^ 10 → formed way (altered_table (table_of way f) k a) ≡ file_of way (amend v k a)
  afresh g x few =
      let p = accepted_view way f g in
      ap (λ y. formed way (altered_table (table_of way y) k a)) p.form ∙ formed_amended way v k a p.sized x few

  -- every test of a granted call held
  held : (alter_of way f k a).gives.answer ≡ Ok tt
      → ((checked_of way f).answer ≡ Ok tt) × (exists v k ≡ true) × (carries (code_of (code_in (entry_at v k))) a ≡ true)
      × (limits v (spot_of v k) (code_of (code_in (entry_at v k))) (amount_of (entry_at v k)) a ≡ Ok tt)
  held e = (all_granted (checked_of way f).answer _ (exists v k) (carries (code_of (code_in (entry_at v k))) a) _ _).0 (sym (answered (alter_answer way f k a) _ (file_of way (amend v k a)) f) ∙ e)

  -- granted exactly if the file is accepted, the entry is there, and the file written afresh with the amount is accepted
  pub alter_exactly : ((alter_of way f k a).gives.answer ≡ Ok tt) ↔ Alterable way f k a
  alter_exactly =
      let c = code_of (code_in (entry_at v k)) in (
        λ e.
            let h = held e in
            let few = carried_few c a h.2 in
            let p = accepted_view way f h.0 in
            let b = between v k h.1 in
            record {
              accepted = h.0;
              entry = h.1;
              digits = omega arith;
              afresh =
                  rw (afresh h.0 h.1 few)
                  (granted way (amend v k a) (amend_sized v k a p.sized b.0 b.1 few) ((amend_keeps v k a p.sized p.keeps b.0 b.1 few).1 (h.2, h.3)));
            },
        λ h.
            let few : a < 10 ^ 10 = omega (arith, h.digits) in
            let p = accepted_view way f h.accepted in
            let b = between v k h.entry in
            let keeps = (keeps_exactly way (amend v k a) (amend_sized v k a p.sized b.0 b.1 few)).0 (rw (afresh h.accepted h.entry few) at h.afresh) in
            let r = (amend_keeps v k a p.sized p.keeps b.0 b.1 few).0 keeps in
            answered (alter_answer way f k a) _ (file_of way (amend v k a)) f ∙ (all_granted (checked_of way f).answer _ (exists v k) (carries c a) _ _).1 (h.accepted, h.entry, r.0, r.1),
      )

-- two amounts that a code carries lie less than 9,999,999,999 apart
carried_near : (c : Code) (x y : ℕ) → carries c x ≡ true → carries c y ≡ true → (x ≤ y + 9999999998) × (y ≤ x + 9999999998)
carried_near c x y p q = search rules

-- ---- what it leaves

-- a grant leaves the result and gives the difference; a refusal leaves the file and gives 0
granted_leaves : (x : Answer) (d : ℤ) (result f : List ℕ) → (altered x d result f).gives.answer ≡ Ok tt
    → ((altered x d result f).leaves ≡ result) × ((altered x d result f).gives.difference ≡ d)
granted_leaves x d result f e = search rules

refused_leaves : (x : Answer) (d : ℤ) (result f : List ℕ) (r : Refusal) → (altered x d result f).gives.answer ≡ Err r
    → ((altered x d result f).leaves ≡ f) × ((altered x d result f).gives.difference ≡ pos 0)
refused_leaves x d result f r e = search rules

-- "every refusal leaves lent memory untouched", and its difference is 0
pub alter_refused : (way : Way) (f : List ℕ) (k a : ℕ) (r : Refusal) → (alter_of way f k a).gives.answer ≡ Err r
    → ((alter_of way f k a).leaves ≡ f) × ((alter_of way f k a).gives.difference ≡ pos 0)
alter_refused way f k a r e = refused_leaves (alter_answer way f k a) _ (file_of way (amend (view_of way f) k a)) f r e

module _ (way : Way) (f : List ℕ) (k a : ℕ) (e : (alter_of way f k a).gives.answer ≡ Ok tt) where
  may : Alterable way f k a
  may = (alter_exactly way f k a).0 e

  few : a < 10 ^ 10
  few = omega (arith, may.digits)

  sized : Sized (view_of way f)
  sized = (accepted_view way f may.accepted).sized

  form : f ≡ file_of way (view_of way f)
  form = (accepted_view way f may.accepted).form

  there : (1 ≤ k) × (k ≤ length (entries_of (view_of way f)))
  there = between (view_of way f) k may.entry

  leaves : (alter_of way f k a).leaves ≡ file_of way (amend (view_of way f) k a)
  leaves = (granted_leaves (alter_answer way f k a) _ (file_of way (amend (view_of way f) k a)) f e).0

  -- it leaves the file that is written afresh from the table with the amount put in
  pub alter_leaves : (alter_of way f k a).leaves ≡ formed way (altered_table (table_of way f) k a)
  alter_leaves = leaves ∙ sym (afresh way f k a may.accepted may.entry few)

  -- that file is accepted
  pub alter_accepted : (checked_of way (alter_of way f k a).leaves).answer ≡ Ok tt
  alter_accepted = ap (λ x. (checked_of way x).answer) alter_leaves ∙ may.afresh

  -- its table is the old one with the amount put in
  pub alter_table : table_of way (alter_of way f k a).leaves ≡ altered_table (table_of way f) k a
  alter_table =
      let v = view_of way f in
      ap (table_of way) leaves ∙ table_of_file way (amend v k a) (amend_sized v k a sized there.0 there.1 few)
      ∙ sym (table_amended v k a sized there.0 there.1 few)

  -- and it is as long as before
  pub alter_length : length (alter_of way f k a).leaves ≡ length f
  alter_length = ap length leaves ∙ file_length_amended (view_of way f) k a sized there.0 there.1 few way ∙ ap length (sym form)

  -- "the new amount less the old, in cents"
  pub alter_difference : (alter_of way f k a).gives.difference ≡ pos a -ℤ pos (amount_of (entry_at (view_of way f) k))
  alter_difference = (granted_leaves (alter_answer way f k a) _ (file_of way (amend (view_of way f) k a)) f e).1

  -- from -9,999,999,998 to 9,999,999,998: a live code's amounts are at least 1, and a prenote has but the one
  pub alter_range : (amount_of (entry_at (view_of way f) k) ≤ a + 9999999998) × (a ≤ amount_of (entry_at (view_of way f) k) + 9999999998)
  alter_range =
      let v = view_of way f in
      let r = entry_record (entry_at v k) in
      let p = accepted_view way f may.accepted in
      let c = code_of (code_in (entry_at v k)) in
      let old = (amount_carried r (part entry 6 r) (all_at AmountRight (entries_of v) (k - 1) no_entry (amounts_right 0 v.batches p.keeps.batches) (omega (arith, there.0, there.1)))).1 in
      carried_near c (amount_of (entry_at v k)) a old (held way f k a e).2

  same_byte : (p : ℕ) → get_or (file_of way (amend (view_of way f) k a)) p 0 ≡ get_or (file_of way (view_of way f)) p 0 → get_or (alter_of way f k a).leaves p 0 ≡ get_or f p 0
  same_byte p h = ap (λ x. get_or x p 0) leaves ∙ h ∙ ap (λ x. get_or x p 0) (sym form)

  -- every byte outside of the amount's ten columns and of the two totals of the two controls stays
  pub alter_bytes : (p : ℕ)
      → Outside p (field_at way entry 6 (entry_number (spot_of (view_of way f) k))) 10
      → Outside p (field_at way batch_control 5 (batch_control_number (spot_of (view_of way f) k))) 12
      → Outside p (field_at way batch_control 6 (batch_control_number (spot_of (view_of way f) k))) 12
      → Outside p (field_at way file_control 6 (file_control_number (view_of way f))) 12
      → Outside p (field_at way file_control 7 (file_control_number (view_of way f))) 12
      → get_or (alter_of way f k a).leaves p 0 ≡ get_or f p 0
  alter_bytes p o₁ o₂ o₃ o₄ o₅ = same_byte p (bytes_stay (view_of way f) k a sized there.0 there.1 few way p o₁ o₂ o₃ o₄ o₅)

  -- of a debit's totals the debits alone are written, of a credit's the credits alone
  pub alter_bytes_debit : (p : ℕ) (u : Use) → code_of (code_in (entry_at (view_of way f) k)) ≡ Code.Debit u
      → Outside p (field_at way entry 6 (entry_number (spot_of (view_of way f) k))) 10
      → Outside p (field_at way batch_control 5 (batch_control_number (spot_of (view_of way f) k))) 12
      → Outside p (field_at way file_control 6 (file_control_number (view_of way f))) 12
      → get_or (alter_of way f k a).leaves p 0 ≡ get_or f p 0
  alter_bytes_debit p u c o₁ o₂ o₃ = same_byte p (bytes_stay_debit (view_of way f) k a sized there.0 there.1 few way p u c o₁ o₂ o₃)

  pub alter_bytes_credit : (p : ℕ) (u : Use) → code_of (code_in (entry_at (view_of way f) k)) ≡ Code.Credit u
      → Outside p (field_at way entry 6 (entry_number (spot_of (view_of way f) k))) 10
      → Outside p (field_at way batch_control 6 (batch_control_number (spot_of (view_of way f) k))) 12
      → Outside p (field_at way file_control 7 (file_control_number (view_of way f))) 12
      → get_or (alter_of way f k a).leaves p 0 ≡ get_or f p 0
  alter_bytes_credit p u c o₁ o₂ o₃ = same_byte p (bytes_stay_credit (view_of way f) k a sized there.0 there.1 few way p u c o₁ o₂ o₃)

-- ---- the amount that stands there

-- an entry with its own amount put in is that entry
amended_same : (e : Entry) → length e.row ≡ 93 → AmountRight e → amended e (amount_of e) ≡ e
amended_same e l h =
    let r = entry_record e in
    let p = columns 30 39 r in
    let ten : length p ≡ 10 = length_columns 30 39 r (lit≤ tt) (omega arith) in
    let text : render 10 (value p) ≡ p = ap (λ w. render w (value p)) (sym ten) ∙ render_value p (amount_carried r p h).0 in
    ap (λ x. record { row = drop 1 x; addenda = e.addenda }) (amended_record e (amount_of e) ∙ ap (sets r 29) text ∙ sets_same r 29 10)

-- and so is a view
amend_same : (v : View) (k : ℕ) → Sized v → Keeps v → 1 ≤ k → k ≤ length (entries_of v) → amount_of (entry_at v k) < 10 ^ 10 → amend v k (amount_of (entry_at v k)) ≡ v
amend_same v k s keep first last few =
    let a = amount_of (entry_at v k) in
    let st = stands v k a s first last few in
    let long = (all_at SizedEntry (entries_of v) (k - 1) no_entry (entries_sized v.batches s.each) (omega arith)).long in
    let right = all_at AmountRight (entries_of v) (k - 1) no_entry (amounts_right 0 v.batches keep.batches) (omega arith) in
    let es = st.batch.entries in
    let e : amended (get_or es st.index no_entry) a ≡ get_or es st.index no_entry = rw (← st.entry) (amended_same (entry_at v k) long right) in
    let entries : amend_entry st.index a es ≡ es = amend_entry_lem es st.index a ∙ ap (set es st.index) e ∙ set-get_or es st.index no_entry in
    ap (λ bs. record { row = v.row; batches = bs })
    (st.are ∙ ap (λ x. st.before ++ (record { row = st.batch.row; entries = x } ∷ st.behind)) entries ∙ sym st.were)

same_outcome : (x : Answer) (d : ℤ) (result f : List ℕ) → x ≡ Ok tt → d ≡ pos 0 → result ≡ f
    → altered x d result f ≡ record { gives = record { answer = Ok tt; difference = pos 0 }; leaves = f }
same_outcome x d result f p q r = rw (p, q, r)

-- "Altering to the same amount: granted, difference 0, no byte changes"
pub alter_same : (way : Way) (f : List ℕ) (k : ℕ) → (checked_of way f).answer ≡ Ok tt → exists (view_of way f) k ≡ true
    → alter_of way f k (amount_of (entry_at (view_of way f) k)) ≡ record { gives = record { answer = Ok tt; difference = pos 0 }; leaves = f }
alter_same way f k g x =
    let v = view_of way f in
    let a = amount_of (entry_at v k) in
    let p = accepted_view way f g in
    let b = between v k x in
    let r = entry_record (entry_at v k) in
    let right = all_at AmountRight (entries_of v) (k - 1) no_entry (amounts_right 0 v.batches p.keeps.batches) (omega arith) in
    let few = carried_few (code_of (code_in (entry_at v k))) a (amount_carried r (part entry 6 r) right).1 in
    let file = ap (file_of way) (amend_same v k p.sized p.keeps b.0 b.1 few) ∙ sym p.form in
    let new = ap (λ y. (checked_of way y).answer) (afresh way f k a g x few ∙ file) ∙ g in
    let e = (alter_exactly way f k a).1 (record { accepted = g; entry = x; digits = omega arith; afresh = new }) in
    same_outcome (alter_answer way f k a) _ (file_of way (amend v k a)) f (sym (answered (alter_answer way f k a) _ (file_of way (amend v k a)) f) ∙ e) (+ℤ_invr (pos a)) file

-- ---- one call after another

-- the test of an answer
granted_lem : (x : Answer) → Decides (is_granted x) (x ≡ Ok tt)
granted_lem x = search rules

-- a call on an accepted file is granted exactly if its table may take the amount
pub may_put_lem : (way : Way) (f : List ℕ) (k a : ℕ) → (checked_of way f).answer ≡ Ok tt → is_granted (alter_of way f k a).gives.answer ≡ may_put way (table_of way f) k a
may_put_lem way f k a g =
    let t = table_of way f in
    let done = granted_lem (alter_of way f k a).gives.answer in
    let new = granted_lem (checked_of way (formed way (altered_table t k a))).answer in
    let view = ap (λ v. exists v k) (view_of_table_lem (view_of way f) (accepted_view way f g).sized) in
    same_from_decides {P = Alterable way f k a} (is_granted (alter_of way f k a).gives.answer) (may_put way t k a)
    (λ e. (alter_exactly way f k a).0 (done.0 e), λ h. done.1 ((alter_exactly way f k a).1 h)) (
      λ e.
          let b = and_both (exists (view_of_table t) k && leb a 9999999999) _ e in
          let c = and_both (exists (view_of_table t) k) (leb a 9999999999) b.0 in
          record { accepted = g; entry = sym view ∙ c.0; digits = leb-true a 9999999999 c.1; afresh = new.0 b.1 },
      λ h. both_and (both_and (view ∙ h.entry) (le-leb a 9999999999 h.digits)) (new.1 h.afresh),
    )

-- what it leaves is accepted, and has the table that took the amount, or did not
pub alter_step : (way : Way) (f : List ℕ) (k a : ℕ) → (checked_of way f).answer ≡ Ok tt
    → ((checked_of way (alter_of way f k a).leaves).answer ≡ Ok tt) × (table_of way (alter_of way f k a).leaves ≡ granted_table way (table_of way f) k a)
alter_step way f k a g = go (alter_of way f k a).gives.answer refl
  where
    taken : (x : Answer) → (alter_of way f k a).gives.answer ≡ x → pick (is_granted x) (altered_table (table_of way f) k a) (table_of way f) ≡ granted_table way (table_of way f) k a
    taken x e = ap (λ b. pick b (altered_table (table_of way f) k a) (table_of way f)) (ap is_granted (sym e) ∙ may_put_lem way f k a g)

    go : (x : Answer) → (alter_of way f k a).gives.answer ≡ x
        → ((checked_of way (alter_of way f k a).leaves).answer ≡ Ok tt) × (table_of way (alter_of way f k a).leaves ≡ granted_table way (table_of way f) k a)
    go (Ok _) e = (alter_accepted way f k a e, alter_table way f k a e ∙ taken (Ok tt) e)
    go (Err r) e =
        let l = (alter_refused way f k a r e).0 in
        (ap (λ x. (checked_of way x).answer) l ∙ g, ap (table_of way) l ∙ taken (Err r) e)

-- after any calls the file is accepted, and its table is the one with each granted amount put in
pub run_table : (way : Way) (calls : List (ℕ × ℕ)) (f : List ℕ) → (checked_of way f).answer ≡ Ok tt
    → ((checked_of way (alter_run way calls f)).answer ≡ Ok tt) × (table_of way (alter_run way calls f) ≡ table_run way calls (table_of way f))
unfolding alter_run table_run
run_table way [] f g = (g, refl)
run_table way (c ∷ calls) f g =
    let s = alter_step way f c.0 c.1 g in
    let r = run_table way calls (alter_of way f c.0 c.1).leaves s.0 in
    (r.0, r.1 ∙ ap (table_run way calls) s.1)

-- so it is the file that is written afresh from that table
pub run_file : (way : Way) (calls : List (ℕ × ℕ)) (f : List ℕ) → (checked_of way f).answer ≡ Ok tt → alter_run way calls f ≡ formed way (table_run way calls (table_of way f))
run_file way calls f g = let r = run_table way calls f g in sym (file_back way (alter_run way calls f) r.0).1 ∙ ap (formed way) r.1
