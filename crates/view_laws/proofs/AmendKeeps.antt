-- One amount put into a view that keeps the rules: it still keeps them exactly if the code carries the amount and the totals of the
-- entry's side stay within the limit.
-- Assumes the view's sizes and rules, an entry that there is, and an amount of ten digits.
use Rattle.std.specs.Prelude.{Ok}
use mathlib.Core.Path.{◌≡◌, refl, sym, ap, subst, ◌∙◌}
use mathlib.Core.Logic.{◌↔◌}
use mathlib.Core.Bool.{Bool, true, false}
use mathlib.Core.List.{List, [], ◌∷◌, ◌++◌}
use Prim.Native.Nat.{ℕ, zero, suc, ◌+◌, ◌-◌, ◌^◌, ◌≤◌, ◌<◌}
use native.Mathlib.Nat.{le_of_suc-le-suc}
use Rattle.std.proofs.Common.{rules}
use native.Mathlib.Omega.{arith}
use lib.Dec.{lit<, lit≤}
use lib.ListN.{length, get_or, length-set}
use Rattle.text.specs.Decimal.{digits, value, render}
use Rattle.text.specs.Rows.{columns}
use Rattle.text.proofs.DecimalLaws.{length_render, digits_render, value_render_lt}
use Rattle.text.proofs.SetLaws.{part_sets_at}
use Rattle.layout.specs.Fields.{entry, part}
use Rattle.check_codes.specs.declared.Use.{Use}
use Rattle.check_codes.specs.declared.Code.{Code}
use Rattle.check_codes.specs.Codes.{code_of, use_carries, carries}
use Rattle.check_across.specs.Across.{amount_rule, entry_code, entry_trace, batch_number}
use Rattle.view.specs.View.{Entry, Batch, View, batch_record, entry_record, entries_of, sum_over, records_in, amount_of, code_in, debit_of, credit_of, records_of}
use Rattle.view.specs.Outcome.{no_entry, entry_at, Spot, spot_of, amended, amend_entry, amend, within, limits}
use Rattle.view.specs.Sized.{All, SizedEntry, Sized}
use Rattle.view.specs.Keeps.{Within, EntryKeeps, EntriesKeep, BatchKeeps, BatchesKeep, Keeps}
use Rattle.view_laws.proofs.Lists.{all_append, all_at}
use Rattle.view_laws.proofs.Tables.{entries_in, entries_sized}
use Rattle.view_laws.proofs.Amend.{amended_batch, amend_entry_lem, amended_record, amended_front, amended_back, amended_amount, amended_code, amended_flag, amended_trace, Moved, Stands, stands, batches_length, entry_amended, entries_length, spot_inside, spot_entry, spot_amended, file_moved, batch_moved}
use Rattle.view_laws.proofs.AmendFile.{records_amended}

-- ---- what a code carries

-- what a code carries has ten digits
pub carried_few : (c : Code) (a : ℕ) → carries c a ≡ true → a < 10 ^ 10
carried_few c a e = search rules

-- so no code carries an amount of more
pub never_carried : (c : Code) (a : ℕ) → 10 ^ 10 ≤ a → carries c a ≡ false
never_carried c a h = search rules

-- ---- the entries of one batch

-- the rule of field 6, both ways
amount_right_lem : (r p : List ℕ) (a : ℕ) → p ≡ render 10 a → a < 10 ^ 10 → carries (code_of (entry_code r)) a ≡ true → amount_rule r p ≡ Ok tt
amount_right_lem r p a e few c = rw (e, digits_render 10 a, value_render_lt 10 a few, c)

pub amount_carried : (r p : List ℕ) → amount_rule r p ≡ Ok tt → (digits p ≡ true) × (carries (code_of (entry_code r)) (value p) ≡ true)
amount_carried r p e = search rules

-- an entry that keeps the rules keeps them with an amount that its code carries
entry_keeps : (h : List ℕ) (n t : ℕ) (e : Entry) (a : ℕ) → length e.row ≡ 93 → a < 10 ^ 10 → carries (code_of (code_in e)) a ≡ true
    → EntryKeeps h n t e → EntryKeeps h n t (amended e a)
entry_keeps h n t e a long few c k =
    let f = k.fields in
    let ten = length_render 10 a in
    let text = part_sets_at (entry_record e) 29 (render 10 a) (rw ten (omega arith)) in
    let amount = amount_right_lem (entry_record (amended e a)) (columns 30 39 (entry_record (amended e a))) a
    (rw (amended_record e a) (rw ten at text)) few (rw (amended_code e a) c) in
    record {
      fields =
          rw (amended_front e a 2 3 (lit≤ tt) (lit≤ tt) (lit< tt), amended_front e a 4 11 (lit≤ tt) (lit≤ tt) (lit< tt), amended_front e a 12 12 (lit≤ tt) (lit≤ tt) (lit< tt), amended_front e a 13 29 (lit≤ tt) (lit≤ tt) (lit< tt), amended_back e a 40 54 (lit< tt), amended_back e a 55 76 (lit< tt), amended_back e a 77 78 (lit< tt), amended_flag e a, amended_trace e a)
          (f.0, (f.1.0, (f.1.1.0, (f.1.1.1.0, (f.1.1.1.1.0, (rw (amended_code e a) at amount, f.1.1.1.1.1.1))))));
      due = rw (amended_flag e a) k.due;
      addenda = rw (amended_trace e a) k.addenda;
    }

-- and so do the entries behind it
entries_keep : (h : List ℕ) (n t : ℕ) (es : List Entry) (i a : ℕ) → All SizedEntry es → a < 10 ^ 10 → carries (code_of (code_in (get_or es i no_entry))) a ≡ true
    → EntriesKeep h n t es → EntriesKeep h n t (amend_entry i a es)
unfolding amend_entry
entries_keep h n t [] i a s few c k = tt
entries_keep h n t (e ∷ es) zero a s few c k = (entry_keeps h n t e a s.0.long few c k.0, rw (amended_trace e a) k.1)
entries_keep h n t (e ∷ es) (suc i) a s few c k = (k.0, entries_keep h (n + records_in e) (entry_trace (entry_record e)) es i a s.1 few c k.1)

-- each entry's amount is right
abbrev pub AmountRight : Entry → Type 0
AmountRight e = amount_rule (entry_record e) (part entry 6 (entry_record e)) ≡ Ok tt

entries_right : (h : List ℕ) (n t : ℕ) (es : List Entry) → EntriesKeep h n t es → All AmountRight es
entries_right h n t [] k = tt
entries_right h n t (e ∷ es) k = (k.0.fields.1.1.1.1.1.0, entries_right h (n + records_in e) (entry_trace (entry_record e)) es k.1)

pub amounts_right : (number : ℕ) (bs : List Batch) → BatchesKeep number bs → All AmountRight (entries_in bs)
amounts_right number [] k = tt
amounts_right number (b ∷ bs) k =
    all_append AmountRight b.entries (entries_in bs) (entries_right (batch_record b) 0 0 b.entries k.0.entries) (amounts_right (batch_number (batch_record b)) bs k.1)

-- ---- one batch among the others

-- a batch with the same row takes another's place where it keeps the rules behind the same number
swap : (number : ℕ) (before : List Batch) (b b' : Batch) (behind : List Batch) → b'.row ≡ b.row → ((n : ℕ) → BatchKeeps n b → BatchKeeps n b')
    → BatchesKeep number (before ++ (b ∷ behind)) → BatchesKeep number (before ++ (b' ∷ behind))
swap number [] b b' behind e f k = (f number k.0, subst (λ row. BatchesKeep (batch_number (batch_record (record { row = row; entries = [] }))) behind) (sym e) k.1)
swap number (x ∷ before) b b' behind e f k = (k.0, swap (batch_number (batch_record x)) before b b' behind e f k.1)

-- its totals are within the limit, if all keep the rules
batch_within : (number : ℕ) (before : List Batch) (b : Batch) (behind : List Batch) → BatchesKeep number (before ++ (b ∷ behind)) → Within b.entries
batch_within number [] b behind k = k.0.within
batch_within number (x ∷ before) b behind k = batch_within (batch_number (batch_record x)) before b behind k.1

-- ---- the totals

-- an entry's number is in the sum
sum_holds : (f : Entry → ℕ) (es : List Entry) (i : ℕ) → i < length es → f (get_or es i no_entry) ≤ sum_over f es
unfolding sum_over
sum_holds f [] i h = absurd (omega arith)
sum_holds f (e ∷ es) zero h = omega arith
sum_holds f (e ∷ es) (suc i) h = omega (arith, sum_holds f es i (le_of_suc-le-suc h))

-- the total of the side that a code is on
abbrev side_fits : Code → List Entry → ℕ → ℕ → Bool
side_fits Code.Unknown es old new = true
side_fits (Code.Credit u) es old new = within (sum_over credit_of es) old new
side_fits (Code.Debit u) es old new = within (sum_over debit_of es) old new

-- the limits of an alteration are those of the batch and of the file
limits_fit : (v : View) (s : Spot) (c : Code) (old new : ℕ)
    → (limits v s c old new ≡ Ok tt) ↔ ((side_fits c s.batch.entries old new ≡ true) × (side_fits c (entries_of v) old new ≡ true))
limits_fit v s c old new = search rules

-- where one amount has moved the sums, the totals are within the limit exactly if the side fits
side_within : (es es' : List Entry) (e : Entry) (a : ℕ) → Moved es e a es' → debit_of e ≤ sum_over debit_of es → credit_of e ≤ sum_over credit_of es → Within es
    → (c : Code) → code_of (code_in e) ≡ c → (side_fits c es (amount_of e) a ≡ true) ↔ Within es'
side_within es es' e a m d c was code k = search rules

-- ---- a view with one amount put in

module _ (v : View) (k a : ℕ) (s : Sized v) (keep : Keeps v) (first : 1 ≤ k) (last : k ≤ length (entries_of v)) (few : a < 10 ^ 10) where
  st : Stands v k a
  st = stands v k a s first last few

  -- the entry's batch before and after
  batches_were : BatchesKeep 0 (st.before ++ (st.batch ∷ st.behind))
  batches_were = subst (BatchesKeep 0) st.were keep.batches

  batch_was : Within (spot_of v k).batch.entries
  batch_was = rw st.spot (batch_within 0 st.before st.batch st.behind batches_were)

  entries_are : (spot_of (amend v k a) k).batch.entries ≡ amend_entry st.index a st.batch.entries
  entries_are = ap (λ p. p.batch.entries) (spot_amended v k a s first last few) ∙ ap (λ p. amend_entry p.index a p.batch.entries) st.spot

  -- the entry's number is in the sums of its batch and of the file
  in_batch_lem : (f : Entry → ℕ) → f (entry_at v k) ≤ sum_over f (spot_of v k).batch.entries
  in_batch_lem f = rw (← spot_entry v k a s first last few) (sum_holds f (spot_of v k).batch.entries (spot_of v k).index (spot_inside v k a s first last few))

  in_file : (f : Entry → ℕ) → f (entry_at v k) ≤ sum_over f (entries_of v)
  in_file f = sum_holds f (entries_of v) (k - 1) (omega arith)

  -- the limits that an alteration tries are those of the new totals
  limits_within : (limits v (spot_of v k) (code_of (code_in (entry_at v k))) (amount_of (entry_at v k)) a ≡ Ok tt)
      ↔ (Within (amend_entry st.index a st.batch.entries) × Within (entries_of (amend v k a)))
  limits_within =
      let e = entry_at v k in
      let fit = limits_fit v (spot_of v k) (code_of (code_in e)) (amount_of e) a in
      let batch = side_within (spot_of v k).batch.entries (amend_entry st.index a st.batch.entries) e a
      (rw entries_are at (batch_moved v k a s first last few)) (in_batch_lem debit_of) (in_batch_lem credit_of) batch_was (code_of (code_in e)) refl in
      let file = side_within (entries_of v) (entries_of (amend v k a)) e a (file_moved v k a s first last few) (in_file debit_of) (in_file credit_of) keep.within (code_of (code_in e)) refl in
      (λ g. (batch.0 (fit.0 g).0, file.0 (fit.0 g).1), λ w. fit.1 (batch.1 w.0, file.1 w.1))

  records_length : length (records_of (amend v k a)) ≡ length (records_of v)
  records_length = ap length (records_amended v k a s first last few) ∙ simp length-set

  long : length (entry_at v k).row ≡ 93
  long = (all_at SizedEntry (entries_of v) (k - 1) no_entry (entries_sized v.batches s.each) (omega arith)).long

  kept : carries (code_of (code_in (entry_at v k))) a ≡ true → Within (amend_entry st.index a st.batch.entries) × Within (entries_of (amend v k a)) → Keeps (amend v k a)
  kept c w =
      let es = st.batch.entries in
      record {
        fields = keep.fields;
        nonempty = rw (batches_length v k a s first last few) keep.nonempty;
        batches = subst (BatchesKeep 0) (sym st.are)
            (swap 0 st.before st.batch (amended_batch st.batch st.index a) st.behind refl (λ n b.
            record {
              fields = b.fields;
              nonempty = rw (amend_entry_lem es st.index a, length-set) b.nonempty;
              entries = entries_keep (batch_record st.batch) 0 0 es st.index a st.sized.each few (rw st.entry at c) b.entries;
              within = w.0;
            }) batches_were);
        within = w.1;
        fits = rw records_length keep.fits;
      }

  carried : Keeps (amend v k a) → carries (code_of (code_in (entry_at v k))) a ≡ true
  carried h =
      let e = entry_record (entry_at (amend v k a) k) in
      let right = all_at AmountRight (entries_of (amend v k a)) (k - 1) no_entry (amounts_right 0 (amend v k a).batches h.batches) (rw (entries_length v k a s first last few) (omega arith)) in
      rw (entry_amended v k a s first last few, amended_code (entry_at v k) a, amended_amount (entry_at v k) a long few) at (amount_carried e (part entry 6 e) right).1

  -- it keeps the rules exactly if the code carries the amount and no total goes over the limit
  pub amend_keeps : Keeps (amend v k a)
      ↔ ((carries (code_of (code_in (entry_at v k))) a ≡ true)
      × (limits v (spot_of v k) (code_of (code_in (entry_at v k))) (amount_of (entry_at v k)) a ≡ Ok tt))
  amend_keeps = (
    λ h. (carried h, limits_within.1 (batch_within 0 st.before (amended_batch st.batch st.index a) st.behind (subst (BatchesKeep 0) st.are h.batches), h.within)),
    λ p. kept p.0 (limits_within.0 p.1),
  )

  keeps_by : (c : Code) → code_of (code_in (entry_at v k)) ≡ c
      → Keeps (amend v k a)
      ↔ ((carries c a ≡ true) × (side_fits c (spot_of v k).batch.entries (amount_of (entry_at v k)) a ≡ true) × (side_fits c (entries_of v) (amount_of (entry_at v k)) a ≡ true))
  keeps_by c e =
      let old = amount_of (entry_at v k) in
      let fit = limits_fit v (spot_of v k) c old a in
      let all = rw e at amend_keeps in
      (λ h. let p = all.0 h in let q = fit.0 p.1 in (p.0, q.0, q.1), λ p. all.1 (p.0, fit.1 (p.1, p.2)))

  -- where the entry is a debit: the debits of its batch and of the file, less the old amount plus the new
  pub amend_keeps_debit : (u : Use) → code_of (code_in (entry_at v k)) ≡ Code.Debit u
      → Keeps (amend v k a)
      ↔ ((use_carries u a ≡ true)
      × (within (sum_over debit_of (spot_of v k).batch.entries) (amount_of (entry_at v k)) a ≡ true)
      × (within (sum_over debit_of (entries_of v)) (amount_of (entry_at v k)) a ≡ true))
  amend_keeps_debit u c = keeps_by (Code.Debit u) c

  -- where it is a credit: the credits
  pub amend_keeps_credit : (u : Use) → code_of (code_in (entry_at v k)) ≡ Code.Credit u
      → Keeps (amend v k a)
      ↔ ((use_carries u a ≡ true)
      × (within (sum_over credit_of (spot_of v k).batch.entries) (amount_of (entry_at v k)) a ≡ true)
      × (within (sum_over credit_of (entries_of v)) (amount_of (entry_at v k)) a ≡ true))
  amend_keeps_credit u c = keeps_by (Code.Credit u) c
