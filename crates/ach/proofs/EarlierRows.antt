-- What was accepted before request 7 has no entry in the rows of its four codes.
-- Assumes nothing.
use Rattle.std.specs.Prelude.{Ok, Err}
use Prim.Native.Nat.{ℕ, ◌+◌, ◌*◌, ◌<◌}
use native.Mathlib.Omega.{arith}
use mathlib.Core.Path.{◌≡◌, refl, sym, ap, ◌∙◌, subst}
use mathlib.Core.Bool.{Bool, true, false, false≢true}
use mathlib.Core.List.{List, [], ◌∷◌, map}
use lib.ListN.{length, get_or, set, get_or-replicate}
use lib.Seq.{get_or-set_other}
use Rattle.text.specs.Decimal.{pick}
use Rattle.layout.specs.Answers.{Checked}
use Rattle.layout.specs.declared.Fault.{Fault}
use Rattle.layout.specs.declared.Line.{Line}
use Rattle.layout.specs.declared.Way.{Way}
use Rattle.layout.specs.Fields.{rows_of, first_field}
use Rattle.check_codes.specs.Codes.{code_of, code_row, known, remits}
use Rattle.check_across.specs.Across.{entry_code, entry_amount}
use Rattle.check_order.specs.Order.{complete}
use Rattle.check_sums.specs.declared.State.{State}
use Rattle.check_sums.specs.Sums.{add_to_row, start, tally}
use Rattle.check_record.specs.Verdict.{Verdict}
use Rattle.check_record.specs.Record.{Piece, line_of, stepped, closing, refused, accepted, onward, length_fits, raw_records, piece_of, checked_of}
use Rattle.view.specs.Keeps.{codes}
use Rattle.view_laws.proofs.Own.{code_back}
use Rattle.ach.specs.Earlier.{fields_by, record_by, run_by, checked_by, unremitted}
use Rattle.ach.proofs.Earlier.{RightBy, refused_never, passed_by, passed_right, told, money, same_code, remittances_keep}

-- no entry, and no cent, in the rows of the four codes
abbrev pub NoRemittance : List ℕ → Type 0
NoRemittance rows = (k : ℕ) → k < 12 → remits (code_of (get_or codes k 0)) ≡ true → (get_or rows (2 * k) 0 ≡ 0) × (get_or rows (2 * k + 1) 0 ≡ 0)

-- an entry leaves every row but its code's
row_apart : (rows : List ℕ) (j k cents : ℕ) → (j ≡ k → ⊥)
    → (get_or (add_to_row rows j cents) (2 * k) 0 ≡ get_or rows (2 * k) 0) × (get_or (add_to_row rows j cents) (2 * k + 1) 0 ≡ get_or rows (2 * k + 1) 0)
row_apart rows j k cents d =
    let counted = set rows (2 * j) (get_or rows (2 * j) 0 + 1) in (
      get_or-set_other counted (2 * j + 1) (2 * k) _ 0 (λ z. omega arith) ∙ get_or-set_other rows (2 * j) (2 * k) _ 0 (λ z. d (omega arith)),
      get_or-set_other counted (2 * j + 1) (2 * k + 1) _ 0 (λ z. d (omega arith)) ∙ get_or-set_other rows (2 * j) (2 * k + 1) _ 0 (λ z. omega arith),
    )

none_more : (rows : List ℕ) (n cents : ℕ) → known (code_of n) ≡ true → remits (code_of n) ≡ false → NoRemittance rows → NoRemittance (add_to_row rows (code_row n) cents)
none_more rows n cents is_known is-money f k l e =
    let other : code_row n ≡ k → ⊥ = λ same. false≢true (sym is-money ∙ ap (λ c. remits (code_of c)) (sym (code_back n is_known) ∙ ap (λ j. get_or codes j 0) same) ∙ e) in
    let apart = row_apart rows (code_row n) k cents other in
    (apart.0 ∙ (f k l e).0, apart.1 ∙ (f k l e).1)

tally_none : (st : State) (line : Line) (r : List ℕ) → RightBy unremitted st.sums st.header r (rows_of line) → NoRemittance st.bycode → NoRemittance (tally st line r).bycode
tally_none st Line.FileHeader r a f = f
tally_none st Line.BatchHeader r a f = f
tally_none st Line.Entry r a f =
    let is_known = ap known (sym (same_code st.sums st.header r a)) ∙ (told st.sums st.header r a).1 in
    none_more st.bycode (entry_code r) (entry_amount r) is_known (money st.sums st.header r a) f
tally_none st Line.Addendum r a f = f
tally_none st Line.BatchControl r a f = f
tally_none st Line.FileControl r a f = f
tally_none st Line.Filler r a f = f
tally_none st Line.Past r a f = f
tally_none st Line.Other r a f = f

-- a record that passes leads to the state behind it, and each of its fields is right
passed_on : (st : State) (p : Piece) → (record_by unremitted st p).verdict ≡ Ok tt
    → ((record_by unremitted st p).state ≡ tally st (line_of st p.columns) p.columns) × RightBy unremitted st.sums st.header p.columns (rows_of (line_of st p.columns))
passed_on st p e =
    let line = line_of st p.columns in
    let v = fields_by unremitted (first_field line) (rows_of line) st.sums st.header p.columns in
    let closed = passed_by (closing p.closed v) (tally st line p.columns) st e in (
      ap (λ x. (stepped x (tally st line p.columns) st).state) closed,
      passed_right unremitted (first_field line) (rows_of line) st.sums st.header p.columns (closed_by_lem p.closed v closed),
    )
  where
    closed_by_lem : (b : Bool) (v : Verdict) → closing b v ≡ Ok tt → v ≡ Ok tt
    closed_by_lem true v e = e
    closed_by_lem false (Ok _) e = refl
    closed_by_lem false (Err wrong) e = e

run_none : (st : State) (ps : List Piece) → (run_by unremitted st ps).answer ≡ Ok tt → NoRemittance st.bycode → NoRemittance (run_by unremitted st ps).bycode
unfolding run_by
run_none st [] e f = go (complete st.place st.sums.records) e
  where
    go : (b : Bool) → (pick b (accepted st) (refused Fault.Ended (st.sums.records + 1) 0)).answer ≡ Ok tt → NoRemittance (pick b (accepted st) (refused Fault.Ended (st.sums.records + 1) 0)).bycode
    go true a = f
    go false a = refused_never Fault.Ended (st.sums.records + 1) 0 a
run_none st (p ∷ ps) e f = go (run_none (record_by unremitted st p).state ps) (record_by unremitted st p).verdict refl e
  where
    go : ((run_by unremitted (record_by unremitted st p).state ps).answer ≡ Ok tt → NoRemittance (record_by unremitted st p).state.bycode → NoRemittance (run_by unremitted (record_by unremitted st p).state ps).bycode)
        → (v : Verdict) → (record_by unremitted st p).verdict ≡ v
        → (onward v (st.sums.records + 1) (run_by unremitted (record_by unremitted st p).state ps)).answer ≡ Ok tt
        → NoRemittance (onward v (st.sums.records + 1) (run_by unremitted (record_by unremitted st p).state ps)).bycode
    go later (Ok _) g a =
        let on = passed_on st p g in
        later a (subst (λ (x : State). NoRemittance x.bycode) (sym on.0) (tally_none st (line_of st p.columns) p.columns on.1 f))
    go later (Err wrong) g a = refused_never wrong.fault (st.sums.records + 1) wrong.field a

-- so the rows that were eight are still what they were, and the four between them are 0
pub remittances_none : (way : Way) (f : List ℕ) → (checked_by unremitted way f).answer ≡ Ok tt → NoRemittance (checked_of way f).bycode
remittances_none way f e = subst (λ (c : Checked). NoRemittance c.bycode) (sym (remittances_keep way f e)) (go (length_fits way (length f)) e)
  where
    run : Checked
    run = run_by unremitted start (map (piece_of way) (raw_records way f))

    go : (b : Bool) → (pick b run (refused Fault.Length 0 0)).answer ≡ Ok tt → NoRemittance (pick b run (refused Fault.Length 0 0)).bycode
    go true a = run_none start (map (piece_of way) (raw_records way f)) a λ k l r. (get_or-replicate {A = ℕ} 24 (2 * k) 0 0 (omega arith), get_or-replicate {A = ℕ} 24 (2 * k + 1) 0 0 (omega arith))
    go false a = refused_never Fault.Length 0 0 a
