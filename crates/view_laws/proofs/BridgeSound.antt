-- An accepted file is the file of a view that keeps the rules.
-- Assumes nothing.
use Rattle.std.specs.Prelude.{Ok}
use mathlib.Core.Path.{◌≡◌, refl, sym, ap, ap₂, ◌∙◌, subst}
use mathlib.Core.Bool.{Bool, true}
use mathlib.Core.List.{List, [], ◌∷◌, ◌++◌, map}
use Prim.Native.Nat.{ℕ, ◌+◌, ◌≤◌}
use Rattle.std.proofs.Common.{rules}
use native.Mathlib.Omega.{arith}
use lib.Dec.{lit≤}
use lib.ListN.{length, take, drop, replicate, length-append, take-append-drop}
use Rattle.text.specs.Decimal.{pick}
use Rattle.text.specs.Rows.{columns}
use Rattle.text.specs.Widths.{AllLong}
use Rattle.text.specs.Same.{same_bytes}
use Rattle.text.proofs.DecimalLaws.{same_equal}
use Rattle.text.proofs.RowLaws.{length_columns}
use Rattle.layout.specs.declared.Way.{Way}
use Rattle.layout.specs.Ways.{end_of}
use Rattle.layout.specs.Fields.{file_header, rows_of, first_field}
use Rattle.layout.specs.declared.Fault.{Fault}
use Rattle.check_sums.specs.declared.State.{State}
use Rattle.check_record.specs.Verdict.{Verdict}
use Rattle.check_order.specs.Order.{complete}
use Rattle.check_sums.specs.Sums.{start, no_sums, tally}
use Rattle.check_record.specs.Record.{fields_from, line_of, Piece, closing, piece_of, stepped, onward, run_from, accepted, refused}
use Rattle.view.specs.View.{View, closed_by, file_record, records_of, entries_of, fillers_after, filler_record}
use Rattle.view.specs.Sized.{All, SizedBatch}
use Rattle.view.specs.Keeps.{Right, seen, Within, BatchesKeep}
use Rattle.view_laws.proofs.BridgeFields.{passed_right}
use Rattle.view_laws.proofs.BridgeRecords.{file_control_by, file_formed}
use Rattle.view_laws.proofs.BridgeSums.{batches_records, after_body, file_sums, file_control_same}
use Rattle.view_laws.proofs.BridgeTail.{TailAt, back, ended}
use Rattle.view_laws.proofs.Ways.{bare_run}

-- a refusal is no grant
pub refused_not : {A : Type 0} (fault : Fault) (n k : ℕ) → (refused fault n k).answer ≡ Ok tt → A
refused_not fault n k e = cc

-- a run that is granted: at the end, and at each record
pick_granted : (b : Bool) (st : State) (fault : Fault) (n k : ℕ) → (pick b (accepted st) (refused fault n k)).answer ≡ Ok tt → b ≡ true
pick_granted b st fault n k e = search rules

step_granted : (v : Verdict) (next st : State) (n : ℕ) (rs : List (List ℕ))
    → (onward (stepped v next st).verdict n (bare_run (stepped v next st).state rs)).answer ≡ Ok tt
    → (v ≡ Ok tt) × ((bare_run next rs).answer ≡ Ok tt)
step_granted v next st n rs e = search rules

closing_granted : (b : Bool) (v : Verdict) (next st : State) (n : ℕ) (ps : List Piece)
    → (onward (stepped (closing b v) next st).verdict n (run_from (stepped (closing b v) next st).state ps)).answer ≡ Ok tt
    → (b ≡ true) × (v ≡ Ok tt) × ((run_from next ps).answer ≡ Ok tt)
closing_granted b v next st n ps e = search rules

-- every record of an accepted file has its line end, and the run over their columns is granted too
pub raw_granted : (way : Way) (st : State) (raw : List (List ℕ)) → (run_from st (map (piece_of way) raw)).answer ≡ Ok tt
    → (raw ≡ map (closed_by way) (map (take 94) raw)) × ((bare_run st (map (take 94) raw)).answer ≡ Ok tt)
unfolding run_from
raw_granted way st [] e = (refl, e)
raw_granted way st (r ∷ raw) e =
    let c = take 94 r in
    let v = fields_from (first_field (line_of st c)) (rows_of (line_of st c)) st.sums st.header c in
    let next = tally st (line_of st c) c in
    let both = closing_granted (same_bytes (drop 94 r) (end_of way)) v next st (st.sums.records + 1) (map (piece_of way) raw) e in
    let rest = raw_granted way next raw both.2 in
    let whole = sym (take-append-drop 94 r) ∙ ap (λ x. c ++ x) ((same_equal (drop 94 r) (end_of way)).0 both.0) in
    (ap₂ (λ x xs. x ∷ xs) whole rest.0, rw both.1 rest.1)

-- what an accepted run has before it
run_tail : (st : State) (rs : List (List ℕ)) → AllLong 94 rs → (bare_run st rs).answer ≡ Ok tt → TailAt st.place st.sums st.header rs
unfolding run_from
run_tail st [] l e = ended st.place st.sums st.header (pick_granted (complete st.place st.sums.records) st _ _ _ e)
run_tail st (r ∷ rs) l e =
    let both = step_granted _ (tally st (line_of st r) r) st (st.sums.records + 1) rs e in
    back st.place st.sums st.header r rs l.0 (passed_right _ _ st.sums st.header r both.0) (run_tail (tally st (line_of st r) r) rs l.1 both.1)

-- records that a view makes: of sizes and rules all that does not ask how many records there are
pub record Source (rs : List (List ℕ)) : Type 0 where
  pub view : View
  pub long : length view.row ≡ 85
  pub each : All SizedBatch view.batches
  pub fields : Right file_header (seen 0 0 0) [] (file_record view)
  pub nonempty : 1 ≤ length view.batches
  pub batches : BatchesKeep 0 view.batches
  pub within : Within (entries_of view)
  pub form : rs ≡ records_of view

-- a record 1, batches, the control by their sums, and fillers are the records of the view
records_form : (v : View) (r : List ℕ) → r ≡ file_record v
    → r ∷ (batches_records v.batches ++ (file_control_by (after_body v) ∷ replicate (fillers_after ((after_body v).records + 1)) filler_record)) ≡ records_of v
records_form v r e = rw (file_control_same v, (file_sums v).records, e)

-- records that are accepted are those of a view
pub source : (rs : List (List ℕ)) → AllLong 94 rs → (bare_run start rs).answer ≡ Ok tt → Source rs
source rs l e =
    let t = run_tail start rs l e in
    let r = t.0.here in
    let v : View = record { row = columns 4 34 r ++ columns 41 94 r; batches = t.1.bs } in
    let same : r ≡ file_record v = file_formed no_sums start.header r t.1.bs t.0.long t.0.byte t.0.isright in
    let sums = file_sums v in
    let long : length r ≡ 94 = t.0.long in
    record {
      view = v;
      long = rw (length-append (columns 4 34 r) (columns 41 94 r), length_columns 4 34 r (lit≤ tt) (omega arith), length_columns 41 94 r (lit≤ tt) (omega arith)) refl;
      each = t.1.sized;
      fields = subst (Right file_header no_sums start.header) same t.0.isright;
      nonempty = t.2;
      batches = t.1.keeps;
      within = record { debit = rw (← sums.debit) t.1.limited.debits; credit = rw (← sums.credit) t.1.limited.credits };
      form = t.0.form ∙ ap (λ x. r ∷ x) t.1.form ∙ records_form v r same;
    }
