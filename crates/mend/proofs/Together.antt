-- Mending and the check go together: at a record that the check takes for one of its types, before the 9, both sum the same and have the same
-- record 5, and the 9 that is mended is due exactly where the check has a batch behind it.
-- Assumes nothing but what a statement says.
use Rattle.std.specs.Prelude.{Ok, Err}
use mathlib.Core.Path.{◌≡◌, refl, sym, ap, ap₂, ◌∙◌, subst}
use mathlib.Core.Bool.{Bool, true, false, ◌&&◌}
use mathlib.Core.List.{List, [], ◌∷◌, map}
use Prim.Native.Nat.{ℕ, zero, suc}
use borrow.Author.Tests.{eq-eqb}
use lib.Dec.{eqb, ltb}
use lib.ListN.{length, take, replicate}
use Rattle.text.specs.Decimal.{pick}
use Rattle.text.specs.Same.{same_bytes}
use Rattle.layout.specs.declared.Fault.{Fault}
use Rattle.layout.specs.declared.Line.{Line}
use Rattle.layout.specs.declared.Way.{Way}
use Rattle.layout.specs.Fields.{rows_of, first_field}
use Rattle.check_across.specs.declared.Sums.{Sums}
use Rattle.check_order.specs.declared.Place.{Place}
use Rattle.check_order.specs.Order.{line_at, next_place, takes_addendum}
use Rattle.check_sums.specs.declared.State.{State}
use Rattle.check_sums.specs.Sums.{next_sums, next_header, tally}
use Rattle.check_record.specs.Verdict.{Verdict, wrong_of}
use Rattle.check_record.specs.Record.{fields_from, line_of, stepped, bare, closing, record_of, accepted, run_from, piece_of}
use Rattle.view.specs.View.{fillers_after, filler_record, closed_by}
use Rattle.view_laws.proofs.BridgeFields.{by_eq, never, passed_right}
use Rattle.view_laws.proofs.BridgeWalk.{at, fillers_run}
use Rattle.mend.specs.Mend.{type_of, line_by, sums_past, header_past, mended_record, ends_file}
use Rattle.mend.proofs.Again.{mended_type, passed}

-- the place behind a batch, and the one behind the 9
abbrev pub batch_done : Place → Bool
batch_done Place.Start = false
batch_done Place.FileOpen = false
batch_done Place.BatchOpen = false
batch_done Place.AddendumDue = false
batch_done Place.EntryDone = false
batch_done Place.BatchDone = true
batch_done Place.FileDone = false

abbrev pub file_done : Place → Bool
file_done Place.Start = false
file_done Place.FileOpen = false
file_done Place.BatchOpen = false
file_done Place.AddendumDue = false
file_done Place.EntryDone = false
file_done Place.BatchDone = false
file_done Place.FileDone = true

-- a record r of type b, taken for this line at this place
pub record Agrees (p : Place) (line : Line) (b : ℕ) (r : List ℕ) : Type 0 where
  pub sums : (s : Sums) → next_sums s line r ≡ next_sums s (line_by b) r
  pub header : (h : List ℕ) → next_header h line r ≡ next_header h (line_by b) r
  pub open_still : file_done (next_place p line r) ≡ false
  pub eight : eqb b 56 ≡ batch_done (next_place p line r)

no_batch : (t : Bool) → (file_done (pick t Place.AddendumDue Place.EntryDone) ≡ false) × (false ≡ batch_done (pick t Place.AddendumDue Place.EntryDone))
no_batch true = (refl, refl)
no_batch false = (refl, refl)

entry_agrees : (p : Place) (r : List ℕ) → Agrees p Line.Entry 54 r
entry_agrees p r =
    let after = no_batch (takes_addendum r) in
    record { sums = λ s. refl; header = λ h. refl; open_still = after.0; eight = after.1 }

-- by the record's type: it is this one, or it is none
module _ (p : Place) (r : List ℕ) where
  abbrev Taken : Line → ℕ → Type 0
  Taken line b = (line ≡ Line.Other → ⊥) → Agrees p line b r

  tested : (a b : ℕ) (line other : Line) → Agrees p line a r → Taken other b → Taken (pick (eqb b a) line other) b
  tested a b line other f g = by_eq b a (λ e. rw (e, eq-eqb a a refl) (λ n. f)) (λ d. rw d g)

  none : (b : ℕ) → Taken Line.Other b
  none b n = absurd (n refl)

-- at every place before the 9, where the record is no 9 behind a batch
pub agree : (p : Place) (n b : ℕ) (r : List ℕ) → file_done p ≡ false → (eqb b 57 && batch_done p) ≡ false → (line_at p n b ≡ Line.Other → ⊥) → Agrees p (line_at p n b) b r
agree Place.Start n b r o k =
    tested Place.Start r 49 b Line.FileHeader Line.Other (record { sums = λ s. refl; header = λ h. refl; open_still = refl; eight = refl }) (none Place.Start r b)
agree Place.FileOpen n b r o k =
    tested Place.FileOpen r 53 b Line.BatchHeader Line.Other (record { sums = λ s. refl; header = λ h. refl; open_still = refl; eight = refl }) (none Place.FileOpen r b)
agree Place.BatchOpen n b r o k = tested Place.BatchOpen r 54 b Line.Entry Line.Other (entry_agrees Place.BatchOpen r) (none Place.BatchOpen r b)
agree Place.AddendumDue n b r o k =
    tested Place.AddendumDue r 55 b Line.Addendum Line.Other (record { sums = λ s. refl; header = λ h. refl; open_still = refl; eight = refl }) (none Place.AddendumDue r b)
agree Place.EntryDone n b r o k =
    tested Place.EntryDone r 54 b Line.Entry (pick (eqb b 56) Line.BatchControl Line.Other) (entry_agrees Place.EntryDone r)
    (tested Place.EntryDone r 56 b Line.BatchControl Line.Other (record { sums = λ s. refl; header = λ h. refl; open_still = refl; eight = refl }) (none Place.EntryDone r b))
agree Place.BatchDone n b r o k =
    tested Place.BatchDone r 53 b Line.BatchHeader (pick (eqb b 57) Line.FileControl Line.Other) (record { sums = λ s. refl; header = λ h. refl; open_still = refl; eight = refl })
    (by_eq b 57 (λ e. never (sym (nine e))) (λ d. rw d (none Place.BatchDone r b)))
  where
    nine : b ≡ 57 → true ≡ false
    nine e = rw e at k
agree Place.FileDone n b r o k = cc

-- ---- a record that passes

pub failed_not : {A : Type 0} (fault : Fault) (k : ℕ) → ◌≡◌ {A = Verdict} (Err (wrong_of fault k)) (Ok tt) → A
failed_not fault k e = cc

-- its fields passed, and the check went on
pub step_passed : (b : Bool) (v : Verdict) (next st : State) → (stepped (closing b v) next st).verdict ≡ Ok tt → (v ≡ Ok tt) × ((stepped (closing b v) next st).state ≡ next)
step_passed true (Ok _) next st e = (refl, refl)
step_passed true (Err wrong) next st e = cc
step_passed false (Ok _) next st e = cc
step_passed false (Err wrong) next st e = cc

-- so it was taken for one of the types
line_known : (line : Line) (s : Sums) (h c : List ℕ) → fields_from (first_field line) (rows_of line) s h c ≡ Ok tt → line ≡ Line.Other → ⊥
line_known line s h c e o =
    cc (passed_right 1 (rows_of Line.Other) s h c (subst (λ l. fields_from (first_field l) (rows_of l) s h c ≡ Ok tt) o e)).0

pub columns_type : (r : List ℕ) → type_of (take 94 r) ≡ type_of r
columns_type [] = refl
columns_type (x ∷ xs) = refl

-- the state of the check behind the mended record m of r, where it passes, is what mending walks on with
pub record Onward (st next : State) (r : List ℕ) : Type 0 where
  pub sums : next.sums ≡ sums_past st.sums r
  pub header : next.header ≡ header_past st.header r
  pub open_still : file_done next.place ≡ false
  pub eight : eqb (type_of r) 56 ≡ batch_done next.place

pub onward_together : (way : Way) (st : State) (last : ℕ) (r : List ℕ) → length st.header ≡ 94 → file_done st.place ≡ false → eqb last 56 ≡ batch_done st.place
    → ends_file last r ≡ false → (record_of st (piece_of way (mended_record st.sums st.header r))).verdict ≡ Ok tt
    → Onward st (record_of st (piece_of way (mended_record st.sums st.header r))).state r
onward_together way st last r l o k n e =
    let s = st.sums in
    let h = st.header in
    let m = mended_record s h r in
    let c = take 94 m in
    let same = columns_type m ∙ mended_type way s h r in
    let line = line_of st c in
    let fields = fields_from (first_field line) (rows_of line) s h c in
    let both = step_passed (piece_of way m).closed fields (tally st line c) st e in
    let due : (eqb (type_of c) 57 && batch_done st.place) ≡ false = ap₂ (λ b t. eqb b 57 && t) same (sym k) ∙ n in
    let a = agree st.place s.records (type_of c) c o due (line_known line s h c both.0) in
    let p = passed way s h r (eqb (type_of r) 56 && ltb 0 s.batches) refl l in
    let to = both.1 in
    record {
      sums = ap (λ x. x.sums) to ∙ a.sums s ∙ ap (λ b. next_sums s (line_by b) c) (columns_type m) ∙ p.sums;
      header = ap (λ x. x.header) to ∙ a.header h ∙ ap (λ b. next_header h (line_by b) c) (columns_type m) ∙ p.header;
      open_still = ap (λ x. file_done x.place) to ∙ a.open_still;
      eight = ap (λ b. eqb b 56) (sym same) ∙ a.eight ∙ sym (ap (λ x. batch_done x.place) to);
    }

-- ---- behind the 9

fillers_bare : (way : Way) (n : ℕ) → map (piece_of way) (replicate n (closed_by way filler_record)) ≡ map bare (replicate n filler_record)
unfolding same_bytes
fillers_bare way zero = refl
fillers_bare Way.Plain (suc n) = ap (λ ps. bare filler_record ∷ ps) (fillers_bare Way.Plain n)
fillers_bare Way.Lined (suc n) = ap (λ ps. bare filler_record ∷ ps) (fillers_bare Way.Lined n)

-- the fillers that are written afresh pass, and the file is then accepted with what was summed up to its 9
pub fillers_together : (way : Way) (s : Sums) (h c : List ℕ)
    → run_from (at Place.FileDone s h c) (map (piece_of way) (replicate (fillers_after s.records) (closed_by way filler_record))) ≡ accepted (at Place.FileDone s h c)
fillers_together way s h c =
    ap (run_from (at Place.FileDone s h c)) (fillers_bare way (fillers_after s.records)) ∙ fillers_run (fillers_after s.records) s h c refl
