-- The pass that judges a mended file: what is left to check from a record on gives the whole answer.
-- Assumes nothing but what a statement says.
use Rattle.std.specs.Prelude.{Result, Ok, Err, MatchResult}
use Rattle.std.specs.Result.{IsErrAnd}
use mathlib.Core.Path.{◌≡◌, refl, sym, ap, ap₂, ◌∙◌, subst}
use mathlib.Core.Bool.{Bool, true, false}
use mathlib.Core.List.{List, [], ◌∷◌, map}
use Prim.Native.Nat.{ℕ, ◌+◌, ◌*◌, ◌/◌, ◌≤◌, ◌<◌}
use native.Mathlib.Omega.{arith}
use lib.Dec.{eqb}
use lib.ListN.{length, take, drop, replicate, drop_of_length-le}
use Rattle.text.specs.Decimal.{pick}
use Rattle.text.proofs.DecimalLaws.{and_both}
use Rattle.layout.specs.Answers.{Checked}
use Rattle.layout.specs.declared.Fault.{Fault}
use Rattle.layout.specs.declared.Line.{Line}
use Rattle.layout.specs.declared.Refusal.{Refusal}
use Rattle.layout.specs.declared.Way.{Way}
use Rattle.layout.specs.Fields.{rows_of, first_field}
use Rattle.layout.specs.Paper.{refusal}
use Rattle.layout.specs.Ways.{record_bytes}
use Rattle.check_across.specs.declared.Sums.{Sums}
use Rattle.check_order.specs.declared.Place.{Place}
use Rattle.check_order.specs.Order.{line_at, complete}
use Rattle.check_sums.specs.declared.State.{State}
use Rattle.check_sums.specs.WorkFair.{Fair}
use Rattle.check_sums.specs.Sums.{start, add_record, tally}
use Rattle.check_record.specs.declared.Wrong.{Wrong}
use Rattle.check_record.specs.Verdict.{Verdict, Stepped}
use Rattle.check_record.specs.Record.{Piece, fields_from, line_of, record_of, accepted, refused, onward, finished, run_from, length_fits, raw_records, piece_of, checked_of}
use Rattle.check_file.proofs.Laws.{state}
use Rattle.view.specs.View.{fillers_after, filler_record, closed_by}
use Rattle.view_laws.proofs.BridgeFields.{never}
use Rattle.table_form.specs.Forms.{file_control_from}
use Rattle.mend.specs.Mend.{type_of, line_by, sums_past, header_past, refilled, mended_record, ends_file, mended_from, mended_file}
use Rattle.mend.proofs.Again.{file_type, at_nine, at_other}
use Rattle.mend.proofs.Running.{mended_checked}
use Rattle.mend.proofs.Together.{batch_done, file_done, step_passed, columns_type, onward_together, fillers_together}
use Rattle.mend_file.specs.WorkJudging.{said_of, NineAt}
use Rattle.mend_file.proofs.RecordLaws.{At}
use Rattle.mend_file.proofs.WalkLaws.{Walked, records_many, walked_first, walked_past, nine_found}

abbrev told : Verdict → State → Stepped
told v st = record { verdict = v; state = st }

-- where a refusal is made of what is wrong with record n, as `map_err` says
module _ {P : Wrong → Refusal → Type 0} (n : ℕ) (made : (wrong : Wrong) (r : Refusal) → P wrong r → Err r ≡ refusal wrong.fault n wrong.field) where
  pub wrong_is : (tried : Result State Wrong) (told : Result State Refusal) (r : Refusal) → MatchResult tried (λ x. told ≡ Ok x) (λ w. IsErrAnd told (P w)) → told ≡ Err r
      → (wrong : Wrong) × (tried ≡ Err wrong) × (Err r ≡ refusal wrong.fault n wrong.field)
  wrong_is (Ok x) told r h e = cc
  wrong_is (Err wrong) told r h e = (wrong, refl, made wrong r (rw e at h))

pub right_is : (P : Wrong → Refusal → Type 0) (tried : Result State Wrong) (told : Result State Refusal) (next : State) → MatchResult tried (λ x. told ≡ Ok x) (λ w. IsErrAnd told (P w)) → told ≡ Ok next → tried ≡ Ok next
right_is P (Ok x) told next h e = cc
right_is P (Err wrong) told next h e = absurd (rw e at h)

-- before the 9 a record is still due
not_complete : (p : Place) (n : ℕ) → file_done p ≡ false → complete p n ≡ false
not_complete Place.Start n o = refl
not_complete Place.FileOpen n o = refl
not_complete Place.BatchOpen n o = refl
not_complete Place.AddendumDue n o = refl
not_complete Place.EntryDone n o = refl
not_complete Place.BatchDone n o = refl
not_complete Place.FileDone n o = never (sym o)

batch_place : (p : Place) → true ≡ batch_done p → p ≡ Place.BatchDone
batch_place Place.Start e = never (sym e)
batch_place Place.FileOpen e = never (sym e)
batch_place Place.BatchOpen e = never (sym e)
batch_place Place.AddendumDue e = never (sym e)
batch_place Place.EntryDone e = never (sym e)
batch_place Place.BatchDone e = refl
batch_place Place.FileDone e = never (sym e)

-- k records and one more stand in a file
whole_before : (way : Way) (k n : ℕ) → k < n / record_bytes way → record_bytes way * (k + 1) ≤ n
whole_before Way.Plain k n h = omega arith
whole_before Way.Lined k n h = omega arith

run_none : (way : Way) (st : State) (last : ℕ) (s : Sums) (h : List ℕ) → run_from st (map (piece_of way) (mended_from way last s h [])) ≡ finished st
unfolding run_from mended_from
run_none way st last s h = refl

run_at : (st : State) (p : Piece) (ps : List Piece) → run_from st (p ∷ ps) ≡ onward (record_of st p).verdict (st.sums.records + 1) (run_from (record_of st p).state ps)
unfolding run_from
run_at st p ps = refl

-- where nothing behind a record can be refused, its verdict is the answer
ended_by : (v : Verdict) (n : ℕ) (rest : Checked) → (v ≡ Ok tt → rest.answer ≡ Ok tt) → (onward v n rest).answer ≡ said_of v n
ended_by (Ok _) n rest g = g refl
ended_by (Err wrong) n rest g = refl

module _ (way : Way) (f : List ℕ) where
  abbrev olds : List (List ℕ)
  olds = raw_records way f

  -- what is left to check behind k records, of which the last has type `last`
  abbrev pub left_over : State → ℕ → ℕ → Checked
  left_over st last k = run_from st (map (piece_of way) (mended_from way last st.sums st.header (drop k olds)))

  -- the check goes with mending, up to the 9
  pub record Judging (st : State) (last k : ℕ) : Type 0 where
    pub fair : Fair st
    pub walk : Walked way f last st.sums st.header k
    pub open_still : file_done st.place ≡ false
    pub eight : eqb last 56 ≡ batch_done st.place
    pub run : left_over st last k ≡ checked_of way (mended_file way f)

  begun_start : length_fits way (length f) ≡ true → Fair start → Judging start 0 0
  begun_start h g =
      record {
        fair = g;
        walk = walked_first way f;
        open_still = refl;
        eight = refl;
        run = sym (mended_checked way f h);
      }

  pub begun : (st : State) → length_fits way (length f) ≡ true → st ≡ start → Fair st → Judging st 0 0
  begun st h e g = subst (λ x. Judging x 0 0) (sym e) (begun_start h (subst Fair e g))

  -- the data end before the 9
  pub judged_short : (st : State) (last k : ℕ) → Judging st last k → length olds ≤ k → refusal Fault.Ended (st.sums.records + 1) 0 ≡ (checked_of way (mended_file way f)).answer
  judged_short st last k j h =
      let ends =
      ap (λ rs. run_from st (map (piece_of way) (mended_from way last st.sums st.header rs))) (drop_of_length-le olds {i = k} h)
      ∙ run_none way st last st.sums st.header
      ∙ ap (λ b. pick b (accepted st) (refused Fault.Ended (st.sums.records + 1) 0)) (not_complete st.place st.sums.records j.open_still) in
      ap (λ (x : Checked). x.answer) (sym ends ∙ j.run)

  -- ---- a record before the 9, and the 9

  module _ (st : State) (last k : ℕ) (j : Judging st last k) (r : List ℕ) (a : At olds k r) where
    abbrev rest : List (List ℕ)
    rest = drop (k + 1) olds

    abbrev tried_as : List ℕ → Stepped
    tried_as m = record_of st (piece_of way m)

    abbrev m : List ℕ
    m = mended_record st.sums st.header r

    abbrev c : List ℕ
    c = refilled (file_control_from st.sums) r

    abbrev fillers : List (List ℕ)
    fillers = replicate (fillers_after (st.sums.records + 1)) (closed_by way filler_record)

    abbrev behind : Checked
    behind = run_from (tried_as m).state (map (piece_of way) (mended_from way (type_of r) (sums_past st.sums r) (header_past st.header r) rest))

    number : st.sums.records + 1 ≡ k + 1
    number = ap (λ n. n + 1) j.walk.count

    left_here : left_over st last k ≡ run_from st (map (piece_of way) (mended_from way last st.sums st.header (r ∷ rest)))
    left_here = ap (λ rs. run_from st (map (piece_of way) (mended_from way last st.sums st.header rs))) a.here

    left_other : ends_file last r ≡ false → left_over st last k ≡ onward (tried_as m).verdict (st.sums.records + 1) behind
    left_other e =
        left_here
        ∙ ap (λ rs. run_from st (map (piece_of way) rs)) (at_other way last st.sums st.header r rest e)
        ∙ run_at st (piece_of way m) (map (piece_of way) (mended_from way (type_of r) (sums_past st.sums r) (header_past st.header r) rest))

    left_nine : ends_file last r ≡ true → left_over st last k ≡ onward (tried_as c).verdict (st.sums.records + 1) (run_from (tried_as c).state (map (piece_of way) fillers))
    left_nine e =
        left_here
        ∙ ap (λ rs. run_from st (map (piece_of way) rs)) (at_nine way last st.sums st.header r rest e)
        ∙ run_at st (piece_of way c) (map (piece_of way) fillers)

    -- it is refused
    pub judged_failed : (wrong : Wrong) → told (Err wrong) st ≡ tried_as m → ends_file last r ≡ false → refusal wrong.fault (k + 1) wrong.field ≡ (checked_of way (mended_file way f)).answer
    judged_failed wrong t e =
        let v = ap (λ (x : Stepped). x.verdict) (sym t) in
        ap (λ n. refusal wrong.fault n wrong.field) (sym number) ∙ ap (λ (x : Checked). x.answer) (sym (left_other e ∙ ap (λ x. onward x (st.sums.records + 1) behind) v) ∙ j.run)

    turn_at : ends_file last r ≡ false → (tried_as m).verdict ≡ Ok tt → Fair (tried_as m).state → Judging (tried_as m).state (type_of r) (k + 1)
    turn_at e v g =
        let o = onward_together way st last r j.walk.header j.open_still j.eight e v in
        let next = (tried_as m).state in
        record {
          fair = g;
          walk =
              subst (λ s. Walked way f (type_of r) s next.header (k + 1)) (sym o.sums)
              (subst (λ h. Walked way f (type_of r) (sums_past st.sums r) h (k + 1)) (sym o.header) (walked_past way f last st.sums st.header k j.walk r a e));
          open_still = o.open_still;
          eight = o.eight;
          run =
              ap₂ (λ s h. run_from next (map (piece_of way) (mended_from way (type_of r) s h rest))) o.sums o.header
              ∙ sym (left_other e ∙ ap (λ x. onward x (st.sums.records + 1) behind) v)
              ∙ j.run;
        }

    -- it passes
    pub judged_on : (next : State) → told (Ok tt) next ≡ tried_as m → ends_file last r ≡ false → Fair next → Judging next (type_of r) (k + 1)
    judged_on next t e g =
        let on = turn_at e (ap (λ (x : Stepped). x.verdict) (sym t)) (subst (λ (x : Stepped). Fair x.state) t g) in
        subst (λ (x : Stepped). Judging x.state (type_of r) (k + 1)) (sym t) on

    -- a 9 that passes leaves a file whose fillers pass
    nine_passes : ends_file last r ≡ true → (tried_as c).verdict ≡ Ok tt → (run_from (tried_as c).state (map (piece_of way) fillers)).answer ≡ Ok tt
    nine_passes e v =
        let s = st.sums in
        let text = take 94 c in
        let line = line_of st text in
        let fields = fields_from (first_field line) (rows_of line) s st.header text in
        let both = step_passed (piece_of way c).closed fields (tally st line text) st v in
        let here : st.place ≡ Place.BatchDone = batch_place st.place (sym (and_both (eqb (type_of r) 57) (eqb last 56) e).1 ∙ j.eight) in
        let control : line ≡ Line.FileControl = ap₂ (λ p b. line_at p s.records b) here (columns_type c ∙ file_type s r) in
        let to : (tried_as c).state ≡ state Place.FileDone (add_record s) st.header st.bycode = both.1 ∙ ap (λ l. tally st l text) control in
        ap (λ (x : State). (run_from x (map (piece_of way) fillers)).answer) to ∙ ap (λ (x : Checked). x.answer) (fillers_together way (add_record s) st.header st.bycode)

    -- it is the 9, and its verdict is the answer
    pub judged_nine : (v : Verdict) (next : State) → told v next ≡ tried_as c → ends_file last r ≡ true → said_of v (k + 1) ≡ (checked_of way (mended_file way f)).answer
    judged_nine v next t e =
        ap (λ n. said_of v n) (sym number)
        ∙ ap (λ (x : Stepped). said_of x.verdict (st.sums.records + 1)) t
        ∙ sym (ended_by (tried_as c).verdict (st.sums.records + 1) (run_from (tried_as c).state (map (piece_of way) fillers)) (nine_passes e))
        ∙ ap (λ (x : Checked). x.answer) (sym (left_nine e) ∙ j.run)

    pub judged_there : ends_file last r ≡ true → NineAt way f k
    judged_there e =
        record {
          before = nine_found way f last st.sums st.header k j.walk r a e;
          inside = whole_before way k (length f) (omega (arith, a.inside, records_many way f));
        }
