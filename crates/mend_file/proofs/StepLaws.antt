-- One record of the mended file checked: it has other columns, and its line end is its own.
-- Assumes nothing but what a statement says.
use Rattle.std.specs.Prelude.{Result, Ok, Err}
use Rattle.std.specs.Result.{is_ok}
use mathlib.Core.Path.{◌≡◌, refl, sym, ap, ap₂, ◌∙◌}
use mathlib.Core.Bool.{Bool, true, false, ◌&&◌}
use mathlib.Core.List.{List, ◌++◌, append-nil}
use Prim.Native.Nat.{ℕ, ◌≤◌}
use native.Mathlib.Omega.{arith}
use lib.Dec.{eqb, ltb}
use lib.ListN.{length, take, drop, length-take, take-append-drop, drop_of_length-le}
use lib.Seq.{take_at, drop_at}
use Rattle.text.specs.Decimal.{pick}
use Rattle.text.specs.Same.{same_bytes}
use Rattle.layout.specs.declared.Fault.{Fault}
use Rattle.layout.specs.declared.Way.{Way}
use Rattle.layout.specs.Fields.{rows_of, first_field}
use Rattle.layout.specs.Ways.{end_of}
use Rattle.check_across.specs.declared.Sums.{Sums}
use Rattle.check_sums.specs.declared.State.{State}
use Rattle.check_sums.specs.Sums.{tally}
use Rattle.check_record.specs.declared.Wrong.{Wrong}
use Rattle.check_record.specs.Verdict.{Verdict, Stepped, wrong_of, stepped_as}
use Rattle.check_record.specs.Record.{Piece, fields_from, line_of, stepped, bare, closing, record_of, piece_of}
use Rattle.table_form.specs.Forms.{batch_control_from}
use Rattle.mend.specs.Mend.{type_of, refilled, mended_record}
use Rattle.mend.proofs.Together.{failed_not, columns_type}

abbrev piece : List ℕ → Bool → Piece
piece c b = record { columns = c; closed = b }

abbrev told : Verdict → State → Stepped
told v st = record { verdict = v; state = st }

refilled_piece : (way : Way) (c r : List ℕ) → length c ≡ 94 → piece_of way (refilled c r) ≡ piece c (piece_of way r).closed
refilled_piece way c r l = ap₂ piece (take_at c (drop 94 r) 94 l) (ap (λ x. same_bytes x (end_of way)) (drop_at c (drop 94 r) 94 l))

-- a wrong field comes before the line end
stop_by : (b : Bool) (v : Verdict) (next st : State) (wrong : Wrong) → (stepped v next st).verdict ≡ Err wrong → stepped (closing b v) next st ≡ told (Err wrong) st
stop_by b (Ok _) next st wrong e = failed_not wrong.fault wrong.field (sym e)
stop_by true (Err _) next st wrong e = ap (λ v. told v st) e
stop_by false (Err _) next st wrong e = ap (λ v. told v st) e

unclosed_by : (v : Verdict) (next st : State) → (stepped v next st).verdict ≡ Ok tt → stepped (closing false v) next st ≡ told (Err (wrong_of Fault.LineEnd 0)) st
unclosed_by (Ok _) next st e = refl
unclosed_by (Err wrong) next st e = failed_not wrong.fault wrong.field e

-- the columns c in place of those of r: `tried` is what they give by themselves
module _ (way : Way) (st : State) (c r : List ℕ) (l : length c ≡ 94) where
  abbrev fields : Verdict
  fields = fields_from (first_field (line_of st c)) (rows_of (line_of st c)) st.sums st.header c

  abbrev past : State
  past = tally st (line_of st c) c

  by_line_end : record_of st (piece_of way (refilled c r)) ≡ record_of st (piece c (piece_of way r).closed)
  by_line_end = ap (record_of st) (refilled_piece way c r l)

  pub refilled_failed : (wrong : Wrong) → told (Err wrong) st ≡ record_of st (bare c) → told (Err wrong) st ≡ record_of st (piece_of way (refilled c r))
  refilled_failed wrong e = sym (by_line_end ∙ stop_by (piece_of way r).closed fields past st wrong (sym (ap (λ (x : Stepped). x.verdict) e)))

  module _ (next : State) (e : told (Ok tt) next ≡ record_of st (bare c)) where
    pub refilled_unclosed : (piece_of way r).closed ≡ false → told (Err (wrong_of Fault.LineEnd 0)) st ≡ record_of st (piece_of way (refilled c r))
    refilled_unclosed b = sym (by_line_end ∙ ap (λ x. record_of st (piece c x)) b ∙ unclosed_by fields past st (sym (ap (λ (x : Stepped). x.verdict) e)))

    pub refilled_closed : (piece_of way r).closed ≡ true → told (Ok tt) next ≡ record_of st (piece_of way (refilled c r))
    refilled_closed b = e ∙ sym (by_line_end ∙ ap (λ x. record_of st (piece c x)) b)

  -- the same of a result as it is handed on
  pub refilled_stopped : (tried : Result State Wrong) → stepped_as st tried ≡ record_of st (bare c) → is_ok tried ≡ true → (piece_of way r).closed ≡ false → told (Err (wrong_of Fault.LineEnd 0)) st ≡ record_of st (piece_of way (refilled c r))
  refilled_stopped (Ok next) e o b = refilled_unclosed next e b
  refilled_stopped (Err wrong) e o b = cc

  pub refilled_tried : (tried : Result State Wrong) → stepped_as st tried ≡ record_of st (bare c) → (is_ok tried ≡ true → (piece_of way r).closed ≡ true) → stepped_as st tried ≡ record_of st (piece_of way (refilled c r))
  refilled_tried (Ok next) e b = refilled_closed next e (b refl)
  refilled_tried (Err wrong) e b = refilled_failed wrong e

-- a mended record is its mended columns, with the line end that it had
mended_by : (t : Bool) (s : Sums) (h r : List ℕ)
    → refilled (pick t (refilled (batch_control_from s h) (take 94 r)) (take 94 r)) r ≡ pick t (refilled (batch_control_from s h) r) r
mended_by true s h r =
    let short : length (take 94 r) ≤ 94 = simp length-take (omega arith) in
    ap (λ x. refilled x r) (ap (λ x. batch_control_from s h ++ x) (drop_of_length-le (take 94 r) {i = 94} short) ∙ append-nil (batch_control_from s h))
mended_by false s h r = take-append-drop 94 r

pub mended_columns : (s : Sums) (h r : List ℕ) → refilled (mended_record s h (take 94 r)) r ≡ mended_record s h r
mended_columns s h r =
    ap (λ b. refilled (pick (eqb b 56 && ltb 0 s.batches) (refilled (batch_control_from s h) (take 94 r)) (take 94 r)) r) (columns_type r)
    ∙ mended_by (eqb (type_of r) 56 && ltb 0 s.batches) s h r
