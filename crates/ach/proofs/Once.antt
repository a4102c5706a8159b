-- A result stands for one answer: so two results that a contract permits are one.
-- Assumes nothing.
use Rattle.std.specs.Prelude.{ℕ, ℤ, Result, Ok, Err, Option, Some, None}
use mathlib.Core.Path.{◌≡◌, refl, sym, ap, ◌∙◌}
use mathlib.Core.Bool.{false≢true}
use Rattle.layout.specs.declared.Refusal.{Refusal}
use Rattle.layout.specs.declared.Acceptance.{Acceptance}
use Rattle.layout.specs.Answers.{Checked, checked_as, Made, made_as, Altered, altered_as}
use Rattle.find_entry.specs.declared.Span.{Span}
use Rattle.find_entry.specs.AskedSpan.{AskedSpan, asked_as}
use Rattle.funds.specs.declared.Funds.{Funds}
use Rattle.funds.specs.declared.Over.{Over}
use Rattle.funds.specs.RunsOut.{RunsOut, row_over, runs_out_as}
use Rattle.mend.specs.declared.Lengths.{Lengths}
use Rattle.mend.specs.Mended.{Mended, mended_as}

-- a refusal of one kind of result is the same refusal of another
refused_once : {A : Type 0} {r s : Refusal} → ◌≡◌ {A = Result (Unit {0}) Refusal} (Err r) (Err s) → ◌≡◌ {A = Result A Refusal} (Err r) (Err s)
refused_once {A = A} {r = r} e = ap (carried r) e
  where
    carried : Refusal → Result (Unit {0}) Refusal → Result A Refusal
    carried r (Ok _) = Err r
    carried r (Err s) = Err s

pub checked_once : (x y : Result Acceptance Refusal) → checked_as x ≡ checked_as y → x ≡ y
checked_once (Ok a) (Ok b) e =
    ap
    (λ (c : Checked).
    Ok
    (record {
      batches = c.batches;
      entries = c.entries;
      addenda = c.addenda;
      debit = c.debit;
      credit = c.credit;
      bycode = c.bycode;
    }))
    e
checked_once (Ok a) (Err r) e = let f = ap (λ (c : Checked). c.answer) e in cc
checked_once (Err r) (Ok a) e = let f = ap (λ (c : Checked). c.answer) e in cc
checked_once (Err r) (Err s) e = refused_once (ap (λ (c : Checked). c.answer) e)

pub made_once : (x y : Result ℕ Refusal) → made_as x ≡ made_as y → x ≡ y
made_once (Ok n) (Ok m) e = ap (λ (c : Made). Ok c.length) e
made_once (Ok n) (Err r) e = let f = ap (λ (c : Made). c.answer) e in cc
made_once (Err r) (Ok n) e = let f = ap (λ (c : Made). c.answer) e in cc
made_once (Err r) (Err s) e = refused_once (ap (λ (c : Made). c.answer) e)

pub altered_once : (x y : Result ℤ Refusal) → altered_as x ≡ altered_as y → x ≡ y
altered_once (Ok n) (Ok m) e = ap (λ (c : Altered). Ok c.difference) e
altered_once (Ok n) (Err r) e = let f = ap (λ (c : Altered). c.answer) e in cc
altered_once (Err r) (Ok n) e = let f = ap (λ (c : Altered). c.answer) e in cc
altered_once (Err r) (Err s) e = refused_once (ap (λ (c : Altered). c.answer) e)

pub asked_once : (x y : Result Span Refusal) → asked_as x ≡ asked_as y → x ≡ y
asked_once (Ok p) (Ok q) e = ap (λ (c : AskedSpan). Ok (record { from = c.from; size = c.size })) e
asked_once (Ok p) (Err r) e = let f = ap (λ (c : AskedSpan). c.answer) e in cc
asked_once (Err r) (Ok p) e = let f = ap (λ (c : AskedSpan). c.answer) e in cc
asked_once (Err r) (Err s) e = refused_once (ap (λ (c : AskedSpan). c.answer) e)

pub mended_once : (x y : Result Lengths Refusal) → mended_as x ≡ mended_as y → x ≡ y
mended_once (Ok p) (Ok q) e = ap (λ (c : Mended). Ok (record { length = c.length; listed = c.listed })) e
mended_once (Ok p) (Err r) e = let f = ap (λ (c : Mended). c.answer) e in cc
mended_once (Err r) (Ok p) e = let f = ap (λ (c : Mended). c.answer) e in cc
mended_once (Err r) (Err s) e = refused_once (ap (λ (c : Mended). c.answer) e)

pub funds_once : (x y : Funds) → runs_out_as x ≡ runs_out_as y → x ≡ y
funds_once x y e = both x.rows y.rows x.over y.over e
  where
    both : (n m : ℕ) (p q : Option Over) → row_over n p ≡ row_over m q → ◌≡◌ {A = Funds} (record { rows = n; over = p }) (record { rows = m; over = q })
    both n m (Some p) (Some q) e =
        ap (λ (r : RunsOut). record { rows = r.rows; over = Some (record { «record» = r.record; credits = r.credits }) }) e
    both n m (Some p) None e = absurd (false≢true (sym (ap (λ (r : RunsOut). r.found) e)))
    both n m None (Some q) e = absurd (false≢true (ap (λ (r : RunsOut). r.found) e))
    both n m None None e = ap (λ (r : RunsOut). record { rows = r.rows; over = None }) e
