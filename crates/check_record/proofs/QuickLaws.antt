-- The quick tests say what the walk along the table would.
-- Assumes nothing.
use Rattle.std.specs.Prelude.{Ok}
use Prim.Native.Nat.{ℕ}
use mathlib.Core.Path.{◌≡◌, refl}
use mathlib.Core.Bool.{true}
use mathlib.Core.List.{List}
use Rattle.text.proofs.DecimalLaws.{and_both}
use Rattle.layout.specs.Fields.{entry, addendum, part}
use Rattle.check_codes.specs.Codes.{code_of}
use Rattle.check_alone.specs.Kinds.{fixed, optional_text, mandatory_text}
use Rattle.check_alone.specs.Own.{bank, account}
use Rattle.check_across.specs.declared.Sums.{Sums}
use Rattle.check_across.specs.Across.{entry_code, code_rule, check_digit_rule, amount_rule, flag_rule, trace_rule, entry_trace_rule}
use Rattle.check_quick.specs.WorkQuick.{entry_front, entry_back, addendum_all}
use Rattle.check_record.specs.Record.{fields_from}
use Rattle.check_record.proofs.Laws.{right_is}

pub entry_passes : (s : Sums) (h r : List ℕ) → entry_front h r ≡ true → entry_back s h r ≡ true → fields_from 1 entry s h r ≡ Ok tt
unfolding fields_from
entry_passes s h r f b =
    let f4 = and_both _ _ f in
    let f3 = and_both _ _ f4.0 in
    let f2 = and_both _ _ f3.0 in
    let f1 = and_both _ _ f2.0 in
    let b4 = and_both _ _ b in
    let b3 = and_both _ _ b4.0 in
    let b2 = and_both _ _ b3.0 in
    let b1 = and_both _ _ b2.0 in
    rw (
      right_is (code_rule h (part entry 2 r)) f1.0,
      right_is (bank (part entry 3 r)) f1.1,
      right_is (check_digit_rule r (part entry 4 r)) f2.1,
      right_is (account (part entry 5 r)) f3.1,
      right_is (amount_rule r (part entry 6 r)) f4.1,
      right_is (optional_text (part entry 7 r)) b1.0,
      right_is (mandatory_text (part entry 8 r)) b1.1,
      right_is (optional_text (part entry 9 r)) b2.1,
      right_is (flag_rule (code_of (entry_code r)) (part entry 10 r)) b3.1,
      right_is (trace_rule s h (part entry 11 r)) b4.1,
    )
    refl

pub addendum_passes : (s : Sums) (h r : List ℕ) → addendum_all s r ≡ true → fields_from 1 addendum s h r ≡ Ok tt
unfolding fields_from
addendum_passes s h r a =
    let a3 = and_both _ _ a in
    let a2 = and_both _ _ a3.0 in
    let a1 = and_both _ _ a2.0 in
    rw (
      right_is (fixed 5 (part addendum 2 r)) a1.0,
      right_is (optional_text (part addendum 3 r)) a1.1,
      right_is (fixed 1 (part addendum 4 r)) a2.1,
      right_is (entry_trace_rule s (part addendum 5 r)) a3.1,
    )
    refl
