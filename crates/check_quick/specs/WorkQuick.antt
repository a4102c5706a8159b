-- What the quick test of the two commonest record types asks, and no rule of its own: that every field of theirs is right.
use Rattle.std.specs.Prelude.{ℕ, Bool, ◌&&◌, List, is_ok}
use Rattle.layout.specs.Fields.{entry, addendum, part}
use Rattle.check_codes.specs.Codes.{code_of}
use Rattle.check_alone.specs.Kinds.{fixed, optional_text, mandatory_text}
use Rattle.check_alone.specs.Own.{bank, account}
use Rattle.check_across.specs.declared.Sums.{Sums}
use Rattle.check_across.specs.Across.{entry_code, code_rule, check_digit_rule, amount_rule, flag_rule, trace_rule, entry_trace_rule}

-- fields 2 to 6 of an entry
abbrev pub entry_front : List ℕ → List ℕ → Bool
entry_front h r =
    is_ok (code_rule h (part entry 2 r)) && is_ok (bank (part entry 3 r)) && is_ok (check_digit_rule r (part entry 4 r))
    && is_ok (account (part entry 5 r)) && is_ok (amount_rule r (part entry 6 r))

-- fields 7 to 11 of an entry
abbrev pub entry_back : Sums → List ℕ → List ℕ → Bool
entry_back s h r =
    is_ok (optional_text (part entry 7 r)) && is_ok (mandatory_text (part entry 8 r)) && is_ok (optional_text (part entry 9 r))
    && is_ok (flag_rule (code_of (entry_code r)) (part entry 10 r)) && is_ok (trace_rule s h (part entry 11 r))

-- fields 2 to 5 of an addendum
abbrev pub addendum_all : Sums → List ℕ → Bool
addendum_all s r =
    is_ok (fixed 5 (part addendum 2 r)) && is_ok (optional_text (part addendum 3 r)) && is_ok (fixed 1 (part addendum 4 r))
    && is_ok (entry_trace_rule s (part addendum 5 r))
