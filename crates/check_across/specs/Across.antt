-- What records say by the fields' numbers, and the rules that look at another field or an earlier record.
use Rattle.std.specs.Prelude.{Ok}
use Rattle.std.specs.Prelude.{ℕ, Bool, ◌&&◌, ◌||◌, not, List, [], ◌∷◌, leb, ltb, eqb, get_or}
use Rattle.text.specs.Decimal.{pick, digits, value}
use Rattle.text.specs.Rows.{columns}
use Rattle.text.specs.Same.{same_bytes}
use Rattle.layout.specs.declared.Fault.{Fault}
use Rattle.layout.specs.declared.Near.{Near}
use Rattle.layout.specs.Fields.{batch_header, entry, part}
use Rattle.check_codes.specs.declared.Code.{Code}
use Rattle.check_codes.specs.Codes.{code_of, known, allowed, carries, remits}
use Rattle.check_digit.specs.CheckDigit.{check_digit}
use Rattle.check_alone.specs.Mark.{Mark}
use Rattle.check_alone.specs.Kinds.{need}
use Rattle.check_across.specs.declared.Numbers.{Numbers}
use Rattle.check_across.specs.declared.Sums.{Sums}

-- what an entry's record says, by the fields' numbers
abbrev pub entry_code : List ℕ → ℕ
entry_code r = value (part entry 2 r)

abbrev pub entry_bank : List ℕ → ℕ
entry_bank r = value (part entry 3 r)

abbrev pub entry_amount : List ℕ → ℕ
entry_amount r = value (part entry 6 r)

abbrev pub entry_flag : List ℕ → List ℕ
entry_flag r = part entry 10 r

-- "the first eight are field 12 of record 5, the last seven": the trace's two parts
abbrev pub trace_bank : List ℕ → List ℕ
trace_bank trace = columns 1 8 trace

abbrev pub trace_number : List ℕ → ℕ
trace_number trace = value (columns 9 15 trace)

abbrev pub entry_trace : List ℕ → ℕ
entry_trace r = trace_number (part entry 11 r)

abbrev pub batch_class : List ℕ → ℕ
batch_class h = value (part batch_header 2 h)

abbrev pub batch_bank : List ℕ → List ℕ
batch_bank h = part batch_header 12 h

abbrev pub batch_number : List ℕ → ℕ
batch_number h = value (part batch_header 13 h)

abbrev pub is_ppd : List ℕ → Bool
is_ppd h = same_bytes (part batch_header 6 h) (80 ∷ 80 ∷ 68 ∷ [])

-- zero-dollar entries stand "in CCD batches only": 28 "at field 2 after 15 in a PPD batch"
abbrev pub class_takes : List ℕ → Code → Bool
class_takes h c = not (remits c && is_ppd h)

-- record 6, field 2: "digits; a known code (11); under 220 credit codes only, under 225 debit codes only, under 200 either (15)", and 28
abbrev pub code_rule : List ℕ → List ℕ → Mark
code_rule h p =
    need (digits p) Fault.Digits
    (need (known (code_of (value p))) Fault.Value
    (need (allowed (batch_class h) (code_of (value p))) Fault.Side
    (need (class_takes h (code_of (value p))) Fault.Remittance (Ok tt))))

-- record 6, field 4: "a digit; the check digit of field 3 (12)"
abbrev pub check_digit_rule : List ℕ → List ℕ → Mark
check_digit_rule r p = need (digits p) Fault.Digits (need (eqb (value p) (check_digit (part entry 3 r))) Fault.CheckDigit (Ok tt))

-- record 6, field 6: "digits, amount in cents (14)"
abbrev pub amount_rule : List ℕ → List ℕ → Mark
amount_rule r p = need (digits p) Fault.Digits (need (carries (code_of (entry_code r)) (value p)) Fault.Amount (Ok tt))

-- "the last seven digits must be greater than in the entry before within the batch", and "a first entry still has at least 1"
abbrev pub trace_follows : Sums → ℕ → Bool
trace_follows s n = pick (eqb s.batchrecords 0) (leb 1 n) (ltb s.trace n)

-- record 6, field 11: "digits; the first eight are field 12 of record 5, the last seven .. (16)"
abbrev pub trace_rule : Sums → List ℕ → List ℕ → Mark
trace_rule s h p =
    need (digits p) Fault.Digits
    (need (same_bytes (trace_bank p) (batch_bank h) && trace_follows s (trace_number p)) Fault.Trace (Ok tt))

-- record 7, field 5: "digits, the last seven of the entry's trace (16)"
abbrev pub entry_trace_rule : Sums → List ℕ → Mark
entry_trace_rule s p = need (digits p) Fault.Digits (need (eqb (value p) s.trace) Fault.Trace (Ok tt))

-- record 5, field 13: "digits, at least 1 and greater than the batch number before (17)"; before the first batch that is 0
abbrev pub batch_number_rule : Sums → List ℕ → Mark
batch_number_rule s p =
    need (digits p) Fault.Digits (need (leb 1 (value p) && ltb s.number (value p)) Fault.BatchNumber (Ok tt))

-- record 6, field 10: "'0' or '1' (11)"; of a zero-dollar code 28 "at field 10 after 11 without the addendum"
abbrev pub flag_rule : Code → List ℕ → Mark
flag_rule c p =
    need (eqb (get_or p 0 0) 48 || eqb (get_or p 0 0) 49) Fault.Value
    (need (not (remits c && not (eqb (get_or p 0 0) 49))) Fault.Remittance (Ok tt))

abbrev pub near_rule : Sums → List ℕ → List ℕ → Near → List ℕ → Mark
near_rule s h r Near.Code p = code_rule h p
near_rule s h r Near.CheckDigit p = check_digit_rule r p
near_rule s h r Near.Amount p = amount_rule r p
near_rule s h r Near.Trace p = trace_rule s h p
near_rule s h r Near.EntryTrace p = entry_trace_rule s p
near_rule s h r Near.BatchNumber p = batch_number_rule s p
near_rule s h r Near.Flag p = flag_rule (code_of (entry_code r)) p

-- an entry's numbers
abbrev pub said_of : List ℕ → Numbers
said_of r = record { code = entry_code r; bank = entry_bank r; amount = entry_amount r; trace = entry_trace r }
