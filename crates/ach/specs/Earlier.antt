-- The rules as they stood before a request, from the last request that moved them to the first. "What one state accepts, the next
-- accepts, with the same counts and totals" can be said only of both.
use Rattle.std.specs.Prelude.{Ok}
use Rattle.std.specs.Prelude.{ℕ, ◌+◌, Bool, ◌&&◌, ◌||◌, not, List, [], ◌∷◌, map, leb, eqb, length, get_or}
use Rattle.text.specs.Decimal.{pick, every, is_digit, digits, value}
use Rattle.text.specs.Rows.{columns}
use Rattle.text.specs.Same.{same_bytes}
use Rattle.layout.specs.declared.Fault.{Fault}
use Rattle.layout.specs.Answers.{Checked}
use Rattle.layout.specs.declared.Kind.{Kind}
use Rattle.layout.specs.declared.Near.{Near}
use Rattle.layout.specs.declared.Own.{Own}
use Rattle.layout.specs.declared.Row.{Row}
use Rattle.layout.specs.declared.Way.{Way}
use Rattle.layout.specs.Fields.{rows_of, first_field}
use Rattle.check_codes.specs.declared.Code.{Code}
use Rattle.check_codes.specs.Codes.{code_of, known, allowed, carries, remits}
use Rattle.check_alone.specs.Mark.{Mark}
use Rattle.check_alone.specs.Kinds.{need, blank}
use Rattle.check_alone.specs.Own.{unbroken, own_rule}
use Rattle.check_across.specs.declared.Sums.{Sums}
use Rattle.check_across.specs.Across.{entry_code, batch_class, trace_bank, trace_number, batch_bank, near_rule}
use Rattle.check_field.specs.Field.{kind_rule}
use Rattle.check_sums.specs.declared.State.{State}
use Rattle.check_record.specs.Verdict.{Verdict}
use Rattle.check_record.specs.Verdict.{Stepped}
use Rattle.check_sums.specs.Sums.{start, tally}
use Rattle.check_record.specs.Record.{Piece, found, line_of, stepped, closing, refused, onward, finished, length_fits, raw_records, piece_of}

-- ---- the check by a rule for fields, whichever it is: with `field_of` it is the check

abbrev pub Rule : Type 0
Rule = Sums → List ℕ → List ℕ → Row → Mark

unfoldable pub fields_by : Rule → ℕ → List Row → Sums → List ℕ → List ℕ → Verdict
fields_by rule k [] s h r = Ok tt
fields_by rule k (row ∷ rows) s h r = found (rule s h r row) k (fields_by rule (k + 1) rows s h r)

abbrev pub record_by : Rule → State → Piece → Stepped
record_by rule st p =
    stepped
    (closing p.closed
    (fields_by rule (first_field (line_of st p.columns)) (rows_of (line_of st p.columns)) st.sums st.header p.columns))
    (tally st (line_of st p.columns) p.columns) st

unfoldable pub run_by : Rule → State → List Piece → Checked
run_by rule st [] = finished st
run_by rule st (p ∷ ps) = onward (record_by rule st p).verdict (st.sums.records + 1) (run_by rule (record_by rule st p).state ps)

abbrev pub checked_by : Rule → Way → List ℕ → Checked
checked_by rule way f =
    pick (length_fits way (length f)) (run_by rule start (map (piece_of way) (raw_records way f))) (refused Fault.Length 0 0)

-- the rules, with these in the place of two groups of them
abbrev pub kind_with : (Near → List ℕ → Mark) → (Own → List ℕ → Mark) → Sums → List ℕ → List ℕ → Kind → List ℕ → Mark
kind_with near own s h r Kind.Type p = kind_rule s h r Kind.Type p
kind_with near own s h r Kind.Misplaced p = kind_rule s h r Kind.Misplaced p
kind_with near own s h r Kind.Past p = kind_rule s h r Kind.Past p
kind_with near own s h r Kind.Nines p = kind_rule s h r Kind.Nines p
kind_with near own s h r (Kind.Fixed n) p = kind_rule s h r (Kind.Fixed n) p
kind_with near own s h r Kind.Blanks p = kind_rule s h r Kind.Blanks p
kind_with near own s h r Kind.Digits p = kind_rule s h r Kind.Digits p
kind_with near own s h r Kind.Optional p = kind_rule s h r Kind.Optional p
kind_with near own s h r Kind.Mandatory p = kind_rule s h r Kind.Mandatory p
kind_with near own s h r Kind.Date p = kind_rule s h r Kind.Date p
kind_with near own s h r (Kind.Own o) p = own o p
kind_with near own s h r (Kind.Near n) p = near n p
kind_with near own s h r (Kind.AsBatch c) p = kind_rule s h r (Kind.AsBatch c) p
kind_with near own s h r (Kind.Count t) p = kind_rule s h r (Kind.Count t) p
kind_with near own s h r (Kind.Hash t) p = kind_rule s h r (Kind.Hash t) p
kind_with near own s h r (Kind.Total t) p = kind_rule s h r (Kind.Total t) p

-- ---- before request 7: "Source 000's codes 24, 29, 34, 39 are not known here", and column 79 is asked by itself

abbrev pub code_before : ℕ → Code
code_before n = pick (remits (code_of n)) Code.Unknown (code_of n)

abbrev pub code_unremitted : List ℕ → List ℕ → Mark
code_unremitted h p =
    need (digits p) Fault.Digits
    (need (known (code_before (value p))) Fault.Value (need (allowed (batch_class h) (code_before (value p))) Fault.Side (Ok tt)))

abbrev pub amount_unremitted : List ℕ → List ℕ → Mark
amount_unremitted r p = need (digits p) Fault.Digits (need (carries (code_before (entry_code r)) (value p)) Fault.Amount (Ok tt))

abbrev pub flag_unremitted : List ℕ → Mark
flag_unremitted p = need (eqb (get_or p 0 0) 48 || eqb (get_or p 0 0) 49) Fault.Value (Ok tt)

abbrev pub near_unremitted : Sums → List ℕ → List ℕ → Near → List ℕ → Mark
near_unremitted s h r Near.Code p = code_unremitted h p
near_unremitted s h r Near.CheckDigit p = near_rule s h r Near.CheckDigit p
near_unremitted s h r Near.Amount p = amount_unremitted r p
near_unremitted s h r Near.Trace p = near_rule s h r Near.Trace p
near_unremitted s h r Near.EntryTrace p = near_rule s h r Near.EntryTrace p
near_unremitted s h r Near.BatchNumber p = near_rule s h r Near.BatchNumber p
near_unremitted s h r Near.Flag p = flag_unremitted p

abbrev pub unremitted : Rule
unremitted s h r row = kind_with (near_unremitted s h r) own_rule s h r row.kind (columns row.first row.last r)

-- ---- before request 3: no letters in an account either

abbrev pub is_unlettered : ℕ → Bool
is_unlettered b = is_digit b || eqb b 45 || eqb b 32

abbrev pub account_unlettered : List ℕ → Mark
account_unlettered p =
    need (every is_unlettered p) Fault.Text (need (not (blank p)) Fault.Blank (need (unbroken p) Fault.Leading (Ok tt)))

abbrev pub own_unlettered : Own → List ℕ → Mark
own_unlettered Own.Destination p = own_rule Own.Destination p
own_unlettered Own.Origin p = own_rule Own.Origin p
own_unlettered Own.Time p = own_rule Own.Time p
own_unlettered Own.Modifier p = own_rule Own.Modifier p
own_unlettered Own.Class p = own_rule Own.Class p
own_unlettered Own.EntryClass p = own_rule Own.EntryClass p
own_unlettered Own.Bank p = own_rule Own.Bank p
own_unlettered Own.Account p = account_unlettered p

abbrev pub unlettered : Rule
unlettered s h r row = kind_with (near_unremitted s h r) own_unlettered s h r row.kind (columns row.first row.last r)

-- ---- before request 2: "one more than before in each later entry" as well

abbrev pub trace_in_turn : Sums → ℕ → Bool
trace_in_turn s n = pick (eqb s.batchrecords 0) (leb 1 n) (eqb n (s.trace + 1))

abbrev pub trace_unskipped : Sums → List ℕ → List ℕ → Mark
trace_unskipped s h p =
    need (digits p) Fault.Digits
    (need (same_bytes (trace_bank p) (batch_bank h) && trace_in_turn s (trace_number p)) Fault.Trace (Ok tt))

abbrev pub near_unskipped : Sums → List ℕ → List ℕ → Near → List ℕ → Mark
near_unskipped s h r Near.Code p = near_unremitted s h r Near.Code p
near_unskipped s h r Near.CheckDigit p = near_unremitted s h r Near.CheckDigit p
near_unskipped s h r Near.Amount p = near_unremitted s h r Near.Amount p
near_unskipped s h r Near.Trace p = trace_unskipped s h p
near_unskipped s h r Near.EntryTrace p = near_unremitted s h r Near.EntryTrace p
near_unskipped s h r Near.BatchNumber p = near_unremitted s h r Near.BatchNumber p
near_unskipped s h r Near.Flag p = near_unremitted s h r Near.Flag p

abbrev pub unskipped : Rule
unskipped s h r row = kind_with (near_unskipped s h r) own_unlettered s h r row.kind (columns row.first row.last r)
