-- What was accepted before a request is accepted still, with the same acceptance.
-- Assumes nothing.
use Rattle.std.specs.Prelude.{Ok, Err}
use Prim.Native.Nat.{ℕ, ◌+◌}
use native.Mathlib.Omega.{arith}
use mathlib.Core.Path.{◌≡◌, refl, sym, ap, ◌∙◌}
use mathlib.Core.Bool.{Bool, true, false, ◌&&◌, ◌||◌, false≢true}
use mathlib.Core.List.{List, [], ◌∷◌, map}
use lib.Dec.{leb, ltb, eqb}
use lib.ListN.{length}
use borrow.Author.Tests.{eqb-true, lt-ltb}
use Rattle.text.specs.Decimal.{pick, every, digits, value}
use Rattle.text.specs.Same.{same_bytes}
use Rattle.text.proofs.DecimalLaws.{and_both, both_and}
use Rattle.layout.specs.Answers.{Checked}
use Rattle.layout.specs.declared.Fault.{Fault}
use Rattle.layout.specs.declared.Line.{Line}
use Rattle.layout.specs.declared.Row.{Row}
use Rattle.layout.specs.declared.Way.{Way}
use Rattle.layout.specs.Fields.{entry, part, rows_of, first_field}
use Rattle.check_codes.specs.declared.Code.{Code}
use Rattle.check_codes.specs.Codes.{code_of, known, allowed, carries, remits}
use Rattle.check_alone.specs.Mark.{Mark}
use Rattle.check_alone.specs.Kinds.{need}
use Rattle.check_alone.specs.Own.{is_account, account}
use Rattle.check_across.specs.declared.Sums.{Sums}
use Rattle.check_across.specs.Across.{entry_code, batch_class, code_rule, amount_rule, flag_rule, trace_bank, batch_bank, trace_number, trace_follows, trace_rule}
use Rattle.check_field.specs.Field.{field_of}
use Rattle.check_sums.specs.declared.State.{State}
use Rattle.check_record.specs.Verdict.{Verdict, wrong_of}
use Rattle.check_sums.specs.Sums.{start, tally}
use Rattle.check_record.specs.Record.{Piece, found, fields_from, line_of, stepped, closing, record_of, refused, onward, run_from, length_fits, raw_records, piece_of, checked_of}
use Rattle.view.specs.Sized.{All}
use Rattle.ach.specs.Earlier.{Rule, fields_by, record_by, run_by, checked_by, code_before, unremitted, is_unlettered, account_unlettered, unlettered, trace_in_turn, trace_unskipped, unskipped}

-- ---- the check by the rule of now is the check

fields_now : (k : ℕ) (rows : List Row) (s : Sums) (h r : List ℕ) → fields_by field_of k rows s h r ≡ fields_from k rows s h r
unfolding fields_by fields_from
fields_now k [] s h r = refl
fields_now k (row ∷ rows) s h r = ap (found (field_of s h r row) k) (fields_now (k + 1) rows s h r)

record_now : (st : State) (p : Piece) → record_by field_of st p ≡ record_of st p
record_now st p =
    let line = line_of st p.columns in
    ap (λ v. stepped (closing p.closed v) (tally st line p.columns) st) (fields_now (first_field line) (rows_of line) st.sums st.header p.columns)

run_now : (st : State) (ps : List Piece) → run_by field_of st ps ≡ run_from st ps
unfolding run_by run_from
run_now st [] = refl
run_now st (p ∷ ps) =
    ap (λ x. onward x.verdict (st.sums.records + 1) (run_by field_of x.state ps)) (record_now st p)
    ∙ ap (onward (record_of st p).verdict (st.sums.records + 1)) (run_now (record_of st p).state ps)

pub checked_now : (way : Way) (f : List ℕ) → checked_by field_of way f ≡ checked_of way f
checked_now way f =
    ap (λ x. pick (length_fits way (length f)) x (refused Fault.Length 0 0)) (run_now start (map (piece_of way) (raw_records way f)))

-- ---- a wider rule keeps what a narrower one accepts

-- every field of a table is right by this rule
abbrev pub RightBy : Rule → Sums → List ℕ → List ℕ → List Row → Type 0
RightBy rule s h r rows = All (λ row. rule s h r row ≡ Ok tt) rows

-- a record that passes the one passes the other, as what it is taken for
abbrev pub Wider : Rule → Rule → Type 0
Wider old new = (s : Sums) (h r : List ℕ) (line : Line) → RightBy old s h r (rows_of line) → RightBy new s h r (rows_of line)

never : {A : Type 0} (fault : Fault) (k : ℕ) → ◌≡◌ {A = Verdict} (Err (wrong_of fault k)) (Ok tt) → A
never fault k e = cc

pub refused_never : {A : Type 0} (fault : Fault) (n k : ℕ) → (refused fault n k).answer ≡ Ok tt → A
refused_never fault n k e = let z : ◌≡◌ {A = ℕ} 0 1 = cc e in absurd (omega arith)

found_passed : (m : Mark) (k : ℕ) (rest : Verdict) → found m k rest ≡ Ok tt → (m ≡ Ok tt) × (rest ≡ Ok tt)
found_passed (Ok _) k rest e = (refl, e)
found_passed (Err fault) k rest e = never fault k e

-- the fields of a record pass exactly if each is right
pub passed_right : (rule : Rule) (k : ℕ) (rows : List Row) (s : Sums) (h r : List ℕ) → fields_by rule k rows s h r ≡ Ok tt → RightBy rule s h r rows
unfolding fields_by
passed_right rule k [] s h r e = tt
passed_right rule k (row ∷ rows) s h r e =
    let both = found_passed (rule s h r row) k (fields_by rule (k + 1) rows s h r) e in
    (both.0, passed_right rule (k + 1) rows s h r both.1)

right_passed : (rule : Rule) (k : ℕ) (rows : List Row) (s : Sums) (h r : List ℕ) → RightBy rule s h r rows → fields_by rule k rows s h r ≡ Ok tt
unfolding fields_by
right_passed rule k [] s h r a = refl
right_passed rule k (row ∷ rows) s h r a =
    ap (λ m. found m k (fields_by rule (k + 1) rows s h r)) a.0 ∙ right_passed rule (k + 1) rows s h r a.1

-- a record passes only if its fields do
closing_kept : (b : Bool) (v u : Verdict) → (v ≡ Ok tt → u ≡ Ok tt) → closing b v ≡ Ok tt → closing b u ≡ Ok tt
closing_kept true v u f e = f e
closing_kept false (Ok _) u f e = never Fault.LineEnd 0 e
closing_kept false (Err wrong) u f e = never wrong.fault wrong.field e

pub passed_by : (v : Verdict) (next st : State) → (stepped v next st).verdict ≡ Ok tt → v ≡ Ok tt
passed_by (Ok _) next st e = refl
passed_by (Err wrong) next st e = never wrong.fault wrong.field e

module _ (old new : Rule) (w : Wider old new) where
  fields_kept : (k : ℕ) (line : Line) (s : Sums) (h r : List ℕ) → fields_by old k (rows_of line) s h r ≡ Ok tt → fields_by new k (rows_of line) s h r ≡ Ok tt
  fields_kept k line s h r e = right_passed new k (rows_of line) s h r (w s h r line (passed_right old k (rows_of line) s h r e))

  record_kept : (st : State) (p : Piece) → (record_by old st p).verdict ≡ Ok tt → record_by new st p ≡ record_by old st p
  record_kept st p e =
      let line = line_of st p.columns in
      let next = tally st line p.columns in
      let v = fields_by old (first_field line) (rows_of line) st.sums st.header p.columns in
      let u = fields_by new (first_field line) (rows_of line) st.sums st.header p.columns in
      let passed = passed_by (closing p.closed v) next st e in
      let still = closing_kept p.closed v u (fields_kept (first_field line) line st.sums st.header p.columns) passed in
      ap (λ x. stepped x next st) (still ∙ sym passed)

  run_kept : (st : State) (ps : List Piece) → (run_by old st ps).answer ≡ Ok tt → run_by new st ps ≡ run_by old st ps
  unfolding run_by
  run_kept st [] e = refl
  run_kept st (p ∷ ps) e = go (run_kept (record_by old st p).state ps) (record_by old st p).verdict refl
    where
      go : ((run_by old (record_by old st p).state ps).answer ≡ Ok tt → run_by new (record_by old st p).state ps ≡ run_by old (record_by old st p).state ps)
          → (v : Verdict) → (record_by old st p).verdict ≡ v → run_by new st (p ∷ ps) ≡ run_by old st (p ∷ ps)
      go keeps (Ok _) f =
          let same = record_kept st p f in
          let rest = run_by old (record_by old st p).state ps in
          let granted : rest.answer ≡ Ok tt = ap (λ v. (onward v (st.sums.records + 1) rest).answer) (sym f) ∙ e in
          ap (λ x. onward x.verdict (st.sums.records + 1) (run_by new x.state ps)) same
          ∙ ap (onward (record_by old st p).verdict (st.sums.records + 1)) (keeps granted)
      go keeps (Err wrong) f =
          refused_never wrong.fault (st.sums.records + 1) wrong.field
          (ap (λ v. (onward v (st.sums.records + 1) (run_by old (record_by old st p).state ps)).answer) (sym f) ∙ e)

  pub checked_kept : (way : Way) (f : List ℕ) → (checked_by old way f).answer ≡ Ok tt → checked_by new way f ≡ checked_by old way f
  checked_kept way f e = go (length_fits way (length f)) e
    where
      go : (b : Bool) → (pick b (run_by old start (map (piece_of way) (raw_records way f))) (refused Fault.Length 0 0)).answer ≡ Ok tt
          → pick b (run_by new start (map (piece_of way) (raw_records way f))) (refused Fault.Length 0 0) ≡ pick b (run_by old start (map (piece_of way) (raw_records way f))) (refused Fault.Length 0 0)
      go true a = run_kept start (map (piece_of way) (raw_records way f)) a
      go false a = refl

-- a test that was needed holds, and so do the tests after it
need_right : (b : Bool) (fault : Fault) (rest : Mark) → need b fault rest ≡ Ok tt → (b ≡ true) × (rest ≡ Ok tt)
need_right true fault rest e = (refl, e)
need_right false fault rest e = let z : ◌≡◌ {A = ℕ} 0 1 = cc e in absurd (omega arith)

-- ---- request 7

-- a code that was known carries money or is a prenote
was_known : (c : Code) (b : Bool) → remits c ≡ b → known (pick b Code.Unknown c) ≡ true → b ≡ false
was_known c true e k = absurd (false≢true k)
was_known c false e k = refl

-- an entry's fields by the rules of then are right by those of now
module _ (s : Sums) (h r : List ℕ) (a : RightBy unremitted s h r entry) where
  abbrev code : Code
  code = code_of (entry_code r)

  pub told : (digits (part entry 2 r) ≡ true) × (known (code_before (entry_code r)) ≡ true) × (allowed (batch_class h) (code_before (entry_code r)) ≡ true)
  told =
      let one = need_right (digits (part entry 2 r)) Fault.Digits _ a.1.0 in
      let two = need_right (known (code_before (entry_code r))) Fault.Value _ one.1 in
      (one.0, two.0, (need_right (allowed (batch_class h) (code_before (entry_code r))) Fault.Side (Ok tt) two.1).0)

  pub money : remits code ≡ false
  money = was_known code (remits code) refl told.1

  pub same_code : code_before (entry_code r) ≡ code
  same_code = ap (λ b. pick b Code.Unknown code) money

  code_right : code_rule h (part entry 2 r) ≡ Ok tt
  code_right =
      rw (told.0, ap known (sym same_code) ∙ told.1, ap (allowed (batch_class h)) (sym same_code) ∙ told.2, money) refl

  amount_right_lem : amount_rule r (part entry 6 r) ≡ Ok tt
  amount_right_lem =
      let d = need_right (digits (part entry 6 r)) Fault.Digits _ a.1.1.1.1.1.0 in
      let c = need_right (carries (code_before (entry_code r)) (value (part entry 6 r))) Fault.Amount (Ok tt) d.1 in
      rw (d.0, ap (λ x. carries x (value (part entry 6 r))) (sym same_code) ∙ c.0) refl

  flag_right : flag_rule code (part entry 10 r) ≡ Ok tt
  flag_right = rw money a.1.1.1.1.1.1.1.1.1.0

  entry_remitted : RightBy field_of s h r entry
  entry_remitted = (
    a.0,
    (
      code_right,
      (
        a.1.1.0,
        (
          a.1.1.1.0,
          (
            a.1.1.1.1.0,
            (
              amount_right_lem,
              (a.1.1.1.1.1.1.0, (a.1.1.1.1.1.1.1.0, (a.1.1.1.1.1.1.1.1.0, (flag_right, a.1.1.1.1.1.1.1.1.1.1)))),
            ),
          ),
        ),
      ),
    ),
  )

remitted_wider : Wider unremitted field_of
remitted_wider s h r Line.FileHeader a = a
remitted_wider s h r Line.BatchHeader a = a
remitted_wider s h r Line.Entry a = entry_remitted s h r a
remitted_wider s h r Line.Addendum a = a
remitted_wider s h r Line.BatchControl a = a
remitted_wider s h r Line.FileControl a = a
remitted_wider s h r Line.Filler a = a
remitted_wider s h r Line.Past a = a
remitted_wider s h r Line.Other a = a

-- a file that was accepted without zero-dollar codes is accepted still, with the same acceptance
pub remittances_keep : (way : Way) (f : List ℕ) → (checked_by unremitted way f).answer ≡ Ok tt → checked_of way f ≡ checked_by unremitted way f
remittances_keep way f e = sym (checked_now way f) ∙ checked_kept unremitted field_of remitted_wider way f e

-- ---- request 3

or_left : (a b : Bool) → a ≡ true → (a || b) ≡ true
or_left a b e = rw e refl

every_wider : (p q : ℕ → Bool) → ((b : ℕ) → p b ≡ true → q b ≡ true) → (xs : List ℕ) → every p xs ≡ true → every q xs ≡ true
unfolding every
every_wider p q w [] e = refl
every_wider p q w (b ∷ bs) e = let both = and_both (p b) (every p bs) e in both_and (w b both.0) (every_wider p q w bs both.1)

account_wider : (p : List ℕ) → account_unlettered p ≡ Ok tt → account p ≡ Ok tt
account_wider p e =
    let t = need_right (every is_unlettered p) Fault.Text _ e in
    rw (every_wider is_unlettered is_account (λ b. or_left (is_unlettered b) (leb 65 b && leb b 90)) p t.0) t.1

lettered_wider : Wider unlettered unremitted
lettered_wider s h r Line.FileHeader a = a
lettered_wider s h r Line.BatchHeader a = a
lettered_wider s h r Line.Entry a = (a.0, (a.1.0, (a.1.1.0, (a.1.1.1.0, (account_wider (part entry 5 r) a.1.1.1.1.0, a.1.1.1.1.1)))))
lettered_wider s h r Line.Addendum a = a
lettered_wider s h r Line.BatchControl a = a
lettered_wider s h r Line.FileControl a = a
lettered_wider s h r Line.Filler a = a
lettered_wider s h r Line.Past a = a
lettered_wider s h r Line.Other a = a

-- a file that was accepted without letters in accounts is accepted still, with the same acceptance
pub letters_keep : (way : Way) (f : List ℕ) → (checked_by unlettered way f).answer ≡ Ok tt → checked_of way f ≡ checked_by unlettered way f
letters_keep way f e =
    let next = checked_kept unlettered unremitted lettered_wider way f e in
    remittances_keep way f (ap (λ (c : Checked). c.answer) next ∙ e) ∙ next

-- ---- request 2

in_turn_follows : (s : Sums) (n : ℕ) → trace_in_turn s n ≡ true → trace_follows s n ≡ true
in_turn_follows s n e = go (eqb s.batchrecords 0) e
  where
    go : (b : Bool) → pick b (leb 1 n) (eqb n (s.trace + 1)) ≡ true → pick b (leb 1 n) (ltb s.trace n) ≡ true
    go true a = a
    go false a = lt-ltb s.trace n (omega (arith, eqb-true n (s.trace + 1) a))

trace_wider : (s : Sums) (h p : List ℕ) → trace_unskipped s h p ≡ Ok tt → trace_rule s h p ≡ Ok tt
trace_wider s h p e =
    let d = need_right (digits p) Fault.Digits _ e in
    let t = need_right (same_bytes (trace_bank p) (batch_bank h) && trace_in_turn s (trace_number p)) Fault.Trace (Ok tt) d.1 in
    let both = and_both (same_bytes (trace_bank p) (batch_bank h)) (trace_in_turn s (trace_number p)) t.0 in
    rw (d.0, both.0, in_turn_follows s (trace_number p) both.1) refl

skipped_wider : Wider unskipped unlettered
skipped_wider s h r Line.FileHeader a = a
skipped_wider s h r Line.BatchHeader a = a
skipped_wider s h r Line.Entry a = (
  a.0,
  (
    a.1.0,
    (
      a.1.1.0,
      (
        a.1.1.1.0,
        (
          a.1.1.1.1.0,
          (
            a.1.1.1.1.1.0,
            (
              a.1.1.1.1.1.1.0,
              (
                a.1.1.1.1.1.1.1.0,
                (a.1.1.1.1.1.1.1.1.0, (a.1.1.1.1.1.1.1.1.1.0, (trace_wider s h (part entry 11 r) a.1.1.1.1.1.1.1.1.1.1.0, tt))),
              ),
            ),
          ),
        ),
      ),
    ),
  ),
)
skipped_wider s h r Line.Addendum a = a
skipped_wider s h r Line.BatchControl a = a
skipped_wider s h r Line.FileControl a = a
skipped_wider s h r Line.Filler a = a
skipped_wider s h r Line.Past a = a
skipped_wider s h r Line.Other a = a

-- a file whose traces were accepted one by one is accepted still, with the same acceptance
pub skips_keep : (way : Way) (f : List ℕ) → (checked_by unskipped way f).answer ≡ Ok tt → checked_of way f ≡ checked_by unskipped way f
skips_keep way f e =
    let next = checked_kept unskipped unlettered skipped_wider way f e in
    letters_keep way f (ap (λ (c : Checked). c.answer) next ∙ e) ∙ next
