-- A refusal is the first one: every record before it passed, and in its record every field before it was right.
-- Assumes nothing.
use Rattle.std.specs.Prelude.{Ok, Err}
use mathlib.Core.Path.{◌≡◌, refl, sym, ap, ap₂, ◌∙◌, subst}
use mathlib.Core.Logic.{◌⊎◌, inl, inr}
use mathlib.Core.Bool.{Bool, true, false}
use mathlib.Core.List.{List, [], ◌∷◌, ◌++◌, map}
use Prim.Native.Nat.{ℕ, ◌+◌}
use native.Mathlib.Omega.{arith}
use lib.ListN.{length}
use Rattle.text.specs.Decimal.{pick}
use Rattle.layout.specs.declared.Fault.{Fault}
use Rattle.layout.specs.Answers.{Answer}
use Rattle.layout.specs.declared.Refusal.{Refusal}
use Rattle.layout.specs.declared.Row.{Row}
use Rattle.layout.specs.Fields.{rows_of, first_field}
use Rattle.check_alone.specs.Mark.{Mark}
use Rattle.check_across.specs.declared.Sums.{Sums}
use Rattle.check_field.specs.Field.{field_of}
use Rattle.check_sums.specs.declared.State.{State}
use Rattle.check_record.specs.Verdict.{Verdict, wrong_of}
use Rattle.check_order.specs.Order.{complete}
use Rattle.check_sums.specs.Sums.{start, tally}
use Rattle.check_record.specs.Record.{found, fields_from, line_of, Piece, closing, stepped, record_of, refused, accepted, run_from, length_fits, raw_records, piece_of, checked_of}
use Rattle.view.specs.Keeps.{Right}
use Rattle.view_laws.proofs.Answers.{not_granted}
use Rattle.view_laws.proofs.BridgeFields.{passed_right}
use Rattle.ach.proofs.Bounds.{one_more, carried}
use Rattle.layout.specs.declared.Way.{Way}

-- of the rows, the first with number k: those before the one with number n are right, and that one is wrong
pub record FirstField (k : ℕ) (table : List Row) (s : Sums) (h r : List ℕ) (fault : Fault) (n : ℕ) : Type 0 where
  pub front : List Row
  pub row : Row
  pub back : List Row
  pub form : table ≡ front ++ (row ∷ back)
  pub right : Right front s h r
  pub wrong : field_of s h r row ≡ Err fault
  pub number : n ≡ k + length front

-- these records pass, one after another
abbrev pub Passes : State → List Piece → Type 0
Passes st [] = Unit {0}
Passes st (p ∷ ps) = ((record_of st p).verdict ≡ Ok tt) × Passes (record_of st p).state ps

-- the state behind them
abbrev pub behind : State → List Piece → State
behind st [] = st
behind st (p ∷ ps) = behind (record_of st p).state ps

-- the next record is refused with x, or there is none where one is still due
-- (at its first wrong field, or, where every field is right, for its line end)
abbrev pub Stops : State → List Piece → Refusal → Type 0
Stops st [] x = (complete st.place st.sums.records ≡ false) × (x.fault ≡ Fault.Ended) × (x.field ≡ 0)
Stops st (p ∷ ps) x =
    FirstField (first_field (line_of st p.columns)) (rows_of (line_of st p.columns)) st.sums st.header p.columns x.fault x.field
    ⊎ (Right (rows_of (line_of st p.columns)) st.sums st.header p.columns × (p.closed ≡ false) × (x.fault ≡ Fault.LineEnd) × (x.field ≡ 0))

pub record First (st : State) (ps : List Piece) (x : Refusal) : Type 0 where
  pub passed : List Piece
  pub rest : List Piece
  pub form : ps ≡ passed ++ rest
  pub pass : Passes st passed
  pub number : x.record.0 ≡ st.sums.records + length passed + 1
  pub stops : Stops (behind st passed) rest x

-- ---- the fields

abbrev fault_of : Verdict → Fault → Fault
fault_of (Ok _) d = d
fault_of (Err wrong) d = wrong.fault

abbrev field_in : Verdict → ℕ
field_in (Ok _) = 0
field_in (Err wrong) = wrong.field

not_failed : {A : Type 0} {fault : Fault} {k : ℕ} → ◌≡◌ {A = Verdict} (Ok tt) (Err (wrong_of fault k)) → A
not_failed e = cc

first_field_lem : (k : ℕ) (table : List Row) (s : Sums) (h r : List ℕ) (fault : Fault) (n : ℕ) → fields_from k table s h r ≡ Err (wrong_of fault n) → FirstField k table s h r fault n
unfolding fields_from
first_field_lem k [] s h r fault n e = not_failed e
first_field_lem k (row ∷ table) s h r fault n e = go (field_of s h r row) refl e λ g. first_field_lem (k + 1) table s h r fault n g
  where
    go : (m : Mark) → field_of s h r row ≡ m → found m k (fields_from (k + 1) table s h r) ≡ Err (wrong_of fault n)
        → (fields_from (k + 1) table s h r ≡ Err (wrong_of fault n) → FirstField (k + 1) table s h r fault n) → FirstField k (row ∷ table) s h r fault n
    go (Ok _) m g later =
        let l = later g in
        record {
          front = row ∷ l.front;
          row = l.row;
          back = l.back;
          form = ap (λ t. row ∷ t) l.form;
          right = (m, l.right);
          wrong = l.wrong;
          number = omega (arith, l.number);
        }
    go (Err f) m g later =
        record {
          front = [];
          row = row;
          back = table;
          form = refl;
          right = tt;
          wrong = m ∙ ap Err (ap (λ v. fault_of v fault) g);
          number = omega (arith, ap field_in g);
        }

-- ---- the records

abbrev said_of : Answer → Refusal → Refusal
said_of (Ok _) d = d
said_of (Err x) d = x

first_from : (st : State) (ps : List Piece) (x : Refusal) → (run_from st ps).answer ≡ Err x → First st ps x
unfolding run_from
first_from st [] x e = go (complete st.place st.sums.records) refl e
  where
    go : (b : Bool) → complete st.place st.sums.records ≡ b
        → (pick b (accepted st) (refused Fault.Ended (st.sums.records + 1) 0)).answer ≡ Err x → First st [] x
    go true h g = not_granted (sym g)
    go false h g =
        let s = ap (λ a. said_of a x) g in
        record {
          passed = [];
          rest = [];
          form = refl;
          pass = tt;
          number = omega (arith, ap (λ y. y.record.0) s);
          stops = (h, ap (λ y. y.fault) (sym s), ap (λ y. y.field) (sym s));
        }
first_from st (p ∷ ps) x e =
    go p.closed refl (fields_from (first_field (line_of st p.columns)) (rows_of (line_of st p.columns)) st.sums st.header p.columns) refl e λ g. first_from (tally st (line_of st p.columns) p.columns) ps x g
  where
    stopped : (y : Refusal) → y.record.0 ≡ st.sums.records + 1 → Stops st (p ∷ ps) y → First st (p ∷ ps) y
    stopped y n s = record { passed = []; rest = p ∷ ps; form = refl; pass = tt; number = omega (arith, n); stops = s }

    go : (b : Bool) → p.closed ≡ b → (v : Verdict) → fields_from (first_field (line_of st p.columns)) (rows_of (line_of st p.columns)) st.sums st.header p.columns ≡ v → (carried (closing b v) (tally st (line_of st p.columns) p.columns) st ps).answer ≡ Err x
        → ((run_from (tally st (line_of st p.columns) p.columns) ps).answer ≡ Err x → First (tally st (line_of st p.columns) p.columns) ps x) → First st (p ∷ ps) x
    go true c (Ok _) h g later =
        let l = later g in
        let both = ap₂ closing c h in
        let to : (record_of st p).state ≡ (tally st (line_of st p.columns) p.columns) = ap (λ v. (stepped v (tally st (line_of st p.columns) p.columns) st).state) both in
        record {
          passed = p ∷ l.passed;
          rest = l.rest;
          form = ap (λ t. p ∷ t) l.form;
          pass = (ap (λ v. (stepped v (tally st (line_of st p.columns) p.columns) st).verdict) both, subst (λ t. Passes t l.passed) (sym to) l.pass);
          number = omega (arith, l.number, one_more st (line_of st p.columns) p.columns);
          stops = subst (λ t. Stops (behind t l.passed) l.rest x) (sym to) l.stops;
        }
    go false c (Ok _) h g later =
        subst (First st (p ∷ ps)) (ap (λ a. said_of a x) g) (stopped _ refl (inr (passed_right _ _ st.sums st.header p.columns h, c, refl, refl)))
    go true c (Err wrong) h g later =
        subst (First st (p ∷ ps)) (ap (λ a. said_of a x) g) (stopped _ refl (inl (first_field_lem (first_field (line_of st p.columns)) (rows_of (line_of st p.columns)) st.sums st.header p.columns wrong.fault wrong.field h)))
    go false c (Err wrong) h g later =
        subst (First st (p ∷ ps)) (ap (λ a. said_of a x) g) (stopped _ refl (inl (first_field_lem (first_field (line_of st p.columns)) (rows_of (line_of st p.columns)) st.sums st.header p.columns wrong.fault wrong.field h)))

-- a file is refused for its length, with no record and no field, or at the first place where its records stop
pub refused_first : (way : Way) (f : List ℕ) (x : Refusal) → (checked_of way f).answer ≡ Err x
    → ((length_fits way (length f) ≡ false) × (x.fault ≡ Fault.Length) × (x.record.0 ≡ 0) × (x.field ≡ 0)) ⊎ First start (map (piece_of way) (raw_records way f)) x
refused_first way f x e = go (length_fits way (length f)) refl e
  where
    go : (b : Bool) → length_fits way (length f) ≡ b → (pick b (run_from start (map (piece_of way) (raw_records way f))) (refused Fault.Length 0 0)).answer ≡ Err x
        → ((length_fits way (length f) ≡ false) × (x.fault ≡ Fault.Length) × (x.record.0 ≡ 0) × (x.field ≡ 0)) ⊎ First start (map (piece_of way) (raw_records way f)) x
    go false h g =
        let s = ap (λ a. said_of a x) g in
        inl (h, ap (λ y. y.fault) (sym s), ap (λ y. y.record.0) (sym s), ap (λ y. y.field) (sym s))
    go true h g = inr (first_from start (map (piece_of way) (raw_records way f)) x g)
