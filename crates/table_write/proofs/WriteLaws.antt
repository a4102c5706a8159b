-- What writing answers, test by test, and what it gives and leaves for each answer.
-- Assumes nothing.
use Rattle.std.specs.Prelude.{Ok, Err}
use Prim.Native.Nat.{ℕ, ◌*◌, ◌<◌, ◌≤◌}
use native.Mathlib.Omega.{arith}
use mathlib.Core.Path.{◌≡◌, refl, sym, ap, ◌∙◌, subst}
use mathlib.Core.Bool.{Bool, true, false}
use mathlib.Core.List.{List, ◌++◌}
use borrow.Author.Tests.{le-leb, lt-leb, leb-true, leb-false}
use lib.Dec.{leb}
use lib.ListN.{length, drop}
use Rattle.layout.specs.Answers.{Answer}
use Rattle.layout.specs.declared.Fault.{Fault}
use Rattle.layout.specs.Answers.{Made}
use Rattle.layout.specs.declared.Refusal.{Refusal}
use Rattle.check_record.specs.Record.{checked_of}
use Rattle.view.specs.View.{records_of}
use Rattle.view.specs.Table.{view_of_table, shaped, formed}
use Rattle.view.specs.Outcome.{Outcome, demand, and_then, made, room, write_of}
use Rattle.layout.specs.Paper.{refusal}
use Rattle.view_laws.proofs.Tables.{shaped_sized}
use Rattle.view_laws.proofs.Reading.{records_long, file_length}
use Rattle.view_laws.proofs.Answers.{demand_granted}
use Rattle.view_laws.proofs.Bridge.{checked_many}
use Rattle.view_laws.proofs.BridgeSound.{refused_not}
use Rattle.view_laws.proofs.Twins.{twins}
use Rattle.layout.specs.declared.Way.{Way}
use Rattle.layout.specs.Ways.{record_bytes}
use Rattle.table_write.specs.Judge.{writable}

pub size_fits : (way : Way) (n : ℕ) → n ≤ 5000000 → record_bytes way * n ≤ 480000000
size_fits Way.Plain n h = omega arith
size_fits Way.Lined n h = omega arith

-- ---- the judgement, test by test

module _ (t : List ℕ) where
  pub wrong_shape : shaped t ≡ false → refusal Fault.Shape 0 0 ≡ writable t
  wrong_shape h = rw h refl

  module _ (h : shaped t ≡ true) where
    pub shape_passed : (checked_of Way.Plain (formed Way.Plain t)).answer ≡ writable t
    shape_passed = rw h refl

    many_refused : 1000000 < length (records_of (view_of_table t)) → (checked_of Way.Plain (formed Way.Plain t)).answer ≡ refusal Fault.Length 0 0
    many_refused m = ap (λ c. c.answer) (checked_many Way.Plain (records_of (view_of_table t)) (records_long (view_of_table t) (shaped_sized t h)) m)

    pub too_many : 1000000 < length (records_of (view_of_table t)) → refusal Fault.Length 0 0 ≡ writable t
    too_many m = sym (many_refused m) ∙ shape_passed

-- a table that passes has the right shape, passes the check, and has not too many records
module _ (t : List ℕ) (g : writable t ≡ Ok tt) where
  pub shape_right : shaped t ≡ true
  shape_right = (demand_granted (shaped t) _ _ g).0

  pub file_right : (checked_of Way.Plain (formed Way.Plain t)).answer ≡ Ok tt
  file_right = (demand_granted (shaped t) _ _ g).1

  pub not_many : length (records_of (view_of_table t)) ≤ 1000000
  not_many = go (leb (length (records_of (view_of_table t))) 1000000) refl
    where
      go : (b : Bool) → leb (length (records_of (view_of_table t))) 1000000 ≡ b → length (records_of (view_of_table t)) ≤ 1000000
      go true e = leb-true _ _ e
      go false e = refused_not Fault.Length 0 0 (sym (many_refused t shape_right (leb-false _ _ e)) ∙ file_right)

-- ---- a judgement, then the room for a result

-- this is given, and the lent bytes stand so
abbrev pub Gives : Outcome Made → Made → List ℕ → Type 0
Gives o m bytes = (m ≡ o.gives) × (bytes ≡ o.leaves)

module _ (judged : Answer) (result lent : List ℕ) where
  abbrev pub judged_first : Outcome Made
  judged_first = made (and_then judged (room result lent)) result lent

  refused_gives : (r : Refusal) → and_then judged (room result lent) ≡ Err r → Gives judged_first (record { answer = Err r; length = 0 }) lent
  refused_gives r e =
      let same = ap (λ a. made a result lent) e in
      (sym (ap (λ o. o.gives) same), sym (ap (λ o. o.leaves) same))

  pub judged_refused : (r : Refusal) → judged ≡ Err r → Gives judged_first (record { answer = Err r; length = 0 }) lent
  judged_refused r e = refused_gives r (ap (λ a. and_then a (room result lent)) e)

  module _ (g : judged ≡ Ok tt) where
    left_to_room : and_then judged (room result lent) ≡ room result lent
    left_to_room = ap (λ a. and_then a (room result lent)) g

    pub no_room : length lent < length result → Gives judged_first (record { answer = refusal Fault.Room 0 0; length = 0 }) lent
    no_room m = refused_gives _ (left_to_room ∙ ap (λ b. demand b (refusal Fault.Room 0 0) (Ok tt)) (lt-leb (length result) (length lent) m))

    pub granted : (size : ℕ) (bytes : List ℕ) → size ≡ length result → length result ≤ length lent → bytes ≡ result ++ drop (length result) lent
        → Gives judged_first (record { answer = Ok tt; length = size }) bytes
    granted size bytes e m k =
        let all = left_to_room ∙ ap (λ b. demand b (refusal Fault.Room 0 0) (Ok tt)) (le-leb (length result) (length lent) m) in
        let same = ap (λ a. made a result lent) all in
        (ap (λ n. record { answer = Ok tt; length = n }) e ∙ sym (ap (λ o. o.gives) same), k ∙ sym (ap (λ o. o.leaves) same))

-- ---- writing does so

module _ (way : Way) (t f : List ℕ) where
  -- the answer of the check is the same in either way
  either_way : shaped t ≡ true → (checked_of Way.Plain (formed Way.Plain t)).answer ≡ (checked_of way (formed way t)).answer
  either_way h = ap (λ c. c.answer) (twins Way.Plain way (records_of (view_of_table t)) (records_long (view_of_table t) (shaped_sized t h)))

  abbrev answer_of : Answer
  answer_of = demand (shaped t) (refusal Fault.Shape 0 0) (and_then (checked_of way (formed way t)).answer (room (formed way t) f))

  answer_judged : answer_of ≡ and_then (writable t) (room (formed way t) f)
  answer_judged = go (shaped t) refl
    where
      go : (b : Bool) → shaped t ≡ b → answer_of ≡ and_then (writable t) (room (formed way t) f)
      go true h = rw (h, either_way h) refl
      go false h = rw h refl

  pub write_gives : {m : Made} {file : List ℕ} → Gives (judged_first (writable t) (formed way t) f) m file → Gives (write_of way t f) m file
  write_gives {m} {file} h = subst (λ a. Gives (made a (formed way t) f) m file) (sym answer_judged) h

  -- the formed file's length
  pub formed_length : writable t ≡ Ok tt → length (formed way t) ≡ record_bytes way * length (records_of (view_of_table t))
  formed_length g = file_length way (view_of_table t) (shaped_sized t (shape_right t g))
