-- The walk along a file's records: what is left from a place on gives the whole answer.
-- Assumes nothing.
use Rattle.std.specs.Prelude.{Ok, Err}
use Prim.Native.Nat.{ℕ, ◌+◌, ◌*◌, ◌%◌, ◌<◌, ◌≤◌}
use native.Mathlib.Omega.{arith}
use mathlib.Core.Path.{◌≡◌, refl, ap}
use mathlib.Core.Bool.{Bool, true, false, ◌&&◌}
use mathlib.Core.List.{List, ◌++◌, map}
use borrow.Author.Tests.{leb-true, eqb-true}
use lib.Dec.{leb, eqb}
use lib.ListN.{length, take, drop, length-take, length-append}
use Rattle.text.specs.Same.{same_bytes}
use Rattle.text.proofs.DecimalLaws.{and_both}
use Rattle.layout.specs.declared.Fault.{Fault}
use Rattle.layout.specs.Answers.{Checked}
use Rattle.layout.specs.declared.Line.{Line}
use Rattle.layout.specs.declared.Way.{Way}
use Rattle.layout.specs.Fields.{rows_of, first_field}
use Rattle.layout.specs.Ways.{end_of, record_bytes}
use Rattle.check_across.specs.declared.Sums.{Sums}
use Rattle.check_order.specs.declared.Place.{Place}
use Rattle.check_sums.specs.declared.State.{State}
use Rattle.check_record.specs.Verdict.{wrong_of}
use Rattle.check_sums.specs.Sums.{next_header, tally}
use Rattle.check_record.specs.Record.{fields_from, line_of, closing, piece_of, raw_records, run_from, finished, refused, length_fits}
use Rattle.check_record.proofs.Ways.{raw_chunk, raw_none}

-- the state that the walk keeps in parts
abbrev pub state : Place → Sums → List ℕ → List ℕ → State
state place sums header bycode = record { place = place; sums = sums; header = header; bycode = bycode }

pub state_path : {p p' : Place} {s s' : Sums} {h h' b b' : List ℕ} → p ≡ p' → s ≡ s' → h ≡ h' → b ≡ b' → state p s h b ≡ state p' s' h' b'
state_path e f g k i = record { place = e i; sums = f i; header = g i; bycode = k i }

-- the check of what is left of a file
abbrev pub left : Way → List ℕ → State → Checked
left way rest st = run_from st (map (piece_of way) (raw_records way rest))

-- a wrong field comes before the line end
failed_stays : (b : Bool) (fault : Fault) (k : ℕ) → closing b (Err (wrong_of fault k)) ≡ Err (wrong_of fault k)
failed_stays true fault k = refl
failed_stays false fault k = refl

-- the turn of the walk at a record: what it found left, the record with its line end, and the rest
pub record Turn (way : Way) (found raw rest rec : List ℕ) (st : State) (line : Line) : Type 0 where
  pub parts : found ≡ raw ++ rest
  pub long : length raw ≡ record_bytes way
  pub cut : rec ≡ take 94 raw
  pub taken : line ≡ line_of st rec

module _ {way : Way} {found raw rest rec : List ℕ} {st : State} {line : Line} (t : Turn way found raw rest rec st line) where
  -- a record with a wrong field is the answer
  pub run_stop : (fault : Fault) (k : ℕ) → fields_from (first_field line) (rows_of line) st.sums st.header rec ≡ Err (wrong_of fault k)
      → left way found st ≡ refused fault (st.sums.records + 1) k
  unfolding run_from
  run_stop fault k w = rw (t.parts, raw_chunk way raw rest t.long, ← t.cut, ← t.taken, w, failed_stays (same_bytes (drop 94 raw) (end_of way)) fault k) refl

  -- so is one whose line end is wrong
  pub run_unclosed : fields_from (first_field line) (rows_of line) st.sums st.header rec ≡ Ok tt → (piece_of way raw).closed ≡ false
      → left way found st ≡ refused Fault.LineEnd (st.sums.records + 1) 0
  unfolding run_from
  run_unclosed w c = rw (t.parts, raw_chunk way raw rest t.long, ← t.cut, ← t.taken, w, c) refl

  -- a record that passes leaves the rest
  pub run_on : fields_from (first_field line) (rows_of line) st.sums st.header rec ≡ Ok tt → (piece_of way raw).closed ≡ true
      → left way found st ≡ left way rest (tally st line rec)
  unfolding run_from
  run_on w c = rw (t.parts, raw_chunk way raw rest t.long, ← t.cut, ← t.taken, w, c) refl

-- the data end
pub run_end : (way : Way) (rest : List ℕ) (st : State) → length rest < record_bytes way → left way rest st ≡ finished st
unfolding run_from
run_end way rest st h = rw (raw_none way rest h) refl

-- where the length is right
pub fit : (way : Way) (n : ℕ) → length_fits way n ≡ true → (n % record_bytes way ≡ 0) × (n ≤ record_bytes way * 1000000)
fit way n h =
    let one = and_both (leb 1 n && eqb (n % record_bytes way) 0) (leb n (record_bytes way * 1000000)) h in
    (eqb-true (n % record_bytes way) 0 (and_both (leb 1 n) (eqb (n % record_bytes way) 0) one.0).1, leb-true n (record_bytes way * 1000000) one.1)

-- n bytes are left behind r records, and all of them are no more than a file may have
abbrev pub Left : Way → ℕ → ℕ → Type 0
Left way n r = n + record_bytes way * r ≤ record_bytes way * 1000000

module _ {found raw rest rec : List ℕ} {st : State} {line : Line} where
  pub left_next : (way : Way) (r : ℕ) → Turn way found raw rest rec st line → Left way (length found) r → Left way (length rest) (r + 1)
  left_next Way.Plain r t h = omega (arith, ap length t.parts, length-append raw rest, t.long)
  left_next Way.Lined r t h = omega (arith, ap length t.parts, length-append raw rest, t.long)

  pub left_more : (way : Way) (r : ℕ) → Turn way found raw rest rec st line → Left way (length found) r → r < 1000000
  left_more Way.Plain r t h = omega (arith, ap length t.parts, length-append raw rest, t.long)
  left_more Way.Lined r t h = omega (arith, ap length t.parts, length-append raw rest, t.long)

pub left_few : (way : Way) (n r : ℕ) → Left way n r → r ≤ 1000000
left_few Way.Plain n r h = omega arith
left_few Way.Lined n r h = omega arith

-- the walk behind r records: before the end a whole record stands, and there are no more of them than a file may have
pub record Walk (way : Way) (n at r : ℕ) : Type 0 where
  pub room : at + record_bytes way ≤ n
  pub next : at + record_bytes way ≡ record_bytes way * (r + 1)
  pub few : r < 1000000
  pub short : n ≤ 96000000

pub walk : (way : Way) (n at r : ℕ) → n % record_bytes way ≡ 0 → n ≤ record_bytes way * 1000000 → at ≡ record_bytes way * r → at ≤ n → (at ≡ n → ⊥) → Walk way n at r
walk Way.Plain n at r a b c d e = record { room = omega arith; next = omega arith; few = omega arith; short = omega arith }
walk Way.Lined n at r a b c d e = record { room = omega arith; next = omega arith; few = omega arith; short = omega arith }

pub zero_at : (way : Way) → 0 ≡ record_bytes way * 0
zero_at Way.Plain = refl
zero_at Way.Lined = refl

-- the kept record 5 stays 94 bytes long
pub header_long : (h : List ℕ) (line : Line) (r : List ℕ) → length h ≡ 94 → length r ≡ 94 → length (next_header h line r) ≡ 94
header_long h Line.FileHeader r e f = e
header_long h Line.BatchHeader r e f = simp length-take (omega arith)
header_long h Line.Entry r e f = e
header_long h Line.Addendum r e f = e
header_long h Line.BatchControl r e f = e
header_long h Line.FileControl r e f = e
header_long h Line.Filler r e f = e
header_long h Line.Past r e f = e
header_long h Line.Other r e f = e
