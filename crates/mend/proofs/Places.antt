-- Where the bytes of the two files stand: up to the 9 a mended record stands where the record stood, begins with the same byte and has the
-- same bytes behind its columns; and each column is in one of the fields of a control.
-- Assumes nothing but what a statement says.
use mathlib.Core.Path.{◌≡◌, refl, sym, ap, ◌∙◌, subst}
use mathlib.Core.Bool.{Bool, true, false, ◌&&◌}
use mathlib.Core.List.{List, [], ◌∷◌}
use Prim.Native.Nat.{ℕ, zero, suc, ◌+◌, ◌-◌, ◌*◌, ◌/◌, ◌%◌, ◌≤◌, ◌<◌}
use native.Mathlib.Nat.{div-add-mod, mod-lt}
use native.Mathlib.Omega.{arith}
use borrow.Author.Tests.{eqb-true}
use lib.Dec.{eqb, ltb}
use lib.ListN.{length, get_or, take, drop}
use lib.Seq.{drop_at, get_or-take, get_or-drop}
use Rattle.text.specs.Decimal.{pick}
use Rattle.text.specs.Rows.{columns}
use Rattle.text.specs.Widths.{AllLong}
use Rattle.text.proofs.DecimalLaws.{and_both}
use Rattle.text.proofs.RowLaws.{length_rows, get_d_rows}
use Rattle.layout.specs.declared.Row.{Row}
use Rattle.layout.specs.declared.Way.{Way}
use Rattle.layout.specs.Fields.{no_row}
use Rattle.layout.specs.Ways.{record_bytes}
use Rattle.check_across.specs.declared.Sums.{Sums}
use Rattle.check_sums.specs.Sums.{start}
use Rattle.check_record.specs.Record.{raw_records}
use Rattle.check_record.proofs.Ways.{some_bytes}
use Rattle.view_laws.proofs.Lists.{by_lt}
use Rattle.table_form.specs.Forms.{batch_control_from, file_control_from}
use Rattle.mend.specs.Mend.{type_of, line_by, sums_past, header_past, refilled, ends_file, mended_from, mended_file, before_nine, nine_at}
use Rattle.mend.proofs.Again.{by_test, batch_long, file_long, file_type, header_long, columns_long, raw_long, raw_mended, mended_type, at_nine, at_other}
use Rattle.mend.proofs.Numbers.{nine_here, nine_later, nine_stays}

-- ---- records

-- a record and the one that stands in its place
pub record InPlace (old new : List ℕ) : Type 0 where
  pub type : type_of new ≡ type_of old
  pub behind : drop 94 new ≡ drop 94 old

refilled_behind : (text r : List ℕ) → length text ≡ 94 → drop 94 (refilled text r) ≡ drop 94 r
refilled_behind text r l = drop_at text (drop 94 r) 94 l

record_behind : (s : Sums) (h r : List ℕ) (t : Bool) → length h ≡ 94 → drop 94 (pick t (refilled (batch_control_from s h) r) r) ≡ drop 94 r
record_behind s h r true l = refilled_behind (batch_control_from s h) r (batch_long s h l)
record_behind s h r false l = refl

-- no more records stand before the 9 than there are
pub before_inside : (last : ℕ) (rs : List (List ℕ)) → before_nine last rs ≤ length rs
unfolding before_nine
before_inside last [] = omega arith
before_inside last (r ∷ rs) =
    by_test (ends_file last r) (λ e. omega (arith, nine_here last r rs e)) (λ e. omega (arith, nine_later last r rs e, before_inside (type_of r) rs))

module _ (way : Way) where
  -- before the 9
  in_place_from : (i last : ℕ) (s : Sums) (h : List ℕ) (rs : List (List ℕ)) → length h ≡ 94 → AllLong (record_bytes way) rs → i < before_nine last rs
      → InPlace (get_or rs i []) (get_or (mended_from way last s h rs) i [])
  unfolding before_nine
  in_place_from i last s h [] l a k = absurd (omega arith)
  in_place_from zero last s h (r ∷ rs) l a k =
      by_test (ends_file last r)
      (λ e. absurd (omega (arith, k, nine_here last r rs e)))
      (λ e.
      let here = ap (λ x. get_or x 0 []) (at_other way last s h r rs e) in
      record { type = ap type_of here ∙ mended_type way s h r; behind = ap (drop 94) here ∙ record_behind s h r (eqb (type_of r) 56 && ltb 0 s.batches) l })
  in_place_from (suc i) last s h (r ∷ rs) l a k =
      by_test (ends_file last r)
      (λ e. absurd (omega (arith, k, nine_here last r rs e)))
      (λ e.
      let more =
      in_place_from i (type_of r) (sums_past s r) (header_past h r) rs (header_long (line_by (type_of r)) h (take 94 r) l (columns_long way r a.0)) a.1 (omega (arith, k, nine_later last r rs e)) in
      let here = ap (λ x. get_or x (suc i) []) (at_other way last s h r rs e) in
      record { type = ap type_of here ∙ more.type; behind = ap (drop 94) here ∙ more.behind })

  -- at the 9
  pub record AtNine (old new : List ℕ) : Type 0 where
    pub nine : type_of old ≡ 57
    pub place : InPlace old new

  nine_from_here : (last : ℕ) (s : Sums) (h : List ℕ) (rs : List (List ℕ)) → before_nine last rs < length rs
      → AtNine (get_or rs (before_nine last rs) []) (get_or (mended_from way last s h rs) (before_nine last rs) [])
  unfolding before_nine
  nine_from_here last s h [] k = absurd (omega arith)
  nine_from_here last s h (r ∷ rs) k =
      by_test (ends_file last r)
      (λ e.
      let nine = eqb-true (type_of r) 57 (and_both (eqb (type_of r) 57) (eqb last 56) e).0 in
      let here = ap (λ x. get_or x 0 []) (at_nine way last s h r rs e) in
      subst (λ j. AtNine (get_or (r ∷ rs) j []) (get_or (mended_from way last s h (r ∷ rs)) j [])) (sym (nine_here last r rs e))
      (record {
        nine = nine;
        place = record { type = ap type_of here ∙ file_type s r ∙ sym nine; behind = ap (drop 94) here ∙ refilled_behind (file_control_from s) r (file_long s) };
      }))
      (λ e.
      let j = before_nine (type_of r) rs in
      let later : before_nine last (r ∷ rs) ≡ suc j = omega (arith, nine_later last r rs e) in
      let more = mended_from way (type_of r) (sums_past s r) (header_past h r) rs in
      subst (λ k'. AtNine (get_or (r ∷ rs) k' []) (get_or (mended_from way last s h (r ∷ rs)) k' [])) (sym later)
      (subst (λ x. AtNine (get_or rs j []) (get_or x (suc j) [])) (sym (at_other way last s h r rs e))
      (nine_from_here (type_of r) (sums_past s r) (header_past h r) rs (omega (arith, k, nine_later last r rs e)))))

  -- with no 9 there are as many records as there were
  as_many : (last : ℕ) (s : Sums) (h : List ℕ) (rs : List (List ℕ)) → length rs ≤ before_nine last rs → length (mended_from way last s h rs) ≡ length rs
  unfolding mended_from
  as_many last s h [] k = refl
  as_many last s h (r ∷ rs) k =
      by_test (ends_file last r)
      (λ e. absurd (omega (arith, k, nine_here last r rs e)))
      (λ e.
      ap length (at_other way last s h r rs e)
      ∙ ap suc (as_many (type_of r) (sums_past s r) (header_past h r) rs (omega (arith, k, nine_later last r rs e))))

  module _ (f : List ℕ) where
    -- of a file
    pub in_place : (i : ℕ) → i < nine_at (raw_records way f) → InPlace (get_or (raw_records way f) i []) (get_or (raw_records way (mended_file way f)) i [])
    in_place i k =
        subst (λ rs. InPlace (get_or (raw_records way f) i []) (get_or rs i [])) (sym (raw_mended way f))
        (in_place_from i 0 start.sums start.header (raw_records way f) refl (raw_long way f) k)

    pub nine_in_place : nine_at (raw_records way f) < length (raw_records way f)
        → AtNine (get_or (raw_records way f) (nine_at (raw_records way f)) []) (get_or (raw_records way (mended_file way f)) (nine_at (raw_records way f)) [])
    nine_in_place k =
        subst (λ rs. AtNine (get_or (raw_records way f) (nine_at (raw_records way f)) []) (get_or rs (nine_at (raw_records way f)) [])) (sym (raw_mended way f))
        (nine_from_here 0 start.sums start.header (raw_records way f) k)

    pub no_nine : length (raw_records way f) ≤ nine_at (raw_records way f) → length (raw_records way (mended_file way f)) ≡ length (raw_records way f)
    no_nine k = ap length (raw_mended way f) ∙ as_many 0 start.sums start.header (raw_records way f) k

    -- as many of the mended records stand before the 9
    pub before_mended : nine_at (raw_records way f) ≤ length (raw_records way (mended_file way f))
    before_mended = omega (arith, nine_stays way f, before_inside 0 (raw_records way (mended_file way f)))

-- ---- bytes

-- the byte at place p is in record p / w, at p % w
pub byte_at : (way : Way) (f : List ℕ) (p d : ℕ) → p / record_bytes way < length (raw_records way f)
    → get_or f p d ≡ get_or (get_or (raw_records way f) (p / record_bytes way) []) (p % record_bytes way) d
byte_at way f p d k =
    let w = record_bytes way in
    let i = p / w in
    let c = p % w in
    let counted : length (raw_records way f) ≡ length f / w = length_rows w (length f / w) f in
    let inside : i < length f / w = omega (arith, k, counted) in
    ap (λ x. get_or f x d) (sym (div-add-mod p w))
    ∙ sym (get_or-drop (w * i) f c d)
    ∙ sym (get_or-take w (drop (w * i) f) c d (mod-lt p (some_bytes way)))
    ∙ ap (λ r. get_or r c d) (sym (get_d_rows w (length f / w) f i inside))

-- the byte in column c + 1 is in the columns from a to b
pub byte_in : (a b : ℕ) (r : List ℕ) (c d : ℕ) → 1 ≤ a → a ≤ c + 1 → c + 1 ≤ b → get_or (columns a b r) (c + 1 - a) d ≡ get_or r c d
byte_in a b r c d h g l =
    let there : a - 1 + (c + 1 - a) ≡ c = omega arith in
    get_or-take (b + 1 - a) (drop (a - 1) r) (c + 1 - a) d (omega arith) ∙ get_or-drop (a - 1) r (c + 1 - a) d ∙ ap (λ k. get_or r k d) there

-- one behind the columns
pub byte_behind : (r : List ℕ) (c d : ℕ) → 94 ≤ c → get_or (drop 94 r) (c - 94) d ≡ get_or r c d
byte_behind r c d h =
    let there : 94 + (c - 94) ≡ c = omega arith in
    get_or-drop 94 r (c - 94) d ∙ ap (λ k. get_or r k d) there

-- ---- columns

-- the fields of a table stand one behind the other, from column a on and before column b
abbrev pub in_turn : ℕ → List Row → ℕ → Bool
in_turn a [] b = eqb a b
in_turn a (row ∷ table) b = eqb row.first a && in_turn (row.last + 1) table b

-- the field of a column
pub record FieldThere (table : List Row) (c : ℕ) : Type 0 where
  pub field : ℕ
  pub known : field < length table
  pub some : 1 ≤ (get_or table field no_row).first
  pub from : (get_or table field no_row).first ≤ c
  pub to : c ≤ (get_or table field no_row).last

pub field_there : (a : ℕ) (table : List Row) (b c : ℕ) → in_turn a table b ≡ true → 1 ≤ a → a ≤ c → c < b → FieldThere table c
field_there a [] b c e s h g = absurd (omega (arith, eqb-true a b e))
field_there a (row ∷ table) b c e s h g =
    let both = and_both (eqb row.first a) (in_turn (row.last + 1) table b) e in
    let at = eqb-true row.first a both.0 in
    by_lt row.last c
    (λ l t.
    let more = field_there (row.last + 1) table b c both.1 (omega arith) (omega arith) g in
    record { field = suc more.field; known = omega (arith, more.known); some = more.some; from = more.from; to = more.to })
    (λ l t. record { field = 0; known = omega arith; some = omega arith; from = omega arith; to = l })
