-- The rows of changes between any records: each field that differs has one, each row is of such a field, no two are of one field, and how
-- many there are at most.
-- Assumes nothing but what a statement says.
use mathlib.Core.Path.{◌≡◌, refl, sym, ap, ap₂, ◌∙◌, subst}
use mathlib.Core.Bool.{Bool, true, false}
use mathlib.Core.List.{List, [], ◌∷◌, ◌++◌, append_assoc}
use Prim.Native.Nat.{ℕ, zero, suc, ◌+◌, ◌*◌, ◌^◌, ◌≤◌, ◌<◌}
use native.Mathlib.Nat.{le_of_suc-le-suc}
use native.Mathlib.Omega.{arith}
use borrow.Author.Tests.{eqb-true}
use lib.Dec.{eqb}
use lib.ListN.{length, get_or, take, drop, get_or-append, length-append}
use lib.Seq.{take_at, get_or-append-add}
use Rattle.text.specs.Decimal.{pick, value, render}
use Rattle.text.specs.Rows.{columns}
use Rattle.text.specs.Same.{same_bytes}
use Rattle.text.proofs.DecimalLaws.{same_equal, value_append, value_from_lem, length_render, value_render_lt}
use Rattle.layout.specs.declared.Row.{Row}
use Rattle.layout.specs.Fields.{no_row, batch_control}
use Rattle.view.specs.Sized.{All}
use Rattle.view_laws.proofs.BridgeFields.{never}
use Rattle.view_laws.proofs.Lists.{all_append}
use Rattle.mend.specs.Mend.{type_of, change_row, field_changes, changes_from}
use Rattle.mend.specs.Listed.{Has, key_of}

-- field q, from 0, of a record
abbrev pub text_of : List Row → ℕ → List ℕ → List ℕ
text_of table q r = columns (get_or table q no_row).first (get_or table q no_row).last r

-- ---- rows in lists

pub has_left : (xs ys : List (List ℕ)) (row : List ℕ) → Has xs row → Has (xs ++ ys) row
has_left xs ys row h =
    record { at = h.at; inside = omega (arith, length-append xs ys, h.inside); there = get_or-append xs ys [] h.at h.inside ∙ h.there }

pub has_right : (xs ys : List (List ℕ)) (row : List ℕ) → Has ys row → Has (xs ++ ys) row
has_right xs ys row h =
    record { at = length xs + h.at; inside = omega (arith, length-append xs ys, h.inside); there = get_or-append-add xs ys h.at [] ∙ h.there }

-- ---- a field that differs has a row

-- the fields of a table one by one: the first, and those behind it
abbrev one_change : ℕ → ℕ → List ℕ → List ℕ → Bool → List (List ℕ)
one_change n k a b same = pick same [] (change_row n k a b ∷ [])

fields_step : (n k : ℕ) (row : Row) (table : List Row) (old new : List ℕ)
    → field_changes n k (row ∷ table) old new
    ≡ one_change n k (columns row.first row.last old) (columns row.first row.last new) (same_bytes (columns row.first row.last old) (columns row.first row.last new))
    ++ field_changes n (k + 1) table old new
unfolding field_changes
fields_step n k row table old new = refl

fields_has : (n k : ℕ) (table : List Row) (old new : List ℕ) (q : ℕ) → q < length table → same_bytes (text_of table q old) (text_of table q new) ≡ false
    → Has (field_changes n k table old new) (change_row n (k + q) (text_of table q old) (text_of table q new))
fields_has n k [] old new q h d = absurd (omega arith)
fields_has n k (row ∷ table) old new zero h d =
    let a = text_of (row ∷ table) 0 old in
    let b = text_of (row ∷ table) 0 new in
    let more = field_changes n (k + 1) table old new in
    let number : k ≡ k + 0 = omega arith in
    subst (λ rows. Has rows (change_row n (k + 0) a b)) (sym (fields_step n k row table old new ∙ ap (λ t. one_change n k a b t ++ more) d))
    (record { at = 0; inside = omega arith; there = ap (λ j. change_row n j a b) number })
fields_has n k (row ∷ table) old new (suc q) h d =
    let a = text_of (row ∷ table) 0 old in
    let b = text_of (row ∷ table) 0 new in
    let c = text_of table q old in
    let e = text_of table q new in
    let number : k + 1 + q ≡ k + suc q = omega arith in
    subst (λ rows. Has rows (change_row n (k + suc q) c e)) (sym (fields_step n k row table old new))
    (has_right (one_change n k a b (same_bytes a b)) (field_changes n (k + 1) table old new) (change_row n (k + suc q) c e)
    (subst (λ j. Has (field_changes n (k + 1) table old new) (change_row n j c e)) number (fields_has n (k + 1) table old new q (le_of_suc-le-suc h) d)))

module _ (type : ℕ) (table : List Row) where
  -- the records one by one
  abbrev of_one : ℕ → List ℕ → List ℕ → Bool → List (List ℕ)
  of_one n old new t = pick t (field_changes n 1 table old new) []

  records_step : (n : ℕ) (old new : List ℕ) (olds news : List (List ℕ))
      → changes_from type table n (old ∷ olds) (new ∷ news) ≡ of_one n old new (eqb (type_of old) type) ++ changes_from type table (n + 1) olds news
  unfolding changes_from
  records_step n old new olds news = refl

  from_has : (row : List ℕ) (n : ℕ) (olds news : List (List ℕ)) (i : ℕ) → i < length olds → i < length news → eqb (type_of (get_or olds i [])) type ≡ true
      → Has (field_changes (n + i) 1 table (get_or olds i []) (get_or news i [])) row → Has (changes_from type table n olds news) row
  from_has row n [] news i h g e r = absurd (omega arith)
  from_has row n (old ∷ olds) [] i h g e r = absurd (omega arith)
  from_has row n (old ∷ olds) (new ∷ news) zero h g e r =
      let number : n + 0 ≡ n = omega arith in
      subst (λ rows. Has rows row) (sym (records_step n old new olds news ∙ ap (λ t. of_one n old new t ++ changes_from type table (n + 1) olds news) e))
      (has_left (field_changes n 1 table old new) (changes_from type table (n + 1) olds news) row (subst (λ j. Has (field_changes j 1 table old new) row) number r))
  from_has row n (old ∷ olds) (new ∷ news) (suc i) h g e r =
      let number : n + suc i ≡ n + 1 + i = omega arith in
      subst (λ rows. Has rows row) (sym (records_step n old new olds news))
      (has_right (of_one n old new (eqb (type_of old) type)) (changes_from type table (n + 1) olds news) row
      (from_has row (n + 1) olds news i (le_of_suc-le-suc h) (le_of_suc-le-suc g) e
      (subst (λ j. Has (field_changes j 1 table (get_or olds i []) (get_or news i [])) row) number r)))

  -- field q of record i, both from 0, where it differs
  pub changes_has : (n : ℕ) (olds news : List (List ℕ)) (i q : ℕ) → i < length olds → i < length news → eqb (type_of (get_or olds i [])) type ≡ true → q < length table
      → same_bytes (text_of table q (get_or olds i [])) (text_of table q (get_or news i [])) ≡ false
      → Has (changes_from type table n olds news) (change_row (n + i) (1 + q) (text_of table q (get_or olds i [])) (text_of table q (get_or news i [])))
  changes_has n olds news i q h g e k d =
      from_has _ n olds news i h g e (fields_has (n + i) 1 table (get_or olds i []) (get_or news i []) q k d)

-- ---- a row is of a field that differs

pub all_map : (P Q : List ℕ → Type 0) (rows : List (List ℕ)) → ((row : List ℕ) → P row → Q row) → All P rows → All Q rows
all_map P Q [] f a = tt
all_map P Q (row ∷ rows) f a = (f row a.0, all_map P Q rows f a.1)

-- of one of these fields of record n, of which the first has number k
pub record FieldOf (n k : ℕ) (table : List Row) (old new row : List ℕ) : Type 0 where
  pub field : ℕ
  pub known : field < length table
  pub form : row ≡ change_row n (k + field) (text_of table field old) (text_of table field new)
  pub differs : text_of table field old ≡ text_of table field new → ⊥

one_each : (n k : ℕ) (row : Row) (table : List Row) (old new : List ℕ) (t : Bool) → same_bytes (text_of (row ∷ table) 0 old) (text_of (row ∷ table) 0 new) ≡ t
    → All (FieldOf n k (row ∷ table) old new) (one_change n k (text_of (row ∷ table) 0 old) (text_of (row ∷ table) 0 new) t)
one_each n k row table old new true e = tt
one_each n k row table old new false e =
    let a = text_of (row ∷ table) 0 old in
    let b = text_of (row ∷ table) 0 new in
    let number : k ≡ k + 0 = omega arith in
    (record { field = 0; known = omega arith; form = ap (λ j. change_row n j a b) number; differs = λ same. never (sym e ∙ (same_equal a b).1 same) }, tt)

fields_each : (n k : ℕ) (table : List Row) (old new : List ℕ) → All (FieldOf n k table old new) (field_changes n k table old new)
unfolding field_changes
fields_each n k [] old new = tt
fields_each n k (row ∷ table) old new =
    let a = text_of (row ∷ table) 0 old in
    let b = text_of (row ∷ table) 0 new in
    let further : (one : List ℕ) → FieldOf n (k + 1) table old new one → FieldOf n k (row ∷ table) old new one =
    λ one o.
    let number : k + 1 + o.field ≡ k + suc o.field = omega arith in
    record {
      field = suc o.field;
      known = omega (arith, o.known);
      form = o.form ∙ ap (λ j. change_row n j (text_of table o.field old) (text_of table o.field new)) number;
      differs = o.differs;
    } in
    all_append (FieldOf n k (row ∷ table) old new) (one_change n k a b (same_bytes a b)) (field_changes n (k + 1) table old new) (one_each n k row table old new (same_bytes a b) refl)
    (all_map (FieldOf n (k + 1) table old new) (FieldOf n k (row ∷ table) old new) (field_changes n (k + 1) table old new) further (fields_each n (k + 1) table old new))

module _ (type : ℕ) (table : List Row) where
  -- of a field of a record of this type, with its place among the records
  pub record ChangeOf (n : ℕ) (olds news : List (List ℕ)) (row : List ℕ) : Type 0 where
    pub at : ℕ
    pub inside : at < length olds
    pub paired : at < length news
    pub typed : eqb (type_of (get_or olds at [])) type ≡ true
    pub change : FieldOf (n + at) 1 table (get_or olds at []) (get_or news at []) row

  of_one_lem : (n : ℕ) (old new : List ℕ) (olds news : List (List ℕ)) (t : Bool) → eqb (type_of old) type ≡ t
      → All (ChangeOf n (old ∷ olds) (new ∷ news)) (of_one type table n old new t)
  of_one_lem n old new olds news false e = tt
  of_one_lem n old new olds news true e =
      let number : n ≡ n + 0 = omega arith in
      all_map (FieldOf n 1 table old new) (ChangeOf n (old ∷ olds) (new ∷ news)) (field_changes n 1 table old new)
      (λ row c. record { at = 0; inside = omega arith; paired = omega arith; typed = e; change = subst (λ j. FieldOf j 1 table old new row) number c })
      (fields_each n 1 table old new)

  pub changes_each : (n : ℕ) (olds news : List (List ℕ)) → All (ChangeOf n olds news) (changes_from type table n olds news)
  unfolding changes_from
  changes_each n [] news = tt
  changes_each n (old ∷ olds) [] = tt
  changes_each n (old ∷ olds) (new ∷ news) =
      let more = changes_from type table (n + 1) olds news in
      let further : (row : List ℕ) → ChangeOf (n + 1) olds news row → ChangeOf n (old ∷ olds) (new ∷ news) row =
      λ row c.
      let number : n + 1 + c.at ≡ n + suc c.at = omega arith in
      record {
        at = suc c.at;
        inside = omega (arith, c.inside);
        paired = omega (arith, c.paired);
        typed = c.typed;
        change = subst (λ j. FieldOf j 1 table (get_or olds c.at []) (get_or news c.at []) row) number c.change;
      } in
      all_append (ChangeOf n (old ∷ olds) (new ∷ news)) (of_one type table n old new (eqb (type_of old) type)) more (of_one_lem n old new olds news (eqb (type_of old) type) refl)
      (all_map (ChangeOf (n + 1) olds news) (ChangeOf n (old ∷ olds) (new ∷ news)) more further (changes_each (n + 1) olds news))

-- ---- no two are of one field

-- the key of a row
pub key_row : (n k : ℕ) (old new : List ℕ) → n < 10000000 → k < 100 → key_of (change_row n k old new) ≡ n * 100 + k
key_row n k old new h g =
    let number = render 7 n in
    let field = render 2 k in
    let nine : length (number ++ field) ≡ 9 = length-append number field ∙ ap₂ (λ x y. x + y) (length_render 7 n) (length_render 2 k) in
    let front : take 9 (change_row n k old new) ≡ number ++ field = ap (take 9) (sym (append_assoc number field (old ++ new))) ∙ take_at (number ++ field) (old ++ new) 9 nine in
    ap value front ∙ value_append 0 number field ∙ value_from_lem (value number) field
    ∙ ap₂ (λ x y. x * 10 ^ y + value field) (value_render_lt 7 n h) (length_render 2 k) ∙ ap (λ x. n * 100 + x) (value_render_lt 2 k g)

-- keys ascend, from a on and below b
abbrev pub Ascends : ℕ → List (List ℕ) → ℕ → Type 0
Ascends a [] b = a ≤ b
Ascends a (row ∷ rows) b = (a ≤ key_of row) × Ascends (key_of row + 1) rows b

pub ascends_wider : (a b c d : ℕ) (rows : List (List ℕ)) → a ≤ b → c ≤ d → Ascends b rows c → Ascends a rows d
ascends_wider a b c d [] h g s = omega arith
ascends_wider a b c d (row ∷ rows) h g s = (omega (arith, s.0), ascends_wider (key_of row + 1) (key_of row + 1) c d rows (omega arith) g s.1)

pub ascends_append : (a b c : ℕ) (xs ys : List (List ℕ)) → Ascends a xs b → Ascends b ys c → Ascends a (xs ++ ys) c
ascends_append a b c [] ys s t = ascends_wider a b c c ys s (omega arith) t
ascends_append a b c (row ∷ xs) ys s t = (s.0, ascends_append (key_of row + 1) b c xs ys s.1 t)

least : (a b : ℕ) (rows : List (List ℕ)) (i : ℕ) → Ascends a rows b → i < length rows → a ≤ key_of (get_or rows i [])
least a b [] i s h = absurd (omega arith)
least a b (row ∷ rows) zero s h = s.0
least a b (row ∷ rows) (suc i) s h = omega (arith, s.0, least (key_of row + 1) b rows i s.1 (le_of_suc-le-suc h))

-- so of two rows the later has the greater key
pub ascends_two : (a b : ℕ) (rows : List (List ℕ)) (i j : ℕ) → Ascends a rows b → i < j → j < length rows → key_of (get_or rows i []) < key_of (get_or rows j [])
ascends_two a b [] i j s h g = absurd (omega arith)
ascends_two a b (row ∷ rows) i zero s h g = absurd (omega arith)
ascends_two a b (row ∷ rows) zero (suc j) s h g = omega (arith, least (key_of row + 1) b rows j s.1 (le_of_suc-le-suc g))
ascends_two a b (row ∷ rows) (suc i) (suc j) s h g = ascends_two (key_of row + 1) b rows i j s.1 (le_of_suc-le-suc h) (le_of_suc-le-suc g)

one_ascends : (n k : ℕ) (old new : List ℕ) (t : Bool) (rows : List (List ℕ)) (b : ℕ) → n < 10000000 → k < 100
    → Ascends (n * 100 + (k + 1)) rows b → Ascends (n * 100 + k) (one_change n k old new t ++ rows) b
one_ascends n k old new true rows b h g s = ascends_wider (n * 100 + k) (n * 100 + (k + 1)) b b rows (omega arith) (omega arith) s
one_ascends n k old new false rows b h g s =
    let key = key_row n k old new h g in
    (omega (arith, key), ascends_wider (key_of (change_row n k old new) + 1) (n * 100 + (k + 1)) b b rows (omega (arith, key)) (omega arith) s)

fields_ascend : (n k : ℕ) (table : List Row) (old new : List ℕ) (b : ℕ) → n < 10000000 → k + length table ≤ 100 → n * 100 + k + length table ≤ b
    → Ascends (n * 100 + k) (field_changes n k table old new) b
unfolding field_changes
fields_ascend n k [] old new b h g l = omega arith
fields_ascend n k (row ∷ table) old new b h g l =
    one_ascends n k (text_of (row ∷ table) 0 old) (text_of (row ∷ table) 0 new) (same_bytes (text_of (row ∷ table) 0 old) (text_of (row ∷ table) 0 new)) (field_changes n (k + 1) table old new) b h (omega arith)
    (fields_ascend n (k + 1) table old new b h (omega arith) (omega arith))

of_ascends : (type : ℕ) (table : List Row) (n : ℕ) (old new : List ℕ) (t : Bool) → length table ≤ 98 → n < 10000000
    → Ascends (n * 100) (of_one type table n old new t) ((n + 1) * 100)
of_ascends type table n old new false h g = omega arith
of_ascends type table n old new true h g =
    ascends_wider (n * 100) (n * 100 + 1) ((n + 1) * 100) ((n + 1) * 100) (field_changes n 1 table old new) (omega arith) (omega arith)
    (fields_ascend n 1 table old new ((n + 1) * 100) g (omega arith) (omega arith))

-- the rows of records n and on
pub changes_ascend : (type : ℕ) (table : List Row) (n : ℕ) (olds news : List (List ℕ)) (b : ℕ) → length table ≤ 98 → n + length olds ≤ 10000000 → (n + length olds) * 100 ≤ b
    → Ascends (n * 100) (changes_from type table n olds news) b
unfolding changes_from
changes_ascend type table n [] news b h g l = omega arith
changes_ascend type table n (old ∷ olds) [] b h g l = omega arith
changes_ascend type table n (old ∷ olds) (new ∷ news) b h g l =
    ascends_append (n * 100) ((n + 1) * 100) b (of_one type table n old new (eqb (type_of old) type)) (changes_from type table (n + 1) olds news)
    (of_ascends type table n old new (eqb (type_of old) type) h (omega arith))
    (changes_ascend type table (n + 1) olds news b h (omega arith) (omega arith))

-- ---- how many there are

one_few : (n k : ℕ) (a b : List ℕ) (t : Bool) → length (one_change n k a b t) ≤ 1
one_few n k a b true = omega arith
one_few n k a b false = omega arith

fields_few : (n k : ℕ) (table : List Row) (old new : List ℕ) → length (field_changes n k table old new) ≤ length table
unfolding field_changes
fields_few n k [] old new = omega arith
fields_few n k (row ∷ table) old new =
    let a = text_of (row ∷ table) 0 old in
    let b = text_of (row ∷ table) 0 new in
    let more = field_changes n (k + 1) table old new in
    omega (arith, length-append (one_change n k a b (same_bytes a b)) more, one_few n k a b (same_bytes a b), fields_few n (k + 1) table old new)

one_record : (type : ℕ) (table : List Row) (n : ℕ) (old new : List ℕ) (t : Bool) → length (of_one type table n old new t ++ []) ≤ length table
one_record type table n old new false = omega arith
one_record type table n old new true = omega (arith, length-append (field_changes n 1 table old new) [], fields_few n 1 table old new)

-- no more for one record than its type has fields
pub changes_one : (type : ℕ) (table : List Row) (n : ℕ) (rs news : List (List ℕ)) → length (changes_from type table n (take 1 rs) news) ≤ length table
unfolding changes_from
changes_one type table n [] news = omega arith
changes_one type table n (old ∷ rs) [] = omega arith
changes_one type table n (old ∷ rs) (new ∷ news) = one_record type table n old new (eqb (type_of old) type)

-- an 8 and its mended record begin with the same byte, so that ten of its eleven fields can differ
first_byte : (b : ℕ) (r : List ℕ) → 0 < b → type_of r ≡ b → take 1 r ≡ b ∷ []
first_byte b [] h e = absurd (omega arith)
first_byte b (x ∷ xs) h e = ap (λ y. y ∷ []) e

ten_fields : (n : ℕ) (old new : List ℕ) → type_of old ≡ 56 → type_of new ≡ 56 → length (field_changes n 1 batch_control old new) ≤ 10
unfolding field_changes
ten_fields n old new e d =
    let same = (same_equal (take 1 old) (take 1 new)).1 (first_byte 56 old (omega arith) e ∙ sym (first_byte 56 new (omega arith) d)) in
    let rest = field_changes n 2 (drop 1 batch_control) old new in
    let one : length (field_changes n 1 batch_control old new) ≡ length rest = ap (λ t. length (one_change n 1 (take 1 old) (take 1 new) t ++ rest)) same in
    omega (arith, one, fields_few n 2 (drop 1 batch_control) old new)

of_ten : (n : ℕ) (old new : List ℕ) (t : Bool) → eqb (type_of old) 56 ≡ t → type_of new ≡ type_of old → length (of_one 56 batch_control n old new t) ≤ 10
of_ten n old new false e d = omega arith
of_ten n old new true e d = let eight = eqb-true (type_of old) 56 e in ten_fields n old new eight (d ∙ eight)

pub changes_few : (n : ℕ) (olds news : List (List ℕ)) → ((i : ℕ) → i < length olds → type_of (get_or news i []) ≡ type_of (get_or olds i []))
    → length (changes_from 56 batch_control n olds news) ≤ 10 * length olds
unfolding changes_from
changes_few n [] news h = omega arith
changes_few n (old ∷ olds) [] h = omega arith
changes_few n (old ∷ olds) (new ∷ news) h =
    let more = changes_few (n + 1) olds news (λ i l. h (suc i) (omega (arith, l))) in
    let one = of_ten n old new (eqb (type_of old) 56) refl (h 0 (omega arith)) in
    omega (arith, length-append (of_one 56 batch_control n old new (eqb (type_of old) 56)) (changes_from 56 batch_control (n + 1) olds news), one, more)
