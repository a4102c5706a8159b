-- The list of a mending is complete and true: each byte in which the two files differ is in a listed field or behind the 9, each row is of a
-- field that differs, no field has two rows, and the counts are those of the rows.
-- Assumes nothing but what a statement says.
use Rattle.std.specs.Prelude.{Ok}
use mathlib.Core.Path.{◌≡◌, refl, sym, ap, ap₂, ◌∙◌, subst}
use mathlib.Core.Bool.{Bool, true, false, ◌&&◌}
use mathlib.Core.List.{List, [], ◌∷◌, ◌++◌, append_assoc, append-nil}
use Prim.Native.Nat.{ℕ, zero, suc, ◌+◌, ◌-◌, ◌*◌, ◌/◌, ◌%◌, ◌≤◌, ◌<◌}
use native.Mathlib.Omega.{arith}
use borrow.Author.Tests.{eqb-true, leb-true, eq-eqb}
use lib.Dec.{eqb, leb, lit≤}
use lib.ListN.{length, get_or, take, drop, length-take, length-drop, get_or-eq_default}
use lib.Seq.{drop-append_seam, get_or-take, get_or-drop}
use Rattle.text.specs.Decimal.{pick, value, render}
use Rattle.text.specs.Rows.{section}
use Rattle.text.specs.Same.{same_bytes}
use Rattle.text.proofs.DecimalLaws.{and_both, same_equal}
use Rattle.text.proofs.RowLaws.{length_rows, section_count}
use Rattle.layout.specs.declared.Row.{Row}
use Rattle.layout.specs.declared.Way.{Way}
use Rattle.layout.specs.Fields.{no_row, batch_control, file_control}
use Rattle.layout.specs.Ways.{record_bytes}
use Rattle.check_record.specs.Record.{length_fits, most_records, raw_records}
use Rattle.check_record.proofs.Ways.{rows_few}
use Rattle.check_sums.specs.Sums.{start}
use Rattle.view.specs.Sized.{All}
use Rattle.view_laws.proofs.Lists.{by_lt, all_append}
use Rattle.table_form.specs.Forms.{batch_control_from}
use Rattle.mend.specs.Mend.{type_of, refilled, ends_file, mended_from, mended_records, mended_file, nine_at, change_row, field_changes, changes_from, filler_changes, changes_of, mend_answer}
use Rattle.mend.specs.Listed.{batch_rows, file_rows, filler_rows, field_rows, table_by, fields_at, text_at, row_for, Has, ListedAt, TrueRow, key_of, Counted, ListOf}
use Rattle.mend.proofs.Stays.{fields_same, either_none}
use Rattle.mend.proofs.Again.{by_test, raw_mended, at_other}
use Rattle.mend.proofs.Numbers.{record_same}
use Rattle.mend.proofs.Running.{mended_fits}
use Rattle.mend.proofs.Granted.{exactly_granted}
use Rattle.mend.proofs.Changes.{text_of, has_left, has_right, changes_has, all_map, FieldOf, ChangeOf, changes_each, key_row, ascends_append, ascends_two, changes_ascend, changes_one, changes_few}
use Rattle.mend.proofs.Places.{InPlace, in_place, nine_in_place, no_nine, before_inside, before_mended, byte_at, byte_in, byte_behind, in_turn, FieldThere, field_there}

-- ---- one record and the one in its place

-- a column of a control whose byte differs is in a field that has a row
pub record Found (table : List Row) (rows : List (List ℕ)) (n : ℕ) (old new : List ℕ) (c : ℕ) : Type 0 where
  pub column : FieldThere table (c + 1)
  pub listed : Has rows (change_row n (1 + column.field) (text_of table column.field old) (text_of table column.field new))

module _ (type : ℕ) (table : List Row) (turn : in_turn 1 table 95 ≡ true) where
  found : (n : ℕ) (olds news : List (List ℕ)) (i : ℕ) → i < length olds → i < length news → (old new : List ℕ) → get_or olds i [] ≡ old → get_or news i [] ≡ new
      → type_of old ≡ type → InPlace old new → (c d : ℕ) → (get_or old c d ≡ get_or new c d → ⊥) → Found table (changes_from type table n olds news) (n + i) old new c
  found n olds news i h g old new a b e s c d differ =
      by_lt c 94
      (λ l t.
      let here = field_there 1 table 95 (c + 1) turn (omega arith) (omega arith) (omega arith) in
      let q = here.field in
      let first = (get_or table q no_row).first in
      let byte : (r : List ℕ) → get_or (text_of table q r) (c + 1 - first) d ≡ get_or r c d = λ r. byte_in first (get_or table q no_row).last r c d here.some here.from here.to in
      by_test (same_bytes (text_of table q old) (text_of table q new))
      (λ same. absurd (differ (sym (byte old) ∙ ap (λ x. get_or x (c + 1 - first) d) ((same_equal (text_of table q old) (text_of table q new)).0 same) ∙ byte new)))
      (λ other.
      let row =
      changes_has type table n olds news i q h g (eq-eqb (type_of (get_or olds i [])) type (ap type_of a ∙ e)) here.known
      (ap₂ (λ x y. same_bytes (text_of table q x) (text_of table q y)) a b ∙ other) in
      let texts = ap₂ (λ x y. change_row (n + i) (1 + q) (text_of table q x) (text_of table q y)) a b in
      record { column = here; listed = subst (Has (changes_from type table n olds news)) texts row }))
      (λ l t. absurd (differ (sym (byte_behind old c d l) ∙ ap (λ x. get_or x (c - 94) d) (sym s.behind) ∙ byte_behind new c d l)))

-- ---- places in the two files

record_of_lem : (way : Way) (p n : ℕ) → p < record_bytes way * (n + 1) → p / record_bytes way ≤ n
record_of_lem Way.Plain p n h = omega arith
record_of_lem Way.Lined p n h = omega arith

past_end : (way : Way) (p n : ℕ) → n % record_bytes way ≡ 0 → n / record_bytes way ≤ p / record_bytes way → n ≤ p
past_end Way.Plain p n h g = omega arith
past_end Way.Lined p n h g = omega arith

whole : (way : Way) (n : ℕ) → length_fits way n ≡ true → n % record_bytes way ≡ 0
whole way n h =
    let one = and_both (leb 1 n && eqb (n % record_bytes way) 0) (leb n (record_bytes way * most_records)) h in
    eqb-true (n % record_bytes way) 0 (and_both (leb 1 n) (eqb (n % record_bytes way) 0) one.0).1

-- a record that has a type is there
typed_inside : (rs : List (List ℕ)) (i b : ℕ) → 0 < b → type_of (get_or rs i []) ≡ b → i < length rs
typed_inside rs i b h e = by_lt i (length rs) (λ l t. l) (λ l t. absurd (omega (arith, h, e, ap type_of (get_or-eq_default rs [] l))))

-- ---- how many rows there are

-- a control has at most eleven fields
table_few : (b : ℕ) → length (table_by b) ≤ 11
table_few b = go (eqb b 56) (eqb b 57)
  where
    go : (t u : Bool) → length (pick t batch_control (pick u file_control [])) ≤ 11
    go true u = omega arith
    go false true = omega arith
    go false false = omega arith

-- where the first of n records stays, and each has its type, they have less than ten million rows
rows_below : (n : ℕ) (olds news : List (List ℕ)) → ((i : ℕ) → i < n → type_of (get_or news i []) ≡ type_of (get_or olds i [])) → get_or news 0 [] ≡ get_or olds 0 [] → n ≤ 1000000
    → length (changes_from 56 batch_control 1 (take n olds) news) < 10000000
unfolding changes_from
rows_below zero olds news h e l = omega arith
rows_below (suc n) [] news h e l = omega arith
rows_below (suc n) (old ∷ olds) [] h e l = omega arith
rows_below (suc n) (old ∷ olds) (new ∷ news) h e l =
    let most = length-take n olds in
    let more = changes_few 2 (take n olds) news (λ i k. h (suc i) (omega arith) ∙ ap type_of (sym (get_or-take n olds i [] (omega arith)))) in
    let none = either_none (eqb (type_of old) 56) (field_changes 1 1 batch_control old new) (ap (field_changes 1 1 batch_control old) e ∙ fields_same 1 1 batch_control old) in
    let all = ap (λ rows. length (rows ++ changes_from 56 batch_control 2 (take n olds) news)) none in
    omega (arith, all, more)

never_both : (t : Bool) → (t && false) ≡ false
never_both true = refl
never_both false = refl

-- the first record stays: there is no 5 before it, and no 8
first_stays : (way : Way) (rs : List (List ℕ)) → get_or (mended_records way rs) 0 [] ≡ get_or rs 0 []
unfolding mended_from
first_stays way [] = refl
first_stays way (r ∷ rs) =
    let none : ends_file 0 r ≡ false = never_both (eqb (type_of r) 57) in
    ap (λ x. get_or x 0 []) (at_other way 0 start.sums start.header r rs none)
    ∙ ap (λ t. pick t (refilled (batch_control_from start.sums start.header) r) r) (never_both (eqb (type_of r) 56))

fillers_few : (old new : ℕ) → length (filler_changes old new) ≤ 1
fillers_few old new = go (eqb old new)
  where
    go : (t : Bool) → length (pick t [] ((pick (leb old 9) (render 1 old) (43 ∷ []) ++ render 1 new) ∷ [])) ≤ 1
    go true = omega arith
    go false = omega arith

module _ (way : Way) (f : List ℕ) where
  abbrev olds : List (List ℕ)
  olds = raw_records way f

  abbrev news : List (List ℕ)
  news = raw_records way (mended_file way f)

  abbrev nine : ℕ
  nine = nine_at (raw_records way f)

  -- the rows of fields, as changes between the records of the two files
  batch_rows_lem : batch_rows way f ≡ changes_from 56 batch_control 1 (take nine olds) news
  batch_rows_lem = ap (changes_from 56 batch_control 1 (take nine olds)) (sym (raw_mended way f))

  file_rows_lem : file_rows way f ≡ changes_from 57 file_control (nine + 1) (take 1 (drop nine olds)) (drop nine news)
  file_rows_lem = ap (λ rs. changes_from 57 file_control (nine + 1) (take 1 (drop nine olds)) (drop nine rs)) (sym (raw_mended way f))

  -- field q of record i, both from 0, in a file g where that record has type b
  fields_at_lem : (g : List ℕ) (i b : ℕ) → type_of (get_or (raw_records way g) i []) ≡ b → fields_at way g (i + 1) ≡ table_by b
  fields_at_lem g i b e =
      let less : i + 1 - 1 ≡ i = omega arith in
      ap (λ j. table_by (type_of (get_or (raw_records way g) j []))) less ∙ ap table_by e

  text_at_lem : (g : List ℕ) (i q b : ℕ) → type_of (get_or (raw_records way g) i []) ≡ b → text_at way g (i + 1) (1 + q) ≡ text_of (table_by b) q (get_or (raw_records way g) i [])
  text_at_lem g i q b e =
      let record-less : i + 1 - 1 ≡ i = omega arith in
      let field-less : 1 + q - 1 ≡ q = omega arith in
      ap (λ t. text_of t (1 + q - 1) (get_or (raw_records way g) (i + 1 - 1) [])) (fields_at_lem g i b e)
      ∙ ap₂ (λ x y. text_of (table_by b) x (get_or (raw_records way g) y [])) field-less record-less

  row_for_lem : (n i q b : ℕ) → n ≡ i + 1 → type_of (get_or olds i []) ≡ b → InPlace (get_or olds i []) (get_or news i [])
      → change_row n (1 + q) (text_of (table_by b) q (get_or olds i [])) (text_of (table_by b) q (get_or news i [])) ≡ row_for way f (i + 1) (1 + q)
  row_for_lem n i q b e t s =
      ap (λ j. change_row j (1 + q) (text_of (table_by b) q (get_or olds i [])) (text_of (table_by b) q (get_or news i []))) e
      ∙ sym (ap₂ (λ x y. change_row (i + 1) (1 + q) x y) (text_at_lem f i q b t) (text_at_lem (mended_file way f) i q b (s.type ∙ t)))

  -- ---- complete

  found_at : (p b n : ℕ) (rows : List (List ℕ)) → n ≡ p / record_bytes way + 1 → type_of (get_or olds (p / record_bytes way) []) ≡ b
      → InPlace (get_or olds (p / record_bytes way) []) (get_or news (p / record_bytes way) []) → ((row : List ℕ) → Has rows row → Has (field_rows way f) row)
      → Found (table_by b) rows n (get_or olds (p / record_bytes way) []) (get_or news (p / record_bytes way) []) (p % record_bytes way) → ListedAt way f p
  found_at p b n rows e t s within r =
      let i = p / record_bytes way in
      let q = r.column.field in
      let fields = fields_at_lem f i b t in
      let less : 1 + q - 1 ≡ q = omega arith in
      let row : get_or (fields_at way f (i + 1)) (1 + q - 1) no_row ≡ get_or (table_by b) q no_row = ap₂ (λ x y. get_or x y no_row) fields less in
      record {
        field = 1 + q;
        known = (omega arith, omega (arith, ap length fields, r.column.known));
        from = omega (arith, ap (λ x. x.first) row, r.column.from);
        to = omega (arith, ap (λ x. x.last) row, r.column.to);
        listed = within (row_for way f (i + 1) (1 + q)) (subst (Has rows) (row_for_lem n i q b e t s) r.listed);
      }

  in_batches : (row : List ℕ) → Has (changes_from 56 batch_control 1 (take nine olds) news) row → Has (field_rows way f) row
  in_batches row h = has_left (batch_rows way f) (file_rows way f) row (subst (λ rows. Has rows row) (sym batch_rows_lem) h)

  in_file : (row : List ℕ) → Has (changes_from 57 file_control (nine + 1) (take 1 (drop nine olds)) (drop nine news)) row → Has (field_rows way f) row
  in_file row h = has_right (batch_rows way f) (file_rows way f) row (subst (λ rows. Has rows row) (sym file_rows_lem) h)

  -- the byte of a record
  bytes_differ : (p d : ℕ) → p / record_bytes way < length olds → p / record_bytes way < length news → (get_or f p d ≡ get_or (mended_file way f) p d → ⊥)
      → get_or (get_or olds (p / record_bytes way) []) (p % record_bytes way) d ≡ get_or (get_or news (p / record_bytes way) []) (p % record_bytes way) d → ⊥
  bytes_differ p d h g differ same = differ (byte_at way f p d h ∙ same ∙ sym (byte_at way (mended_file way f) p d g))

  before_nine_lem : (p d : ℕ) → p / record_bytes way < nine → (get_or f p d ≡ get_or (mended_file way f) p d → ⊥) → ListedAt way f p
  before_nine_lem p d l differ =
      let i = p / record_bytes way in
      let h : i < length olds = omega (arith, before_inside 0 olds) in
      let g : i < length news = omega (arith, before_mended way f) in
      let other = bytes_differ p d h g differ in
      let s = in_place way f i l in
      let number : 1 + i ≡ i + 1 = omega arith in
      by_test (eqb (type_of (get_or olds i [])) 56)
      (λ e.
      let eight = eqb-true (type_of (get_or olds i [])) 56 e in
      found_at p 56 (1 + i) (changes_from 56 batch_control 1 (take nine olds) news) number eight s in_batches
      (found 56 batch_control refl 1 (take nine olds) news i (omega (arith, length-take nine olds)) g (get_or olds i []) (get_or news i []) (get_or-take nine olds i [] l) refl eight s (p % record_bytes way) d other))
      (λ e. absurd (other (ap (λ r. get_or r (p % record_bytes way) d) (sym (record_same way f i l e)))))

  at_the_nine : (p d : ℕ) → p / record_bytes way ≡ nine → nine < length olds → (get_or f p d ≡ get_or (mended_file way f) p d → ⊥) → ListedAt way f p
  at_the_nine p d e l differ =
      let i = p / record_bytes way in
      let n = nine_in_place way f l in
      let t : type_of (get_or olds i []) ≡ 57 = ap (λ j. type_of (get_or olds j [])) e ∙ n.nine in
      let s : InPlace (get_or olds i []) (get_or news i []) = subst (λ j. InPlace (get_or olds j []) (get_or news j [])) (sym e) n.place in
      let g : nine < length news = typed_inside news nine 57 (omega arith) (n.place.type ∙ n.nine) in
      let there : nine + 0 ≡ i = omega arith in
      let number : nine + 1 + 0 ≡ i + 1 = omega arith in
      found_at p 57 (nine + 1 + 0) (changes_from 57 file_control (nine + 1) (take 1 (drop nine olds)) (drop nine news)) number t s in_file
      (found 57 file_control refl (nine + 1) (take 1 (drop nine olds)) (drop nine news) 0 (omega (arith, length-take 1 (drop nine olds), length-drop nine olds)) (omega (arith, length-drop nine news))
      (get_or olds i []) (get_or news i [])
      (get_or-take 1 (drop nine olds) 0 [] (omega arith) ∙ get_or-drop nine olds 0 [] ∙ ap (λ j. get_or olds j []) there) (get_or-drop nine news 0 [] ∙ ap (λ j. get_or news j []) there)
      t s (p % record_bytes way) d (bytes_differ p d (omega arith) (omega arith) differ))

  -- a byte that differs, or stands in one file alone, is in a listed field or behind the 9; d stands for what is past the end of a file
  pub differs_listed : length_fits way (length f) ≡ true → (p d : ℕ) → p < record_bytes way * (nine + 1) → (get_or f p d ≡ get_or (mended_file way f) p d → ⊥) → ListedAt way f p
  differs_listed fit p d l differ =
      let i = p / record_bytes way in
      let most = record_of_lem way p nine l in
      by_lt i nine
      (λ h t. before_nine_lem p d h differ)
      (λ h t.
      by_lt nine (length olds)
      (λ g u. at_the_nine p d (omega arith) g differ)
      (λ g u.
      let more = no_nine way f g in
      let old = past_end way p (length f) (whole way (length f) fit) (omega (arith, length_rows (record_bytes way) (length f / record_bytes way) f)) in
      let new =
      past_end way p (length (mended_file way f)) (whole way (length (mended_file way f)) (mended_fits way f fit))
      (omega (arith, more, length_rows (record_bytes way) (length (mended_file way f) / record_bytes way) (mended_file way f))) in
      absurd (differ (get_or-eq_default f d old ∙ sym (get_or-eq_default (mended_file way f) d new)))))

  -- ---- true

  few_records : length_fits way (length f) ≡ true → nine ≤ 1000000
  few_records fit =
      let w = record_bytes way in
      let one = and_both (leb 1 (length f) && eqb (length f % w) 0) (leb (length f) (w * most_records)) fit in
      omega (arith, before_inside 0 olds, length_rows w (length f / w) f, rows_few way (length f) (leb-true (length f) (w * most_records) one.1))

  true_row : (n i b : ℕ) (row : List ℕ) → n ≡ i + 1 → i ≤ nine → type_of (get_or olds i []) ≡ b → InPlace (get_or olds i []) (get_or news i [])
      → FieldOf n 1 (table_by b) (get_or olds i []) (get_or news i []) row → length_fits way (length f) ≡ true → TrueRow way f row
  true_row n i b row e l t s c fit =
      let q = c.field in
      let old = text_at_lem f i q b t in
      let new = text_at_lem (mended_file way f) i q b (s.type ∙ t) in
      let form = c.form ∙ row_for_lem n i q b e t s in
      record {
        number = i + 1;
        field = 1 + q;
        numbered = (omega arith, omega arith);
        known = (omega arith, omega (arith, ap length (fields_at_lem f i b t), c.known));
        form = form;
        key = ap key_of form ∙ key_row (i + 1) (1 + q) (text_at way f (i + 1) (1 + q)) (text_at way (mended_file way f) (i + 1) (1 + q)) (omega (arith, few_records fit)) (omega (arith, c.known, table_few b));
        differs = λ same. c.differs (sym old ∙ same ∙ new);
      }

  true_batch : length_fits way (length f) ≡ true → (row : List ℕ) → ChangeOf 56 batch_control 1 (take nine olds) news row → TrueRow way f row
  true_batch fit row c =
      let i = c.at in
      let l : i < nine = omega (arith, c.inside, length-take nine olds) in
      let same = get_or-take nine olds i [] l in
      let t = eqb-true (type_of (get_or (take nine olds) i [])) 56 c.typed in
      true_row (1 + i) i 56 row (omega arith) (omega arith) (ap type_of (sym same) ∙ t) (in_place way f i l)
      (subst (λ old. FieldOf (1 + i) 1 batch_control old (get_or news i []) row) same c.change) fit

  true_file : length_fits way (length f) ≡ true → (row : List ℕ) → ChangeOf 57 file_control (nine + 1) (take 1 (drop nine olds)) (drop nine news) row → TrueRow way f row
  true_file fit row c =
      let i = c.at in
      let first : i < 1 = omega (arith, c.inside, length-take 1 (drop nine olds)) in
      let l : nine < length olds = omega (arith, c.inside, length-take 1 (drop nine olds), length-drop nine olds) in
      let there : nine + i ≡ nine = omega arith in
      let old = get_or-take 1 (drop nine olds) i [] first ∙ get_or-drop nine olds i [] ∙ ap (λ j. get_or olds j []) there in
      let new = get_or-drop nine news i [] ∙ ap (λ j. get_or news j []) there in
      let n = nine_in_place way f l in
      true_row (nine + 1 + i) nine 57 row (omega arith) (omega arith) n.nine n.place
      (subst (λ x. FieldOf (nine + 1 + i) 1 file_control (get_or olds nine []) x row) new
      (subst (λ x. FieldOf (nine + 1 + i) 1 file_control x (get_or (drop nine news) i []) row) old c.change)) fit

  -- each row is of a field of an 8 before the 9 or of the 9, with its two texts, which differ
  pub listed_differs : length_fits way (length f) ≡ true → All (TrueRow way f) (field_rows way f)
  listed_differs fit =
      let batches = changes_from 56 batch_control 1 (take nine olds) news in
      let file = changes_from 57 file_control (nine + 1) (take 1 (drop nine olds)) (drop nine news) in
      all_append (TrueRow way f) (batch_rows way f) (file_rows way f)
      (subst (All (TrueRow way f)) (sym batch_rows_lem)
      (all_map (ChangeOf 56 batch_control 1 (take nine olds) news) (TrueRow way f) batches (true_batch fit) (changes_each 56 batch_control 1 (take nine olds) news)))
      (subst (All (TrueRow way f)) (sym file_rows_lem)
      (all_map (ChangeOf 57 file_control (nine + 1) (take 1 (drop nine olds)) (drop nine news)) (TrueRow way f) file (true_file fit)
      (changes_each 57 file_control (nine + 1) (take 1 (drop nine olds)) (drop nine news))))

  -- ---- once

  -- the rows ascend by record number and field, so that no field has two
  pub listed_once : length_fits way (length f) ≡ true → (i j : ℕ) → i < j → j < length (field_rows way f) → key_of (get_or (field_rows way f) i []) < key_of (get_or (field_rows way f) j [])
  listed_once fit i j h g =
      let few = few_records fit in
      let first = length-take nine olds in
      let one = length-take 1 (drop nine olds) in
      let rs = mended_records way olds in
      ascends_two (1 * 100) ((nine + 2) * 100) (field_rows way f) i j
      (ascends_append (1 * 100) ((nine + 1) * 100) ((nine + 2) * 100) (batch_rows way f) (file_rows way f)
      (changes_ascend 56 batch_control 1 (take nine olds) rs ((nine + 1) * 100) (lit≤ tt) (omega arith) (omega arith))
      (changes_ascend 57 file_control (nine + 1) (take 1 (drop nine olds)) (drop nine rs) ((nine + 2) * 100) (lit≤ tt) (omega arith) (omega arith)))
      h g

  -- ---- counts

  -- at most ten rows for each record but the first, so that seven digits hold their number
  pub batches_few : length_fits way (length f) ≡ true → length (batch_rows way f) < 10000000
  batches_few fit =
      subst (λ rows. length rows < 10000000) (sym batch_rows_lem)
      (rows_below nine olds news (λ i l. (in_place way f i l).type) (ap (λ rs. get_or rs 0 []) (raw_mended way f) ∙ first_stays way olds) (few_records fit))

  -- the three counts of seven digits are the numbers of the rows behind them
  pub counts_own : length_fits way (length f) ≡ true → Counted (changes_of way f) (batch_rows way f) (file_rows way f) (filler_rows way f)
  counts_own fit =
      let batches = section 7 (batch_rows way f) in
      let file = section 7 (file_rows way f) in
      let filler = section 7 (filler_rows way f) in
      let rs = mended_records way olds in
      let file-few = changes_one 57 file_control (nine + 1) (drop nine olds) (drop nine rs) in
      let filler-few = fillers_few (length (drop (nine + 1) olds)) (length (drop (nine + 1) rs)) in
      record {
        whole = refl;
        first = section_count 7 (batch_rows way f) (file ++ filler) (batches_few fit);
        second = ap (λ x. value (take 7 x)) (drop-append_seam batches (file ++ filler)) ∙ section_count 7 (file_rows way f) filler (omega arith);
        third =
            ap (λ x. value (take 7 (drop (length (batches ++ file)) x))) (sym (append_assoc batches file filler))
            ∙ ap (λ x. value (take 7 x)) (drop-append_seam (batches ++ file) filler ∙ sym (append-nil filler))
            ∙ section_count 7 (filler_rows way f) [] (omega arith);
      }

  -- ---- a grant

  -- so much is true of the list of a granted mending
  pub granted_list : (n m : ℕ) → mend_answer way f n m ≡ Ok tt → ListOf way f
  granted_list n m e =
      let fit = ((exactly_granted way f n m).0 e).whole in
      record { complete = differs_listed fit; true_rows = listed_differs fit; once = listed_once fit; counted = counts_own fit }
