-- The fields of two records one after the other: what the rows from one field on come to, and what they put.
-- Assumes nothing but what a statement says.
use mathlib.Core.Path.{◌≡◌, refl, sym, ap, ap₂, ◌∙◌, subst}
use Rattle.std.proofs.lemmas.List.{get_or_default}
use mathlib.Core.Bool.{Bool, true, false, ◌&&◌}
use mathlib.Core.List.{List, [], ◌∷◌, ◌++◌, append-nil}
use Prim.Native.Nat.{ℕ, suc, ◌+◌, ◌-◌, ◌*◌, ◌≤◌, ◌<◌}
use native.Mathlib.Nat.{zero-add}
use native.Mathlib.Omega.{arith}
use borrow.Author.Tests.{leb-true}
use lib.Dec.{eqb, leb}
use lib.Pointwise.{pointwise}
use lib.ListN.{length, get_or, take, drop, length-append, length-take, length-drop, drop_of_length-le}
use lib.Seq.{sets, drop-cons}
use Rattle.text.specs.Decimal.{pick, render}
use Rattle.text.specs.Rows.{columns, joined}
use Rattle.text.specs.Same.{same_bytes}
use Rattle.text.proofs.DecimalLaws.{length_render, same_is}
use Rattle.text.proofs.RowLaws.{joined_append}
use Rattle.layout.specs.declared.Row.{Row}
use Rattle.layout.specs.declared.Line.{Line}
use Rattle.layout.specs.Fields.{no_row, rows_of}
use Rattle.layout.specs.WorkFits.{row_fits}
use Rattle.layout.proofs.Tables.{row_in}
use Rattle.table_form.proofs.FormLaws.{number_put}
use Rattle.table_read.specs.WorkPuts.{Puts, Room}
use Rattle.table_read.proofs.Writing.{puts_both, room_front, room_rest, Left, left_room, left_next, left_end}
use Rattle.mend.specs.Mend.{change_row, field_changes}
use Rattle.mend_file.specs.declared.Listed.{Listed}
use Rattle.mend_file.specs.WorkChanging.{listed_of, field_rows}

-- ---- the text of a field

-- a field's text in a record, as the code cuts it out
pub text_of : (row : Row) (r : List ℕ) (end : ℕ) → row_fits row ≡ true → end ≡ row.last → take (end - (row.first - 1)) (drop (row.first - 1) r) ≡ columns row.first row.last r
text_of row r end h e =
    let inside = row_in row h in
    let wide : end - (row.first - 1) ≡ row.last + 1 - row.first = omega (arith, inside.0, inside.1) in
    ap (λ w. take w (drop (row.first - 1) r)) wide

pub text_short : (row : Row) (r : List ℕ) → row_fits row ≡ true → length (columns row.first row.last r) ≤ 94
text_short row r h = let inside = row_in row h in simp length-take (omega (arith, inside.0, inside.2))

-- ---- one field

abbrev row_size : Bool → ℕ → ℕ → Listed
row_size same a b = pick same (record { rows = 0; bytes = 0 }) (record { rows = 1; bytes = 9 + a + b })

change_long : (n k : ℕ) (old new : List ℕ) → length (change_row n k old new) ≡ 9 + length old + length new
change_long n k old new =
    simp (length-append (render 7 n) (render 2 k ++ (old ++ new)), length-append (render 2 k) (old ++ new), length-append old new, length_render 7 n, length_render 2 k) (omega arith)

joined_one : (r : List ℕ) → length (joined (r ∷ [])) ≡ length r
unfolding joined
joined_one r = length-append r [] ∙ omega arith

-- its row takes as much whatever its numbers are
row_listed : (n k : ℕ) (old new : List ℕ) (same : Bool) → listed_of (pick same [] (change_row n k old new ∷ [])) ≡ row_size same (length old) (length new)
unfolding joined
row_listed n k old new true = refl
row_listed n k old new false = ap (λ b. record { rows = 1; bytes = b }) (joined_one (change_row n k old new) ∙ change_long n k old new)

pub field_any : (n k : ℕ) (row : Row) (old new : List ℕ) → listed_of (field_rows n k row old new) ≡ listed_of (field_rows 0 1 row old new)
field_any n k row old new =
    let a = columns row.first row.last old in
    let b = columns row.first row.last new in
    row_listed n k a b (same_bytes a b) ∙ sym (row_listed 0 1 a b (same_bytes a b))

-- by whether its texts are the same, as the code finds it
module _ (n k : ℕ) (row : Row) (old new a b : List ℕ) (e : a ≡ columns row.first row.last old) (q : b ≡ columns row.first row.last new) where
  field_by : (t : Bool) → t ≡ pointwise eqb a b → field_rows n k row old new ≡ pick t [] (change_row n k a b ∷ [])
  field_by t h =
      ap₂ (λ x y. pick (same_bytes x y) [] (change_row n k x y ∷ [])) (sym e) (sym q)
      ∙ ap (λ t. pick t [] (change_row n k a b ∷ [])) (same_is a b ∙ sym h)

  pub field_same : (t : Bool) → t ≡ pointwise eqb a b → t ≡ true → field_rows n k row old new ≡ []
  field_same t h s = field_by t h ∙ ap (λ t. pick t [] (change_row n k a b ∷ [])) s

  pub field_differs : (t : Bool) → t ≡ pointwise eqb a b → t ≡ false → field_rows n k row old new ≡ change_row n k a b ∷ []
  field_differs t h s = field_by t h ∙ ap (λ t. pick t [] (change_row n k a b ∷ [])) s

pub none_listed : (rs : List (List ℕ)) → rs ≡ [] → record { rows = 0; bytes = 0 } ≡ listed_of rs
unfolding joined
none_listed rs e = sym (ap listed_of e)

pub one_listed : (rs : List (List ℕ)) (n k : ℕ) (a b : List ℕ) → rs ≡ change_row n k a b ∷ [] → record { rows = 1; bytes = 9 + length a + length b } ≡ listed_of rs
one_listed rs n k a b e = sym (ap listed_of e ∙ row_listed n k a b false)

pub row_nothing : (rs : List (List ℕ)) → rs ≡ [] → joined rs ≡ []
unfolding joined
row_nothing rs e = ap joined e

row_parts : (rs : List (List ℕ)) (n k : ℕ) (old new : List ℕ) → rs ≡ change_row n k old new ∷ [] → joined rs ≡ render 7 n ++ (render 2 k ++ (old ++ new))
unfolding joined
row_parts rs n k old new e = ap joined e ∙ append-nil (change_row n k old new)

-- a row put in four parts
module _ (n k : ℕ) (row : Row) (old new a b : List ℕ) (e : a ≡ columns row.first row.last old) (q : b ≡ columns row.first row.last new) (t : Bool) (h : t ≡ pointwise eqb a b) (s : t ≡ false)
    {list : List ℕ} {to : ℕ} (room : Room (joined (field_rows n k row old new)) list to) where
  parts : joined (field_rows n k row old new) ≡ render 7 n ++ (render 2 k ++ (a ++ b))
  parts = row_parts (field_rows n k row old new) n k a b (field_differs n k row old new a b e q t h s)

  whole : Room (render 7 n ++ (render 2 k ++ (a ++ b))) list to
  whole = subst (λ x. Room x list to) parts room

  pub number_room : Room (render 7 n) list to
  number_room = room_front (render 7 n) (render 2 k ++ (a ++ b)) whole

  module _ {l₁ : List ℕ} {t₁ : ℕ} (p₁ : Puts (render 7 n) list l₁ to t₁) where
    numbered : Room (render 2 k ++ (a ++ b)) l₁ t₁
    numbered = room_rest p₁ (render 2 k ++ (a ++ b)) whole

    pub field_room : Room (render 2 k) l₁ t₁
    field_room = room_front (render 2 k) (a ++ b) numbered

    module _ {l₂ : List ℕ} {t₂ : ℕ} (p₂ : Puts (render 2 k) l₁ l₂ t₁ t₂) where
      texts : Room (a ++ b) l₂ t₂
      texts = room_rest p₂ (a ++ b) numbered

      pub old_room : Room a l₂ t₂
      old_room = room_front a b texts

      module _ {l₃ : List ℕ} {t₃ : ℕ} (p₃ : Puts a l₂ l₃ t₂ t₃) where
        pub new_room : Room b l₃ t₃
        new_room = room_rest p₃ b texts

        pub row_put : {l₄ : List ℕ} {t₄ : ℕ} → Puts b l₃ l₄ t₃ t₄ → Puts (joined (field_rows n k row old new)) list l₄ to t₄
        row_put {l₄} {t₄} p₄ = subst (λ x. Puts x list l₄ to t₄) (sym parts) (puts_both p₁ (puts_both p₂ (puts_both p₃ p₄)))

-- a number put in a part of the list
pub digits_put : (r ys : List ℕ) (wide n to end : ℕ) → end ≡ to + wide → to + length (render wide n) ≤ length r → ys ≡ render (length (take (end - to) (drop to r))) n
    → Puts (render wide n) r (take to r ++ (ys ++ drop (end - to) (drop to r))) to end
digits_put r ys wide n to end q room e =
    let w : end - to ≡ wide = omega arith in
    let l = length_render wide n in
    record {
      stands = number_put r ys to end n (omega arith) (omega (arith, l)) e ∙ ap (λ k. sets r to (render k n)) w;
      behind = q ∙ ap (λ k. to + k) (sym l);
    }

-- ---- the fields from one on

-- a row of the table, as a loop reads it
pub row_read : (line : Line) (rows : List Row) (k : ℕ) (d : Row) → rows ≡ rows_of line → k < length rows → get_or rows k d ≡ get_or (rows_of line) k no_row
row_read line rows k d e h = get_or_default rows k d no_row h ∙ ap (λ x. get_or x k no_row) e

module _ (table : List Row) (old new : List ℕ) where
  pub fields_next : (n i : ℕ) → i < length table
      → field_changes n (i + 1) (drop i table) old new ≡ field_rows n (i + 1) (get_or table i no_row) old new ++ field_changes n (i + 1 + 1) (drop (i + 1) table) old new
  unfolding field_changes
  fields_next n i h =
      let one : suc i ≡ i + 1 = omega arith in
      ap (λ l. field_changes n (i + 1) l old new) (drop-cons table i no_row h)
      ∙ ap (λ j. field_rows n (i + 1) (get_or table i no_row) old new ++ field_changes n (i + 1 + 1) (drop j table) old new) one

  pub fields_end : (n i : ℕ) → length table ≤ i → field_changes n (i + 1) (drop i table) old new ≡ []
  unfolding field_changes
  fields_end n i h = rw (drop_of_length-le table h) refl

  -- the fields before field i + 1 come to so much
  pub record Measured (rows bytes i : ℕ) : Type 0 where
    pub counted : rows + length (field_changes 0 (i + 1) (drop i table) old new) ≡ length (field_changes 0 1 table old new)
    pub long : bytes + length (joined (field_changes 0 (i + 1) (drop i table) old new)) ≡ length (joined (field_changes 0 1 table old new))
    pub few : rows ≤ i
    pub short : bytes ≤ 197 * i

  pub measured_first : Measured 0 0 0
  measured_first = record { counted = zero-add _; long = zero-add _; few = omega arith; short = omega arith }

  pub measured_on : (rows bytes i : ℕ) (one : Listed) → i < length table → one ≡ listed_of (field_rows 0 1 (get_or table i no_row) old new) → one.rows ≤ 1 → one.bytes ≤ 197
      → Measured rows bytes i → Measured (rows + one.rows) (bytes + one.bytes) (i + 1)
  measured_on rows bytes i one h e few short m =
      let row = field_rows 0 (i + 1) (get_or table i no_row) old new in
      let more = field_changes 0 (i + 1 + 1) (drop (i + 1) table) old new in
      let size : listed_of row ≡ one = field_any 0 (i + 1) (get_or table i no_row) old new ∙ sym e in
      let count : length row ≡ one.rows = ap (λ (x : Listed). x.rows) size in
      let long : length (joined row) ≡ one.bytes = ap (λ (x : Listed). x.bytes) size in
      let parts = fields_next 0 i h in
      record {
        counted = sum_on rows one.rows (length row) (length more) (length (field_changes 0 (i + 1) (drop i table) old new)) _ count (ap length parts ∙ length-append row more) m.counted;
        long =
            sum_on bytes one.bytes (length (joined row)) (length (joined more)) (length (joined (field_changes 0 (i + 1) (drop i table) old new))) _ long
            (ap (λ x. length (joined x)) parts ∙ ap length (joined_append row more) ∙ length-append (joined row) (joined more)) m.long;
        few = omega (arith, m.few, few);
        short = omega (arith, m.short, short);
      }
    where
      sum_on : (a b c d e t : ℕ) → c ≡ b → e ≡ c + d → a + e ≡ t → a + b + d ≡ t
      sum_on a b c d e t p q h = omega arith

  pub measured_end : (rows bytes i : ℕ) → length table ≤ i → Measured rows bytes i → record { rows = rows; bytes = bytes } ≡ listed_of (field_changes 0 1 table old new)
  unfolding joined
  measured_end rows bytes i h m =
      let none = fields_end 0 i h in
      ap₂ (λ a b. record { rows = a; bytes = b })
      (last rows (length (field_changes 0 (i + 1) (drop i table) old new)) _ (ap length none) m.counted)
      (last bytes (length (joined (field_changes 0 (i + 1) (drop i table) old new))) _ (ap (λ x. length (joined x)) none) m.long)
    where
      last : (a b t : ℕ) → b ≡ 0 → a + b ≡ t → a ≡ t
      last a b t z h = omega arith

  -- the rows from field i + 1 on are still to put
  module _ (n : ℕ) (was : List ℕ) (start : ℕ) where
    abbrev pub FieldsLeft : List ℕ → ℕ → ℕ → Type 0
    FieldsLeft here to i = Left (joined (field_changes n (i + 1) (drop i table) old new)) (joined (field_changes n 1 table old new)) was here start to

    module _ (i : ℕ) (h : i < length table) (row : Row) (e : row ≡ get_or table i no_row) where
      next_parts : joined (field_changes n (i + 1) (drop i table) old new) ≡ joined (field_rows n (i + 1) row old new) ++ joined (field_changes n (i + 1 + 1) (drop (i + 1) table) old new)
      next_parts =
          ap joined (fields_next n i h ∙ ap (λ x. field_rows n (i + 1) x old new ++ field_changes n (i + 1 + 1) (drop (i + 1) table) old new) (sym e))
          ∙ joined_append (field_rows n (i + 1) row old new) (field_changes n (i + 1 + 1) (drop (i + 1) table) old new)

      pub fields_room : {here : List ℕ} {to : ℕ} → FieldsLeft here to i → Room (joined (field_changes n 1 table old new)) was start → Room (joined (field_rows n (i + 1) row old new)) here to
      fields_room left room = left_room left (joined (field_rows n (i + 1) row old new)) (joined (field_changes n (i + 1 + 1) (drop (i + 1) table) old new)) next_parts room

      pub fields_on : {here after : List ℕ} {to next : ℕ} → FieldsLeft here to i → Puts (joined (field_rows n (i + 1) row old new)) here after to next → FieldsLeft after next (i + 1)
      fields_on {here} {after} {to} {next} left p =
          left_next left (joined (field_rows n (i + 1) row old new)) (joined (field_changes n (i + 1 + 1) (drop (i + 1) table) old new)) after next next_parts p

    pub fields_done : {here : List ℕ} {to i : ℕ} → length table ≤ i → FieldsLeft here to i → Puts (joined (field_changes n 1 table old new)) was here start to
    unfolding joined
    fields_done {here} {to} {i} h left = left_end left (ap joined (fields_end n i h))

-- no record has more than thirteen fields
pub table_short : (line : Line) → length (rows_of line) ≤ 13
table_short Line.FileHeader = omega arith
table_short Line.BatchHeader = omega arith
table_short Line.Entry = omega arith
table_short Line.Addendum = omega arith
table_short Line.BatchControl = omega arith
table_short Line.FileControl = omega arith
table_short Line.Filler = omega arith
table_short Line.Past = omega arith
table_short Line.Other = omega arith
