-- The changes record by record: what the records before the 9 come to, and what the 9 and the fillers add.
-- Assumes nothing but what a statement says.
use mathlib.Core.Path.{◌≡◌, refl, sym, ap, ap₂, ◌∙◌, subst}
use mathlib.Core.Bool.{Bool, true, false, ◌&&◌}
use mathlib.Core.List.{List, [], ◌∷◌, ◌++◌}
use Prim.Native.Nat.{ℕ, zero, suc, ◌+◌, ◌-◌, ◌*◌, ◌≤◌, ◌<◌}
use native.Mathlib.Nat.{zero-add}
use native.Mathlib.Omega.{arith}
use borrow.Author.Tests.{eq-eqb, ne_eqb}
use lib.Dec.{eqb, ltb}
use lib.ListN.{length, get_or, take, drop, length-append}
use lib.Seq.{take-take, length-take-le, take_at}
use Rattle.text.specs.Decimal.{pick}
use Rattle.text.specs.Rows.{columns, joined}
use Rattle.text.specs.Same.{same_bytes}
use Rattle.text.proofs.DecimalLaws.{and_both}
use Rattle.text.proofs.RowLaws.{joined_append}
use Rattle.text.proofs.SetLaws.{drop_take}
use Rattle.layout.specs.declared.Row.{Row}
use Rattle.layout.specs.declared.Way.{Way}
use Rattle.layout.specs.Fields.{batch_control, file_control}
use Rattle.layout.specs.WorkFits.{row_fits}
use Rattle.layout.proofs.Tables.{all_fit, row_in}
use Rattle.layout.specs.Ways.{record_bytes}
use Rattle.check_across.specs.declared.Sums.{Sums}
use Rattle.check_across.specs.WorkSmall.{Small}
use Rattle.check_sums.specs.Sums.{start}
use Rattle.check_record.specs.Record.{raw_records}
use Rattle.table_read.specs.WorkPuts.{Puts, Room}
use Rattle.table_read.proofs.Writing.{Left, left_start, left_room, left_next, left_end}
use Rattle.mend.specs.Mend.{type_of, sums_past, header_past, mended_record, mended_end, mended_from, mended_records, nine_at, change_row, field_changes, changes_from}
use Rattle.mend.proofs.Again.{record_long}
use Rattle.mend_file.specs.WorkJudging.{NineAt}
use Rattle.mend_file.proofs.StepLaws.{mended_columns}
use Rattle.mend_file.proofs.RecordLaws.{At}
use Rattle.mend_file.proofs.WalkLaws.{past_sums, past_header, nine_there, Walked, walked_first, walked_parts, walked_ends, walked_on}
use Rattle.mend_file.specs.declared.Listed.{Listed}
use Rattle.mend_file.specs.WorkChanging.{listed_of, field_rows, control_rows, batch_rows, Summed}
use Rattle.mend_file.proofs.FieldLaws.{field_any}

-- ---- a record's columns are all that its fields are read from

cut_columns : (first last : ℕ) (r : List ℕ) → 1 ≤ first → first ≤ last → last ≤ 94 → columns first last (take 94 r) ≡ columns first last r
cut_columns first last r a b l =
    let front : 94 ≡ (first - 1) + (95 - first) = omega arith in
    ap (λ n. take (last + 1 - first) (drop (first - 1) (take n r))) front
    ∙ ap (take (last + 1 - first)) (drop_take (first - 1) (95 - first) r)
    ∙ take-take (last + 1 - first) (95 - first) (drop (first - 1) r) (omega arith)

pub cut_fields : (n k : ℕ) (table : List Row) (old new : List ℕ) → all_fit table ≡ true → field_changes n k table old (take 94 new) ≡ field_changes n k table old new
unfolding field_changes
cut_fields n k [] old new h = refl
cut_fields n k (row ∷ table) old new h =
    let both = and_both (row_fits row) (all_fit table) h in
    let in_row = row_in row both.0 in
    ap₂ (λ x y. x ++ y) (ap (λ t. pick (same_bytes (columns row.first row.last old) t) [] (change_row n k (columns row.first row.last old) t ∷ [])) (cut_columns row.first row.last new in_row.0 in_row.1 in_row.2))
    (cut_fields n (k + 1) table old new both.1)

bytes_append : (a b : List (List ℕ)) → length (joined (a ++ b)) ≡ length (joined a) + length (joined b)
bytes_append a b = ap length (joined_append a b) ∙ length-append (joined a) (joined b)

-- ---- how much the rows take does not hang on the record's number

pub fields_any : (n k : ℕ) (table : List Row) (old new : List ℕ) → listed_of (field_changes n k table old new) ≡ listed_of (field_changes 0 k table old new)
unfolding field_changes
fields_any n k [] old new = refl
fields_any n k (row ∷ table) old new =
    let a = field_rows n k row old new in
    let b = field_rows 0 k row old new in
    both_listed a b (field_changes n (k + 1) table old new) (field_changes 0 (k + 1) table old new) (field_any n k row old new ∙ sym (field_any 0 k row old new)) (fields_any n (k + 1) table old new)
  where
    both_listed : (a b xs ys : List (List ℕ)) → listed_of a ≡ listed_of b → listed_of xs ≡ listed_of ys → listed_of (a ++ xs) ≡ listed_of (b ++ ys)
    both_listed a b xs ys e q =
        ap₂ (λ n m. record { rows = n; bytes = m })
        (length-append a xs ∙ ap₂ (λ x y. x + y) (ap (λ (l : Listed). l.rows) e) (ap (λ (l : Listed). l.rows) q) ∙ sym (length-append b ys))
        (bytes_append a xs ∙ ap₂ (λ x y. x + y) (ap (λ (l : Listed). l.bytes) e) (ap (λ (l : Listed). l.bytes) q) ∙ sym (bytes_append b ys))

controls_any : (n : ℕ) (old new : List ℕ) → listed_of (control_rows n old new) ≡ listed_of (control_rows 0 old new)
controls_any n old new = go (eqb (type_of old) 56)
  where
    go : (t : Bool) → listed_of (pick t (field_changes n 1 batch_control old new) []) ≡ listed_of (pick t (field_changes 0 1 batch_control old new) [])
    go true = fields_any n 1 batch_control old new
    go false = refl

-- ---- one record, as the code has it

pub control_none : (n : ℕ) (old new : List ℕ) → (get_or old 0 0 ≡ 56 → ⊥) → control_rows n old new ≡ []
control_none n old new d = ap (λ t. pick t (field_changes n 1 batch_control old new) []) (ne_eqb (get_or old 0 0) 56 d)

pub control_eight : (n : ℕ) (old new : List ℕ) → get_or old 0 0 ≡ 56 → control_rows n old new ≡ field_changes n 1 batch_control old new
control_eight n old new e = ap (λ t. pick t (field_changes n 1 batch_control old new) []) (eq-eqb (get_or old 0 0) 56 e)

-- the mended columns are those of the mended record
mended_front : (s : Sums) (h r : List ℕ) → length h ≡ 94 → 94 ≤ length r → mended_record s h (take 94 r) ≡ take 94 (mended_record s h r)
mended_front s h r l k =
    let c = mended_record s h (take 94 r) in
    let long : length c ≡ 94 = record_long Way.Plain s h (take 94 r) (eqb (type_of (take 94 r)) 56 && ltb 0 s.batches) l (length-take-le 94 r k) in
    sym (ap (take 94) (sym (mended_columns s h r)) ∙ take_at c (drop 94 r) 94 long)

-- a record 8 that is mended
pub control_listed : (s : Sums) (h r columns : List ℕ) (one : Listed) → length h ≡ 94 → 94 ≤ length r → get_or r 0 0 ≡ 56 → columns ≡ mended_record s h (take 94 r)
    → one ≡ listed_of (field_changes 0 1 batch_control r columns) → one ≡ listed_of (control_rows 0 r (mended_record s h r))
control_listed s h r columns one l k e q d =
    d
    ∙ ap (λ x. listed_of (field_changes 0 1 batch_control r x)) (q ∙ mended_front s h r l k)
    ∙ ap listed_of (cut_fields 0 1 batch_control r (mended_record s h r) refl)
    ∙ ap listed_of (sym (control_eight 0 r (mended_record s h r) e))

-- ---- the walk along the records before the 9

take_some : {A : Type 0} (n : ℕ) (x : A) (xs : List A) → 0 < n → take n (x ∷ xs) ≡ x ∷ take (n - 1) xs
take_some zero x xs h = absurd (omega arith)
take_some (suc n) x xs h = let e : suc n - 1 ≡ n = omega arith in ap (λ k. x ∷ take k xs) (sym e)

drop_some : {A : Type 0} (n : ℕ) (x : A) (xs : List A) → 0 < n → drop n (x ∷ xs) ≡ drop (n - 1) xs
drop_some zero x xs h = absurd (omega arith)
drop_some (suc n) x xs h = let e : suc n - 1 ≡ n = omega arith in ap (λ k. drop k xs) (sym e)

pub changes_next : (type : ℕ) (table : List Row) (n : ℕ) (old new : List ℕ) (olds news : List (List ℕ))
    → changes_from type table n (old ∷ olds) (new ∷ news) ≡ pick (eqb (type_of old) type) (field_changes n 1 table old new) [] ++ changes_from type table (n + 1) olds news
unfolding changes_from
changes_next type table n old new olds news = refl

pub changes_none : (type : ℕ) (table : List Row) (n : ℕ) (news : List (List ℕ)) → changes_from type table n [] news ≡ []
unfolding changes_from
changes_none type table n news = refl

none_taken : {A : Type 0} (n : ℕ) (xs : List A) → n ≤ 0 → take n xs ≡ []
none_taken n xs h = let e : n ≡ 0 = omega arith in ap (λ k. take k xs) e

none_dropped : {A : Type 0} (n : ℕ) (xs : List A) → n ≤ 0 → drop n xs ≡ xs
none_dropped n xs h = let e : n ≡ 0 = omega arith in ap (λ k. drop k xs) e

sum_on : (a b c d e t : ℕ) → c ≡ b → e ≡ c + d → a + e ≡ t → a + b + d ≡ t
sum_on a b c d e t p q h = omega arith

sum_end : (a b t : ℕ) → b ≡ 0 → a + b ≡ t → a ≡ t
sum_end a b t z h = omega arith

module _ (way : Way) (f : List ℕ) where
  abbrev olds : List (List ℕ)
  olds = raw_records way f

  -- the rows of the 8s behind k records
  abbrev rows_left : ℕ → Sums → List ℕ → ℕ → List (List ℕ)
  rows_left last s h k = changes_from 56 batch_control (k + 1) (take (nine_at olds - k) (drop k olds)) (mended_from way last s h (drop k olds))

  -- those before them come to so much
  pub record Sized (last : ℕ) (s : Sums) (h : List ℕ) (k rows bytes : ℕ) : Type 0 where
    pub walk : Walked way f last s h k
    pub counted : rows + length (rows_left last s h k) ≡ length (batch_rows way f)
    pub long : bytes + length (joined (rows_left last s h k)) ≡ length (joined (batch_rows way f))
    pub ends : drop (nine_at olds - k) (mended_from way last s h (drop k olds)) ≡ drop (nine_at olds) (mended_records way olds)
    pub few : rows ≤ 13 * k
    pub short : bytes ≤ 2561 * k

  abbrev pub Sizing : Sums → List ℕ → ℕ → ℕ → ℕ → Type 0
  Sizing s h k rows bytes = (last : ℕ) × Sized last s h k rows bytes

  pub sizing_first : (s : Sums) (h : List ℕ) → s ≡ start.sums → h ≡ start.header → Sizing s h 0 0 0
  sizing_first s h e q =
      let all : nine_at olds - 0 ≡ nine_at olds = omega arith in
      let whole : rows_left 0 start.sums start.header 0 ≡ batch_rows way f = ap (λ n. changes_from 56 batch_control 1 (take n olds) (mended_records way olds)) all in
      let first : Sized 0 start.sums start.header 0 0 0 =
      record {
        walk = walked_first way f;
        counted = zero-add _ ∙ ap length whole;
        long = zero-add _ ∙ ap (λ rs. length (joined rs)) whole;
        ends = ap (λ n. drop n (mended_records way olds)) all;
        few = omega arith;
        short = omega arith;
      } in
      subst (λ x. Sizing s x 0 0 0) (sym q) (subst (λ x. Sizing x start.header 0 0 0) (sym e) (0, first))

  module _ (s : Sums) (h : List ℕ) (k rows bytes : ℕ) (p : Sizing s h k rows bytes) (r : List ℕ) (a : At olds k r) where
    abbrev rest : List (List ℕ)
    rest = drop (k + 1) olds

    abbrev more : List (List ℕ)
    more = mended_from way (type_of r) (sums_past s r) (header_past h r) rest

    next_rows : k < nine_at olds → rows_left p.0 s h k ≡ control_rows (k + 1) r (mended_record s h r) ++ rows_left (type_of r) (sums_past s r) (header_past h r) (k + 1)
    next_rows l =
        let some : 0 < nine_at olds - k = omega arith in
        let less : nine_at olds - k - 1 ≡ nine_at olds - (k + 1) = omega arith in
        let taken = ap (take (nine_at olds - k)) a.here ∙ take_some (nine_at olds - k) r rest some ∙ ap (λ n. r ∷ take n rest) less in
        ap₂ (λ xs ys. changes_from 56 batch_control (k + 1) xs ys) taken (walked_parts way f p.0 s h k p.1.walk r a l)
        ∙ changes_next 56 batch_control (k + 1) r (mended_record s h r) (take (nine_at olds - (k + 1)) rest) more

    on : k < nine_at olds → (one : Listed) → one ≡ listed_of (control_rows 0 r (mended_record s h r)) → one.rows ≤ 13 → one.bytes ≤ 2561
        → Sized (type_of r) (sums_past s r) (header_past h r) (k + 1) (rows + one.rows) (bytes + one.bytes)
    on l one e few short =
        let here = control_rows (k + 1) r (mended_record s h r) in
        let behind = rows_left (type_of r) (sums_past s r) (header_past h r) (k + 1) in
        let size : listed_of here ≡ one = controls_any (k + 1) r (mended_record s h r) ∙ sym e in
        let parts = next_rows l in
        let some : 0 < nine_at olds - k = omega arith in
        let less : nine_at olds - k - 1 ≡ nine_at olds - (k + 1) = omega arith in
        record {
          walk = walked_on way f p.0 s h k p.1.walk r a l;
          counted =
              sum_on rows one.rows (length here) (length behind) (length (rows_left p.0 s h k)) _ (ap (λ (x : Listed). x.rows) size) (ap length parts ∙ length-append here behind) p.1.counted;
          long =
              sum_on bytes one.bytes (length (joined here)) (length (joined behind)) (length (joined (rows_left p.0 s h k))) _ (ap (λ (x : Listed). x.bytes) size)
              (ap (λ x. length (joined x)) parts ∙ bytes_append here behind) p.1.long;
          ends =
              ap (λ n. drop n more) (sym less)
              ∙ sym (ap (drop (nine_at olds - k)) (walked_parts way f p.0 s h k p.1.walk r a l) ∙ drop_some (nine_at olds - k) (mended_record s h r) more some)
              ∙ p.1.ends;
          few = omega (arith, few, p.1.few);
          short = omega (arith, short, p.1.short);
        }

    pub sizing_on : (s' : Sums) (h' : List ℕ) (one : Listed) → k < nine_at olds → s' ≡ sums_past s (take 94 r) → h' ≡ header_past h (take 94 r) → one ≡ listed_of (control_rows 0 r (mended_record s h r))
        → one.rows ≤ 13 → one.bytes ≤ 2561 → Sizing s' h' (k + 1) (rows + one.rows) (bytes + one.bytes)
    sizing_on s' h' one l e g d few short =
        let next : Sizing (sums_past s r) (header_past h r) (k + 1) (rows + one.rows) (bytes + one.bytes) = (type_of r, on l one d few short) in
        subst (λ x. Sizing s' x (k + 1) (rows + one.rows) (bytes + one.bytes)) (sym (g ∙ past_header h r))
        (subst (λ x. Sizing x (header_past h r) (k + 1) (rows + one.rows) (bytes + one.bytes)) (sym (e ∙ past_sums s r)) next)

  no_bytes : length (joined []) ≡ 0
  unfolding joined
  no_bytes = refl

  -- n records are passed, and the next is the 9
  pub sizing_end : (s : Sums) (h : List ℕ) (n k : ℕ) (listed : Listed) → NineAt way f n → Small s → k ≡ n → Sizing s h k listed.rows listed.bytes → Summed way f (record { listed = listed; sums = s })
  sizing_end s h n k listed a small z p =
      let at_nine = z ∙ a.before in
      let nothing : nine_at olds - k ≤ 0 = omega (arith, at_nine) in
      let nine : At olds k (get_or olds (nine_at olds) []) =
      subst (λ i. At olds i (get_or olds (nine_at olds) [])) (sym at_nine) (subst (λ i. At olds i (get_or olds i [])) a.before (nine_there way f n a)) in
      let none : rows_left p.0 s h k ≡ [] =
      ap (λ x. changes_from 56 batch_control (k + 1) x (mended_from way p.0 s h (drop k olds))) (none_taken (nine_at olds - k) (drop k olds) nothing)
      ∙ changes_none 56 batch_control (k + 1) (mended_from way p.0 s h (drop k olds)) in
      record {
        listed =
            ap₂ (λ x y. record { rows = x; bytes = y }) (sum_end listed.rows (length (rows_left p.0 s h k)) _ (ap length none) p.1.counted)
            (sum_end listed.bytes (length (joined (rows_left p.0 s h k))) _ (ap (λ x. length (joined x)) none ∙ no_bytes) p.1.long);
        ends =
            sym p.1.ends
            ∙ none_dropped (nine_at olds - k) (mended_from way p.0 s h (drop k olds)) nothing
            ∙ walked_ends way f p.0 s h k p.1.walk (get_or olds (nine_at olds) []) nine (omega (arith, at_nine));
        small = small;
        count = p.1.walk.count ∙ at_nine;
        few = omega (arith, at_nine, p.1.few);
        short = omega (arith, at_nine, p.1.short);
      }

-- ---- the 8s among the first n records of two files, put

module _ (fs gs : List (List ℕ)) (n : ℕ) (was : List ℕ) (start : ℕ) where
  abbrev all_rows : List (List ℕ)
  all_rows = changes_from 56 batch_control 1 (take n fs) gs

  abbrev rows_from : ℕ → List (List ℕ)
  rows_from i = changes_from 56 batch_control (i + 1) (take (n - i) (drop i fs)) (drop i gs)

  -- the rows of the 8s behind i records are still to put
  abbrev pub ControlsLeft : List ℕ → ℕ → ℕ → Type 0
  ControlsLeft here to i = Left (joined (rows_from i)) (joined all_rows) was here start to

  pub controls_first : ControlsLeft was start 0
  controls_first =
      let all : n - 0 ≡ n = omega arith in
      subst (λ m. Left (joined (changes_from 56 batch_control 1 (take m fs) gs)) (joined all_rows) was was start start) (sym all) (left_start (joined all_rows) was start)

  module _ {here : List ℕ} {to i : ℕ} (left : ControlsLeft here to i) (k : i < n) (old new : List ℕ) (a : At fs i old) (b : At gs i new) where
    abbrev here_rows : List ℕ
    here_rows = joined (control_rows (i + 1) old new)

    abbrev rest_rows : List ℕ
    rest_rows = joined (rows_from (i + 1))

    parts : joined (rows_from i) ≡ here_rows ++ rest_rows
    parts =
        let some : 0 < n - i = omega arith in
        let less : n - i - 1 ≡ n - (i + 1) = omega arith in
        let taken = ap (take (n - i)) a.here ∙ take_some (n - i) old (drop (i + 1) fs) some ∙ ap (λ m. old ∷ take m (drop (i + 1) fs)) less in
        ap joined
        (ap₂ (λ x y. changes_from 56 batch_control (i + 1) x y) taken b.here
        ∙ changes_next 56 batch_control (i + 1) old new (take (n - (i + 1)) (drop (i + 1) fs)) (drop (i + 1) gs))
        ∙ joined_append (control_rows (i + 1) old new) (rows_from (i + 1))

    pub control_room : Room (joined all_rows) was start → Room here_rows here to
    control_room room = left_room left here_rows rest_rows parts room

    pub controls_on : {after : List ℕ} {next : ℕ} → Puts here_rows here after to next → ControlsLeft after next (i + 1)
    controls_on {after} {next} q = left_next left here_rows rest_rows after next parts q

  pub controls_done : {here : List ℕ} {to i : ℕ} → n ≤ i → ControlsLeft here to i → Puts (joined all_rows) was here start to
  unfolding joined
  controls_done {here} {to} {i} k left =
      let none : n - i ≤ 0 = omega arith in
      left_end left
      (ap joined (ap (λ x. changes_from 56 batch_control (i + 1) x (drop i gs)) (none_taken (n - i) (drop i fs) none) ∙ changes_none 56 batch_control (i + 1) (drop i gs)))
