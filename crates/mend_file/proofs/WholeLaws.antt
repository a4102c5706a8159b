-- The changes as a whole: the sections of the 8s, of the 9 and of the fillers, as the code finds them.
-- Assumes nothing but what a statement says.
use mathlib.Core.Path.{◌≡◌, refl, sym, ap, ap₂, ◌∙◌, subst}
use mathlib.Core.Bool.{true}
use mathlib.Core.List.{List, [], ◌∷◌, ◌++◌, append-nil}
use Prim.Native.Nat.{ℕ, suc, ◌+◌, ◌-◌, ◌*◌, ◌/◌, ◌≤◌, ◌<◌}
use native.Mathlib.Omega.{arith}
use borrow.Author.Tests.{eqb-true, eq-eqb}
use lib.Dec.{eqb}
use lib.ListN.{length, get_or, take, drop, replicate, length-append, length-drop}
use lib.Seq.{take_at}
use Rattle.text.specs.Decimal.{pick, render}
use Rattle.text.specs.Rows.{joined, section}
use Rattle.text.proofs.DecimalLaws.{and_both, length_render}
use Rattle.layout.specs.declared.Way.{Way}
use Rattle.layout.specs.Fields.{batch_control, file_control}
use Rattle.layout.specs.Ways.{record_bytes}
use Rattle.check_record.specs.Record.{length_fits, raw_records}
use Rattle.view.specs.View.{fillers_after, filler_record, closed_by}
use Rattle.table_form.specs.Forms.{file_control_from}
use Rattle.table_read.specs.WorkPuts.{Puts, Room}
use Rattle.table_read.proofs.Writing.{puts_both, room_front, room_rest}
use Rattle.mend.specs.Mend.{type_of, refilled, ends_file, mended_end, mended_records, mended_file, before_nine, nine_at, field_changes, changes_from, filler_changes, changes_of}
use Rattle.mend.proofs.Again.{by_test, file_long, raw_mended}
use Rattle.mend.proofs.Numbers.{nine_here, nine_later}
use Rattle.mend_file.specs.WorkJudging.{NineAt}
use Rattle.mend_file.proofs.RecordLaws.{At, at_here, rows_above}
use Rattle.mend_file.proofs.SizeLaws.{mended_records_lem, mended_size}
use Rattle.mend_file.proofs.WalkLaws.{records_many, nine_inside, nine_few, nine_there}
use Rattle.mend_file.specs.declared.Changes.{Changes}
use Rattle.mend_file.specs.declared.Listed.{Listed}
use Rattle.mend_file.specs.declared.Walk.{Walk}
use Rattle.mend_file.specs.WorkChanging.{listed_of, batch_rows, file_rows, filler_rows, Summed, Counted}
use Rattle.mend_file.proofs.ListLaws.{cut_fields, fields_any, changes_next, changes_none}

-- the record that ends the file is a 9
nine_type : (last : ℕ) (rs : List (List ℕ)) (r : List ℕ) (more : List (List ℕ)) → drop (before_nine last rs) rs ≡ r ∷ more → type_of r ≡ 57
unfolding before_nine
nine_type last [] r more e = absurd (no_record r more e)
  where
    no_record : (r : List ℕ) (more : List (List ℕ)) → ◌≡◌ {A = List (List ℕ)} [] (r ∷ more) → ⊥
    no_record r more e = let z : ◌≡◌ {A = ℕ} 0 (suc (length more)) = ap length e in omega arith
nine_type last (x ∷ xs) r more e =
    by_test (ends_file last x)
    (λ t.
    let same : x ∷ xs ≡ r ∷ more = sym (ap (λ k. drop k (x ∷ xs)) (nine_here last x xs t)) ∙ e in
    let first : x ≡ r = ap front same in
    ap type_of (sym first) ∙ eqb-true (type_of x) 57 (and_both (eqb (type_of x) 57) (eqb last 56) t).0)
    (λ t.
    let later : before_nine last (x ∷ xs) ≡ suc (before_nine (type_of x) xs) = nine_later last x xs t ∙ omega arith in
    nine_type (type_of x) xs r more (sym (ap (λ k. drop k (x ∷ xs)) later) ∙ e))
  where
    front : List (List ℕ) → List ℕ
    front [] = []
    front (y ∷ ys) = y

more_there : (way : Way) (n k l : ℕ) → l ≡ record_bytes way * (n + 1 + k) → record_bytes way * (n + 1) ≤ l
more_there Way.Plain n k l q = omega arith
more_there Way.Lined n k l q = omega arith

module _ (way : Way) (f : List ℕ) (n : ℕ) (a : NineAt way f n) where
  abbrev olds : List (List ℕ)
  olds = raw_records way f

  abbrev news : List (List ℕ)
  news = mended_records way olds

  abbrev nine : List ℕ
  nine = get_or olds n []

  nine_first : drop (nine_at olds) olds ≡ nine ∷ drop (n + 1) olds
  nine_first = ap (λ k. drop k olds) (sym a.before) ∙ (nine_there way f n a).here

  is_nine : type_of nine ≡ 57
  is_nine = nine_type 0 olds nine (drop (n + 1) olds) nine_first

  -- the section of the 9, of which `new` is mended
  file_rows_lem : (new : List ℕ) (more : List (List ℕ)) → drop (nine_at olds) news ≡ new ∷ more → file_rows way f ≡ field_changes (n + 1) 1 file_control nine new
  file_rows_lem new more e =
      ap₂ (λ x y. changes_from 57 file_control (nine_at olds + 1) (take 1 x) y) nine_first e
      ∙ changes_next 57 file_control (nine_at olds + 1) nine new [] more
      ∙ ap₂ (λ t x. pick t (field_changes (nine_at olds + 1) 1 file_control nine new) [] ++ x) (eq-eqb (type_of nine) 57 is_nine) (changes_none 57 file_control (nine_at olds + 1 + 1) more)
      ∙ append-nil (field_changes (nine_at olds + 1) 1 file_control nine new)
      ∙ ap (λ k. field_changes (k + 1) 1 file_control nine new) (sym a.before)

  -- measured from the sums
  file_listed : (w : Walk) (control : List ℕ) (one : Listed) → Summed way f w → control ≡ file_control_from w.sums → one ≡ listed_of (field_changes 0 1 file_control nine control)
      → one ≡ listed_of (file_rows way f)
  file_listed w control one s e q =
      let c = file_control_from w.sums in
      let new = refilled c nine in
      let ends = s.ends ∙ ap (λ k. mended_end way w.sums (get_or olds k [])) (sym a.before) in
      q
      ∙ ap (λ x. listed_of (field_changes 0 1 file_control nine x)) (e ∙ sym (take_at c (drop 94 nine) 94 (file_long w.sums)))
      ∙ ap listed_of (cut_fields 0 1 file_control nine new refl)
      ∙ sym (fields_any (n + 1) 1 file_control nine new)
      ∙ ap listed_of (sym (file_rows_lem new (replicate (fillers_after (w.sums.records + 1)) (closed_by way filler_record)) ends))

  -- how many fillers there were, and how many are due
  pub filler_rows_lem : filler_changes (length (drop (n + 1) olds)) (fillers_after (n + 1)) ≡ filler_rows way f
  filler_rows_lem =
      let due : fillers_after (n + 1) ≡ length (drop (n + 1) news) = sym (length-drop (n + 1) news ∙ omega (arith, mended_records_lem way f n a)) in
      ap (filler_changes (length (drop (n + 1) olds))) due ∙ ap (λ k. filler_changes (length (drop (k + 1) olds)) (length (drop (k + 1) news))) a.before

  pub fillers_many : length f / record_bytes way - n - 1 ≡ length (drop (n + 1) olds)
  fillers_many = omega (arith, records_many way f, length-drop (n + 1) olds)

  -- ---- as they are put, from the mended file g

  module _ (g : List ℕ) (e : g ≡ mended_file way f) where
    mended_raw : raw_records way g ≡ news
    mended_raw = ap (raw_records way) e ∙ raw_mended way f

    batch_put : changes_from 56 batch_control 1 (take n olds) (raw_records way g) ≡ batch_rows way f
    batch_put = ap₂ (λ k x. changes_from 56 batch_control 1 (take k olds) x) a.before mended_raw

    pub mended_room : record_bytes way * (n + 1) ≤ length g
    mended_room = more_there way n (fillers_after (n + 1)) (length g) (ap length e ∙ mended_size way f n a)

    pub mended_there : At (raw_records way g) n (get_or (raw_records way g) n [])
    mended_there = at_here (raw_records way g) n [] (omega (arith, records_many way g, rows_above way n (length g) mended_room))

    file_put : field_changes (n + 1) 1 file_control nine (get_or (raw_records way g) n []) ≡ file_rows way f
    file_put =
        sym
        (file_rows_lem (get_or (raw_records way g) n []) (drop (n + 1) (raw_records way g))
        (ap₂ (λ k x. drop k x) (sym a.before) (sym mended_raw) ∙ mended_there.here))

-- ---- the sizes

section_long : (rs : List (List ℕ)) → length (section 7 rs) ≡ 7 + length (joined rs)
section_long rs = length-append (render 7 (length rs)) (joined rs) ∙ ap (λ k. k + length (joined rs)) (length_render 7 (length rs))

changes_long : (way : Way) (f : List ℕ) (batch file : Listed) (fillers : ℕ) → batch ≡ listed_of (batch_rows way f) → file ≡ listed_of (file_rows way f) → fillers ≡ length (joined (filler_rows way f))
    → Counted way f (record { batch = batch.rows; file = file.rows; bytes = 7 + batch.bytes + (7 + file.bytes + (7 + fillers)) })
changes_long way f batch file fillers e q d =
    let a = batch_rows way f in
    let b = file_rows way f in
    let c = filler_rows way f in
    record {
      batch = ap (λ (x : Listed). x.rows) e;
      file = ap (λ (x : Listed). x.rows) q;
      bytes =
          sym
          (length-append (section 7 a) (section 7 b ++ section 7 c)
          ∙ ap₂ (λ x y. x + y) (section_long a ∙ ap (λ k. 7 + k) (sym (ap (λ (x : Listed). x.bytes) e)))
          (length-append (section 7 b) (section 7 c) ∙ ap₂ (λ x y. x + y) (section_long b ∙ ap (λ k. 7 + k) (sym (ap (λ (x : Listed). x.bytes) q))) (section_long c ∙ ap (λ k. 7 + k) (sym d))));
    }

-- what is measured
pub all_counted : (way : Way) (f : List ℕ) (n : ℕ) (w : Walk) (control : List ℕ) (one : Listed) (fillers : ℕ) → NineAt way f n → Summed way f w → control ≡ file_control_from w.sums
    → one ≡ listed_of (field_changes 0 1 file_control (get_or (raw_records way f) n []) control) → fillers ≡ length (joined (filler_changes (length (drop (n + 1) (raw_records way f))) (fillers_after (n + 1))))
    → Counted way f (record { batch = w.listed.rows; file = one.rows; bytes = 7 + w.listed.bytes + (7 + one.bytes + (7 + fillers)) })
all_counted way f n w control one fillers a s e q d =
    changes_long way f w.listed one fillers s.listed (file_listed way f n a w control one s e q) (d ∙ ap (λ x. length (joined x)) (filler_rows_lem way f n a))

pub small_bytes : (way : Way) (f : List ℕ) (n : ℕ) (w : Walk) → length_fits way (length f) ≡ true → NineAt way f n → Summed way f w → w.listed.bytes < 2561000000
small_bytes way f n w h a s = omega (arith, s.short, a.before, nine_few way f n h a)

-- ---- the sections put one behind the other, from the mended file g

module _ (way : Way) (f : List ℕ) (n : ℕ) (a : NineAt way f n) (g : List ℕ) (e : g ≡ mended_file way f) (counts : Changes) (k : Counted way f counts) (list : List ℕ)
    (room : Room (changes_of way f) list 0) where
  abbrev batches : List (List ℕ)
  batches = batch_rows way f

  abbrev ninth : List (List ℕ)
  ninth = file_rows way f

  abbrev fillers : List (List ℕ)
  fillers = filler_rows way f

  -- the two 9s
  abbrev old : List ℕ
  old = get_or (raw_records way f) n []

  abbrev new : List ℕ
  new = get_or (raw_records way g) n []

  abbrev put_batches : List (List ℕ)
  put_batches = changes_from 56 batch_control 1 (take n (raw_records way f)) (raw_records way g)

  abbrev put_ninth : List (List ℕ)
  put_ninth = field_changes (n + 1) 1 file_control old new

  abbrev put_fillers : List (List ℕ)
  put_fillers = filler_changes (length (drop (n + 1) (raw_records way f))) (fillers_after (n + 1))

  first_room : Room (render 7 counts.batch ++ joined batches) list 0
  first_room = subst (λ x. Room (render 7 x ++ joined batches) list 0) (sym k.batch) (room_front (section 7 batches) (section 7 ninth ++ section 7 fillers) room)

  pub count_room : Room (render 7 counts.batch) list 0
  count_room = room_front (render 7 counts.batch) (joined batches) first_room

  module _ {l₁ : List ℕ} {t₁ : ℕ} (p₁ : Puts (render 7 counts.batch) list l₁ 0 t₁) where
    pub batches_room : Room (joined put_batches) l₁ t₁
    batches_room = subst (λ x. Room (joined x) l₁ t₁) (sym (batch_put way f n a g e)) (room_rest p₁ (joined batches) first_room)

    module _ {l₂ : List ℕ} {t₂ : ℕ} (p₂ : Puts (joined put_batches) l₁ l₂ t₁ t₂) where
      first_put : Puts (section 7 batches) list l₂ 0 t₂
      first_put = subst (λ x. Puts (render 7 x ++ joined batches) list l₂ 0 t₂) k.batch (puts_both p₁ (subst (λ x. Puts (joined x) l₁ l₂ t₁ t₂) (batch_put way f n a g e) p₂))

      rest_room : Room (section 7 ninth ++ section 7 fillers) l₂ t₂
      rest_room = room_rest first_put (section 7 ninth ++ section 7 fillers) room

      second_room : Room (render 7 counts.file ++ joined ninth) l₂ t₂
      second_room = subst (λ x. Room (render 7 x ++ joined ninth) l₂ t₂) (sym k.file) (room_front (section 7 ninth) (section 7 fillers) rest_room)

      pub ninth_room : Room (render 7 counts.file) l₂ t₂
      ninth_room = room_front (render 7 counts.file) (joined ninth) second_room

      module _ {l₃ : List ℕ} {t₃ : ℕ} (p₃ : Puts (render 7 counts.file) l₂ l₃ t₂ t₃) where
        pub fields_room : Room (joined put_ninth) l₃ t₃
        fields_room = subst (λ x. Room (joined x) l₃ t₃) (sym (file_put way f n a g e)) (room_rest p₃ (joined ninth) second_room)

        module _ {l₄ : List ℕ} {t₄ : ℕ} (p₄ : Puts (joined put_ninth) l₃ l₄ t₃ t₄) where
          second_put : Puts (section 7 ninth) l₂ l₄ t₂ t₄
          second_put = subst (λ x. Puts (render 7 x ++ joined ninth) l₂ l₄ t₂ t₄) k.file (puts_both p₃ (subst (λ x. Puts (joined x) l₃ l₄ t₃ t₄) (file_put way f n a g e) p₄))

          pub fillers_room : Room (section 7 put_fillers) l₄ t₄
          fillers_room = subst (λ x. Room (section 7 x) l₄ t₄) (sym (filler_rows_lem way f n a)) (room_rest second_put (section 7 fillers) rest_room)

          pub all_put : {l₅ : List ℕ} {t₅ : ℕ} → Puts (section 7 put_fillers) l₄ l₅ t₄ t₅ → Puts (changes_of way f) list l₅ 0 t₅
          all_put {l₅} {t₅} p₅ = puts_both first_put (puts_both second_put (subst (λ x. Puts (section 7 x) l₄ l₅ t₄ t₅) (filler_rows_lem way f n a) p₅))
