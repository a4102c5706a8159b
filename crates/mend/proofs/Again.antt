-- The mended records of any records: they are as long as those of a file, mended again they are the same, and only nines stand behind their 9.
-- Assumes nothing but what a statement says.
use Rattle.std.specs.Prelude.{Ok}
use mathlib.Core.Path.{◌≡◌, refl, sym, ap, ap₂, ◌∙◌}
use mathlib.Core.Bool.{Bool, true, false, ◌&&◌}
use mathlib.Core.List.{List, [], ◌∷◌, ◌++◌}
use Prim.Native.Nat.{ℕ, zero, suc, ◌+◌, ◌/◌}
use native.Mathlib.Nat.{mul-div_right}
use native.Mathlib.Omega.{arith}
use borrow.Author.Tests.{eqb-true}
use lib.Dec.{eqb, ltb, lit≤}
use lib.ListN.{length, take, drop, replicate, length-append, length-take, length-drop}
use lib.Seq.{take_at, drop_at}
use Rattle.text.specs.Decimal.{pick, render}
use Rattle.text.specs.Rows.{rows, joined}
use Rattle.text.specs.Same.{same_bytes}
use Rattle.text.specs.Widths.{AllLong, Wide}
use Rattle.text.proofs.DecimalLaws.{and_both, length_render, same_equal}
use Rattle.text.proofs.RowLaws.{length_wide, length_columns, length_joined, rows_joined, rows_long}
use Rattle.layout.specs.Answers.{Answer}
use Rattle.layout.specs.declared.Fault.{Fault}
use Rattle.layout.specs.declared.Line.{Line}
use Rattle.layout.specs.declared.Way.{Way}
use Rattle.layout.specs.Fields.{part, batch_header, batch_control, file_control}
use Rattle.layout.specs.Paper.{refusal}
use Rattle.layout.specs.Ways.{end_of, record_bytes}
use Rattle.check_across.specs.declared.Sums.{Sums}
use Rattle.check_field.specs.Field.{blocks, hash_of}
use Rattle.check_sums.specs.Sums.{start, next_sums, next_header}
use Rattle.check_record.specs.Record.{raw_records}
use Rattle.check_record.proofs.Ways.{some_bytes, rows_inside}
use Rattle.view.specs.View.{blanks, fillers_after, filler_record, closed_by}
use Rattle.view.specs.Outcome.{demand}
use Rattle.view_laws.proofs.Formed.{batch_control_widths, file_control_widths}
use Rattle.table_form.specs.Forms.{batch_control_from, file_control_from}
use Rattle.mend.specs.Mend.{type_of, line_by, sums_past, header_past, refilled, mended_record, ends_file, mended_end, mended_from, mended_records, mended_file, before_nine, nine_at, only_nines, behind_nine}

-- by a test, with its value
pub by_test : {P : Type 0} (t : Bool) → (t ≡ true → P) → (t ≡ false → P) → P
by_test true f g = f refl
by_test false f g = g refl

-- ---- 94 columns

pub batch_long : (s : Sums) (h : List ℕ) → length h ≡ 94 → length (batch_control_from s h) ≡ 94
batch_long s h l =
    let fs : List (List ℕ) =
    (56 ∷ []) ∷ part batch_header 2 h ∷ render 6 s.batchrecords ∷ render 10 (hash_of s.batchhash) ∷ render 12 s.batchdebit ∷ render 12 s.batchcredit
    ∷ part batch_header 5 h ∷ blanks batch_control 8 ∷ blanks batch_control 9 ∷ part batch_header 12 h ∷ part batch_header 13 h ∷ [] in
    let wide : Wide batch_control_widths fs = simp (length_render, length-take, length-drop, l) (omega arith) in
    length_wide batch_control_widths fs wide

pub file_long : (s : Sums) → length (file_control_from s) ≡ 94
file_long s =
    let fs : List (List ℕ) =
    (57 ∷ []) ∷ render 6 s.batches ∷ render 6 (blocks (s.records + 1)) ∷ render 8 (s.entries + s.addenda) ∷ render 10 (hash_of s.hash)
    ∷ render 12 s.debit ∷ render 12 s.credit ∷ blanks file_control 8 ∷ [] in
    let wide : Wide file_control_widths fs = simp length_render (omega arith) in
    length_wide file_control_widths fs wide

-- their first bytes
pub batch_type : (s : Sums) (h r : List ℕ) → type_of (refilled (batch_control_from s h) r) ≡ 56
unfolding joined
batch_type s h r = refl

pub file_type : (s : Sums) (r : List ℕ) → type_of (refilled (file_control_from s) r) ≡ 57
unfolding joined
file_type s r = refl

pub header_long : (line : Line) (h text : List ℕ) → length h ≡ 94 → length text ≡ 94 → length (next_header h line text) ≡ 94
header_long Line.FileHeader h text l m = l
header_long Line.BatchHeader h text l m = length_columns 1 94 text (lit≤ tt) (omega arith)
header_long Line.Entry h text l m = l
header_long Line.Addendum h text l m = l
header_long Line.BatchControl h text l m = l
header_long Line.FileControl h text l m = l
header_long Line.Filler h text l m = l
header_long Line.Past h text l m = l
header_long Line.Other h text l m = l

module _ (way : Way) where
  pub columns_long : (r : List ℕ) → length r ≡ record_bytes way → length (take 94 r) ≡ 94
  columns_long r l = simp length-take (omega (arith, l))

  pub refilled_long : (text r : List ℕ) → length text ≡ 94 → length r ≡ record_bytes way → length (refilled text r) ≡ record_bytes way
  refilled_long text r m l = simp (length-append, length-drop) (omega (arith, m, l))

  pub fillers_long : (n : ℕ) → AllLong (record_bytes way) (replicate n (closed_by way filler_record))
  fillers_long zero = tt
  fillers_long (suc n) = (length-append filler_record (end_of way), fillers_long n)

  pub record_long : (s : Sums) (h r : List ℕ) (t : Bool) → length h ≡ 94 → length r ≡ record_bytes way → length (pick t (refilled (batch_control_from s h) r) r) ≡ record_bytes way
  record_long s h r true l m = refilled_long (batch_control_from s h) r (batch_long s h l) m
  record_long s h r false l m = m

  -- each mended record is as long as a record of the file
  pub mended_long : (last : ℕ) (s : Sums) (h : List ℕ) (rs : List (List ℕ)) → length h ≡ 94 → AllLong (record_bytes way) rs → AllLong (record_bytes way) (mended_from way last s h rs)
  unfolding mended_from
  mended_long last s h [] l a = tt
  mended_long last s h (r ∷ rs) l a =
      let more = mended_long (type_of r) (sums_past s r) (header_past h r) rs (header_long (line_by (type_of r)) h (take 94 r) l (columns_long r a.0)) a.1 in
      let one = record_long s h r (eqb (type_of r) 56 && ltb 0 s.batches) l a.0 in
      let end : AllLong (record_bytes way) (mended_end way s r) = (refilled_long (file_control_from s) r (file_long s) a.0, fillers_long (fillers_after (s.records + 1))) in
      by_test (ends_file last r) (λ e. rw e end) (λ e. rw e (one, more))

  pub raw_long : (f : List ℕ) → AllLong (record_bytes way) (raw_records way f)
  raw_long f = rows_long (record_bytes way) (length f / record_bytes way) f (rows_inside way (length f))

  -- so they are the records of the mended file
  pub raw_mended : (f : List ℕ) → raw_records way (mended_file way f) ≡ mended_records way (raw_records way f)
  raw_mended f =
      let w = record_bytes way in
      let rs = mended_records way (raw_records way f) in
      let long = mended_long 0 start.sums start.header (raw_records way f) refl (raw_long f) in
      let n : length (joined rs) / w ≡ length rs = ap (λ x. x / w) (length_joined w rs long) ∙ mul-div_right (length rs) (some_bytes way) in
      ap (λ k. rows w k (joined rs)) n ∙ rows_joined w rs long

  -- ---- mended again

  twice : (text r : List ℕ) → length text ≡ 94 → refilled text (refilled text r) ≡ refilled text r
  twice text r l = ap (λ x. text ++ x) (drop_at text (drop 94 r) 94 l)

  -- a mended record has the type that the record had
  type_same : (s : Sums) (h r : List ℕ) (t : Bool) → (eqb (type_of r) 56 && ltb 0 s.batches) ≡ t → type_of (pick t (refilled (batch_control_from s h) r) r) ≡ type_of r
  type_same s h r false e = refl
  type_same s h r true e = batch_type s h r ∙ sym (eqb-true (type_of r) 56 (and_both (eqb (type_of r) 56) (ltb 0 s.batches) e).0)

  pub mended_type : (s : Sums) (h r : List ℕ) → type_of (mended_record s h r) ≡ type_of r
  mended_type s h r = type_same s h r (eqb (type_of r) 56 && ltb 0 s.batches) refl

  -- and is passed as that one was
  pub record Passed (s : Sums) (h r m : List ℕ) : Type 0 where
    pub again : mended_record s h m ≡ m
    pub sums : sums_past s m ≡ sums_past s r
    pub header : header_past h m ≡ header_past h r

  pub passed : (s : Sums) (h r : List ℕ) (t : Bool) → (eqb (type_of r) 56 && ltb 0 s.batches) ≡ t → length h ≡ 94 → Passed s h r (pick t (refilled (batch_control_from s h) r) r)
  passed s h r false e l = record { again = rw e; sums = refl; header = refl }
  passed s h r true e l =
      let both = and_both (eqb (type_of r) 56) (ltb 0 s.batches) e in
      let eight = eqb-true (type_of r) 56 both.0 in
      let c = batch_control_from s h in
      let m = refilled c r in
      record {
        again = ap (λ b. pick (eqb b 56 && ltb 0 s.batches) (refilled c m) m) (batch_type s h r) ∙ ap (λ b. pick b (refilled c m) m) both.1 ∙ twice c r (batch_long s h l);
        sums = ap (λ b. next_sums s (line_by b) (take 94 m)) (batch_type s h r) ∙ sym (ap (λ b. next_sums s (line_by b) (take 94 r)) eight);
        header = ap (λ b. next_header h (line_by b) (take 94 m)) (batch_type s h r) ∙ sym (ap (λ b. next_header h (line_by b) (take 94 r)) eight);
      }

  -- one step of the walk: at the 9, and at any other record
  pub at_nine : (last : ℕ) (s : Sums) (h r : List ℕ) (rs : List (List ℕ)) → ends_file last r ≡ true → mended_from way last s h (r ∷ rs) ≡ mended_end way s r
  unfolding mended_from
  at_nine last s h r rs e = rw e

  pub at_other : (last : ℕ) (s : Sums) (h r : List ℕ) (rs : List (List ℕ)) → ends_file last r ≡ false
      → mended_from way last s h (r ∷ rs) ≡ mended_record s h r ∷ mended_from way (type_of r) (sums_past s r) (header_past h r) rs
  unfolding mended_from
  at_other last s h r rs e = rw e

  -- the mended 9 is a 9 behind the same record, and any other has its type
  pub nine_again : (last : ℕ) (s : Sums) (r : List ℕ) → ends_file last r ≡ true → ends_file last (refilled (file_control_from s) r) ≡ true
  nine_again last s r e = ap (λ b. eqb b 57 && eqb last 56) (file_type s r) ∙ (and_both (eqb (type_of r) 57) (eqb last 56) e).1

  pub other_again : (last : ℕ) (r m : List ℕ) → type_of m ≡ type_of r → ends_file last r ≡ false → ends_file last m ≡ false
  other_again last r m t e = ap (λ b. eqb b 57 && eqb last 56) t ∙ e

  again : (last : ℕ) (s : Sums) (h : List ℕ) (rs : List (List ℕ)) → length h ≡ 94 → AllLong (record_bytes way) rs
      → mended_from way last s h (mended_from way last s h rs) ≡ mended_from way last s h rs
  unfolding mended_from
  again last s h [] l a = refl
  again last s h (r ∷ rs) l a =
      by_test (ends_file last r)
      (λ e.
      let fillers = replicate (fillers_after (s.records + 1)) (closed_by way filler_record) in
      ap (mended_from way last s h) (at_nine last s h r rs e)
      ∙ at_nine last s h (refilled (file_control_from s) r) fillers (nine_again last s r e)
      ∙ ap (λ x. x ∷ fillers) (twice (file_control_from s) r (file_long s))
      ∙ sym (at_nine last s h r rs e))
      (λ e.
      let m = mended_record s h r in
      let p = passed s h r (eqb (type_of r) 56 && ltb 0 s.batches) refl l in
      let more = mended_from way (type_of r) (sums_past s r) (header_past h r) rs in
      ap (mended_from way last s h) (at_other last s h r rs e)
      ∙ at_other last s h m more (other_again last r m (mended_type s h r) e)
      ∙ ap₂ (λ x b. x ∷ mended_from way b (sums_past s m) (header_past h m) more) p.again (mended_type s h r)
      ∙ ap₂ (λ u g. m ∷ mended_from way (type_of r) u g more) p.sums p.header
      ∙ ap (λ x. m ∷ x) (again (type_of r) (sums_past s r) (header_past h r) rs (header_long (line_by (type_of r)) h (take 94 r) l (columns_long r a.0)) a.1)
      ∙ sym (at_other last s h r rs e))

  -- mending what is mended changes nothing, for any bytes at all
  pub mended_again : (f : List ℕ) → mended_file way (mended_file way f) ≡ mended_file way f
  mended_again f =
      ap (λ rs. joined (mended_records way rs)) (raw_mended f) ∙ ap joined (again 0 start.sums start.header (raw_records way f) refl (raw_long f))

  -- ---- behind the 9

  -- what is said of the records behind the 9, counted from k
  abbrev pub Behind : ℕ → List (List ℕ) → ℕ → Answer
  Behind last rs k = only_nines k (drop (before_nine last rs + 1) rs)

  pub behind_nine_lem : (last : ℕ) (r : List ℕ) (rs : List (List ℕ)) (k : ℕ) → ends_file last r ≡ true → Behind last (r ∷ rs) k ≡ only_nines k rs
  unfolding before_nine
  behind_nine_lem last r rs k e = ap (λ b. only_nines k (drop (pick b 0 (1 + before_nine (type_of r) rs) + 1) (r ∷ rs))) e

  pub behind_other : (last : ℕ) (r : List ℕ) (rs : List (List ℕ)) (k : ℕ) → ends_file last r ≡ false → Behind last (r ∷ rs) k ≡ Behind (type_of r) rs k
  unfolding before_nine
  behind_other last r rs k e =
      let n = before_nine (type_of r) rs in
      let more : 1 + n + 1 ≡ suc (n + 1) = omega arith in
      ap (λ b. only_nines k (drop (pick b 0 (1 + n) + 1) (r ∷ rs))) e ∙ ap (λ j. only_nines k (drop j (r ∷ rs))) more

  fillers_nines : (n k : ℕ) → only_nines k (replicate n (closed_by way filler_record)) ≡ Ok tt
  unfolding only_nines
  fillers_nines zero k = refl
  fillers_nines (suc n) k =
      let nines : same_bytes (take 94 (closed_by way filler_record)) filler_record ≡ true =
      ap (λ x. same_bytes x filler_record) (take_at filler_record (end_of way) 94 refl) ∙ (same_equal filler_record filler_record).1 refl in
      ap (λ b. demand b (refusal Fault.Past k 0) (only_nines (k + 1) (replicate n (closed_by way filler_record)))) nines ∙ fillers_nines n (k + 1)

  behind_mended : (last : ℕ) (s : Sums) (h : List ℕ) (rs : List (List ℕ)) (k : ℕ) → Behind last (mended_from way last s h rs) k ≡ Ok tt
  unfolding mended_from before_nine only_nines
  behind_mended last s h [] k = refl
  behind_mended last s h (r ∷ rs) k =
      by_test (ends_file last r)
      (λ e.
      let n = fillers_after (s.records + 1) in
      ap (λ x. Behind last x k) (at_nine last s h r rs e)
      ∙ behind_nine_lem last (refilled (file_control_from s) r) (replicate n (closed_by way filler_record)) k (nine_again last s r e)
      ∙ fillers_nines n k)
      (λ e.
      let m = mended_record s h r in
      let more = mended_from way (type_of r) (sums_past s r) (header_past h r) rs in
      ap (λ x. Behind last x k) (at_other last s h r rs e)
      ∙ behind_other last m more k (other_again last r m (mended_type s h r) e)
      ∙ ap (λ b. Behind b more k) (mended_type s h r)
      ∙ behind_mended (type_of r) (sums_past s r) (header_past h r) rs k)

  -- only nines stand behind the 9 of a mended file
  pub mended_behind : (f : List ℕ) → behind_nine (mended_records way (raw_records way f)) ≡ Ok tt
  mended_behind f =
      behind_mended 0 start.sums start.header (raw_records way f) (nine_at (mended_records way (raw_records way f)) + 2)
