-- Behind the 9: a granted mending has a 9, only nines stood behind it, and in the mended file stand as many fillers as fill the block.
-- Assumes that mending is granted, or that only nines stood behind the 9.
use Rattle.std.specs.Prelude.{Ok}
use mathlib.Core.Path.{◌≡◌, refl, sym, ap, ap₂, ◌∙◌, subst}
use mathlib.Core.List.{List, [], ◌∷◌, ◌++◌, map, append_assoc, append-nil, map-append}
use mathlib.Core.Bool.{true}
use Prim.Native.Nat.{ℕ, suc, ◌+◌, ◌≤◌, ◌<◌}
use native.Mathlib.Nat.{zero-add}
use native.Mathlib.Omega.{arith}
use lib.ListN.{length, take, drop, replicate}
use Rattle.text.specs.Same.{same_bytes}
use Rattle.text.proofs.DecimalLaws.{same_equal}
use Rattle.layout.specs.declared.Way.{Way}
use Rattle.check_across.specs.declared.Sums.{Sums}
use Rattle.check_sums.specs.Sums.{start}
use Rattle.check_sums.proofs.SumLaws.{records_next}
use Rattle.check_record.specs.Record.{raw_records, checked_of}
use Rattle.view.specs.View.{Batch, View, batch_record, batch_records, batch_control_record, file_record, file_control_record, fillers_after, filler_record, body_of, records_of, closed_by, view_of}
use Rattle.view.specs.Sized.{All, SizedBatch, Sized}
use Rattle.view_laws.proofs.Answers.{demand_granted}
use Rattle.view_laws.proofs.Bridge.{accepted_view}
use Rattle.view_laws.proofs.Lists.{by_lt}
use Rattle.view_laws.proofs.BridgeSums.{entries_records, batches_records}
use Rattle.view_laws.proofs.Formed.{batch_control_fields, file_control_fields}
use Rattle.mend.specs.Mend.{type_of, line_by, sums_past, header_past, ends_file, mended_from, mended_file, before_nine, nine_at, only_nines, mend_answer}
use Rattle.mend.specs.Listed.{BehindNine}
use Rattle.mend.proofs.Stays.{closed_type, raw_accepted}
use Rattle.mend.proofs.Again.{by_test, raw_mended, at_nine, at_other}
use Rattle.mend.proofs.Numbers.{nine_here, nine_later, nine_stays}
use Rattle.mend.proofs.Places.{no_nine}
use Rattle.mend.proofs.Granted.{exactly_granted}

-- ---- the lent file

only_fillers : (k : ℕ) (rs : List (List ℕ)) → only_nines k rs ≡ Ok tt → map (take 94) rs ≡ replicate (length rs) filler_record
unfolding only_nines
only_fillers k [] g = refl
only_fillers k (r ∷ rs) g =
    let both = demand_granted (same_bytes (take 94 r) filler_record) _ (only_nines (k + 1) rs) g in
    ap₂ (λ x xs. x ∷ xs) ((same_equal (take 94 r) filler_record).0 both.0) (only_fillers (k + 1) rs both.1)

-- ---- the mended file

module _ (way : Way) where
  -- behind the 9 of the records from here on, of which s.records stood before
  filled_from : (last : ℕ) (s : Sums) (h : List ℕ) (rs : List (List ℕ)) → before_nine last rs < length rs
      → drop (before_nine last rs + 1) (mended_from way last s h rs) ≡ replicate (fillers_after (s.records + before_nine last rs + 1)) (closed_by way filler_record)
  unfolding before_nine
  filled_from last s h [] k = absurd (omega arith)
  filled_from last s h (r ∷ rs) k =
      by_test (ends_file last r)
      (λ e.
      let here = nine_here last r rs e in
      let count : s.records + 1 ≡ s.records + before_nine last (r ∷ rs) + 1 = omega (arith, here) in
      ap₂ (λ j x. drop (j + 1) x) here (at_nine way last s h r rs e) ∙ ap (λ n. replicate (fillers_after n) (closed_by way filler_record)) count)
      (λ e.
      let j = before_nine (type_of r) rs in
      let later = nine_later last r rs e in
      let next : before_nine last (r ∷ rs) + 1 ≡ suc (j + 1) = omega (arith, later) in
      let one = records_next s (line_by (type_of r)) (take 94 r) in
      let count : (sums_past s r).records + j + 1 ≡ s.records + before_nine last (r ∷ rs) + 1 = omega (arith, later, one) in
      ap₂ drop next (at_other way last s h r rs e)
      ∙ filled_from (type_of r) (sums_past s r) (header_past h r) rs (omega (arith, k, later))
      ∙ ap (λ n. replicate (fillers_after n) (closed_by way filler_record)) count)

-- ---- there is a 9

-- a 9 behind an 8 is not passed
nine_within : (last : ℕ) (xs : List (List ℕ)) (c r : List ℕ) (ys : List (List ℕ)) → type_of c ≡ 56 → type_of r ≡ 57
    → before_nine last (xs ++ (c ∷ r ∷ ys)) < length (xs ++ (c ∷ r ∷ ys))
nine_within last [] c r ys e d =
    by_test (ends_file last c)
    (λ t. omega (arith, nine_here last c (r ∷ ys) t))
    (λ t.
    let ends : ends_file (type_of c) r ≡ true = rw (e, d) in
    omega (arith, nine_later last c (r ∷ ys) t, nine_here (type_of c) r ys ends))
nine_within last (x ∷ xs) c r ys e d =
    by_test (ends_file last x)
    (λ t. omega (arith, nine_here last x (xs ++ (c ∷ r ∷ ys)) t))
    (λ t. omega (arith, nine_later last x (xs ++ (c ∷ r ∷ ys)) t, nine_within (type_of x) xs c r ys e d))

-- batches end in a record 8
record EndsInEight (rs : List (List ℕ)) : Type 0 where
  front : List (List ℕ)
  control : List ℕ
  eight : type_of control ≡ 56
  long : length control ≡ 94
  form : rs ≡ front ++ (control ∷ [])

batches_end : (b : Batch) (bs : List Batch) → All SizedBatch (b ∷ bs) → EndsInEight (batches_records (b ∷ bs))
batches_end b [] l =
    let f = batch_control_fields b l.0.long in
    record { front = batch_record b ∷ entries_records b.entries; control = batch_control_record b; eight = f.type; long = f.long; form = append-nil (batch_records b) }
batches_end b (c ∷ bs) l =
    let more = batches_end c bs l.1 in
    record {
      front = batch_records b ++ more.front;
      control = more.control;
      eight = more.eight;
      long = more.long;
      form = ap (λ rs. batch_records b ++ rs) more.form ∙ sym (append_assoc (batch_records b) more.front (more.control ∷ []));
    }

module _ (way : Way) where
  -- the records of a view with a batch: an 8, then the 9
  view_nine : (v : View) → Sized v → 1 ≤ length v.batches → nine_at (map (closed_by way) (records_of v)) < length (map (closed_by way) (records_of v))
  view_nine v l n = go v.batches refl n
    where
      go : (bs : List Batch) → v.batches ≡ bs → 1 ≤ length bs → nine_at (map (closed_by way) (records_of v)) < length (map (closed_by way) (records_of v))
      go [] e k = absurd (omega arith)
      go (b ∷ bs) e k =
          let ends = batches_end b bs (subst (All SizedBatch) e l.each) in
          let c = ends.control in
          let nine = file_control_record v in
          let fillers = replicate (fillers_after (length (body_of v) + 1)) filler_record in
          let front = file_record v ∷ ends.front in
          let form : records_of v ≡ front ++ (c ∷ nine ∷ fillers) =
          ap (λ x. file_record v ∷ (batches_records x ++ (nine ∷ fillers))) e
          ∙ ap (λ x. file_record v ∷ (x ++ (nine ∷ fillers))) ends.form
          ∙ ap (λ x. file_record v ∷ x) (append_assoc ends.front (c ∷ []) (nine ∷ fillers)) in
          let f = file_control_fields v in
          subst (λ rs. nine_at rs < length rs) (sym (ap (map (closed_by way)) form ∙ map-append (closed_by way) front (c ∷ nine ∷ fillers)))
          (nine_within 0 (map (closed_by way) front) (closed_by way c) (closed_by way nine) (map (closed_by way) fillers) (closed_type way c ends.long ∙ ends.eight)
          (closed_type way nine f.long ∙ f.type))

  accepted_nine : (f : List ℕ) → (checked_of way f).answer ≡ Ok tt → nine_at (raw_records way f) < length (raw_records way f)
  accepted_nine f e =
      let p = accepted_view way f e in
      subst (λ rs. nine_at rs < length rs) (sym (raw_accepted way f e)) (view_nine (view_of way f) p.sized p.keeps.nonempty)

  -- the lent file has the 9 too, since mending makes none
  module _ (f : List ℕ) where
    nine_both : nine_at (raw_records way (mended_file way f)) < length (raw_records way (mended_file way f)) → nine_at (raw_records way f) < length (raw_records way f)
    nine_both k =
        by_lt (nine_at (raw_records way f)) (length (raw_records way f)) (λ l t. l) (λ l t. absurd (omega (arith, k, nine_stays way f, no_nine way f l)))

    pub granted_behind : (n m : ℕ) → mend_answer way f n m ≡ Ok tt → BehindNine way f
    granted_behind n m e =
        let g = (exactly_granted way f n m).0 e in
        let olds = raw_records way f in
        let there = nine_both (accepted_nine (mended_file way f) g.accepted) in
        record {
          there = there;
          lent = only_fillers (nine_at olds + 2) (drop (nine_at olds + 1) olds) g.nines;
          mended =
              ap (drop (nine_at olds + 1)) (raw_mended way f)
              ∙ filled_from way 0 start.sums start.header olds there
              ∙ ap (λ k. replicate (fillers_after (k + 1)) (closed_by way filler_record)) (zero-add (nine_at olds));
        }
