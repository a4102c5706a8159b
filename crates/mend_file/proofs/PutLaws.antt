-- The mended file put record by record: what is left to put makes it whole.
-- Assumes nothing but what a statement says.
use mathlib.Core.Path.{◌≡◌, refl, sym, ap, ap₂, ◌∙◌, subst}
use mathlib.Core.Bool.{true, ◌&&◌}
use mathlib.Core.List.{List, [], ◌∷◌, ◌++◌}
use Prim.Native.Nat.{ℕ, suc, ◌+◌, ◌-◌, ◌*◌, ◌≤◌, ◌<◌}
use native.Mathlib.Nat.{zero-add, mul-zero}
use native.Mathlib.Omega.{arith}
use lib.Dec.{eqb, ltb}
use lib.ListN.{length, get_or, take, drop, replicate, length-append, length-drop, length-replicate}
use lib.Seq.{sets, sets-eq, take_all, length-sets}
use Rattle.text.specs.Rows.{joined}
use Rattle.text.proofs.RowLaws.{length_joined}
use Rattle.text.proofs.SetLaws.{sets_append}
use Rattle.layout.specs.declared.Way.{Way}
use Rattle.layout.specs.Ways.{end_of, record_bytes}
use Rattle.check_across.specs.declared.Sums.{Sums}
use Rattle.check_across.specs.WorkSmall.{Small}
use Rattle.check_sums.specs.Sums.{start}
use Rattle.check_record.specs.Record.{raw_records}
use Rattle.view.specs.View.{fillers_after, filler_record, closed_by}
use Rattle.table_form.specs.Forms.{file_control_from}
use Rattle.table_read.specs.WorkPuts.{Puts, Room}
use Rattle.table_read.proofs.Writing.{puts_both, puts_none, Left, left_start, left_long, left_room, left_next, left_end}
use Rattle.mend.specs.Mend.{type_of, sums_past, header_past, refilled, mended_record, mended_from, mended_file, nine_at}
use Rattle.mend.proofs.Again.{file_long, record_long, refilled_long, fillers_long}
use Rattle.mend_file.specs.WorkJudging.{NineAt}
use Rattle.mend_file.specs.WorkRenewing.{end_from, Bodied}
use Rattle.mend_file.proofs.RecordLaws.{At, at_long}
use Rattle.mend_file.proofs.WalkLaws.{past_sums, past_header, nine_there, Walked, walked_first, walked_parts, walked_ends, walked_on}

joined_cons : (x : List ℕ) (xs : List (List ℕ)) → joined (x ∷ xs) ≡ x ++ joined xs
unfolding joined
joined_cons x xs = refl

joined_none : joined [] ≡ []
unfolding joined
joined_none = refl

-- ---- one record, as the code puts it

-- its columns, and then what stands behind them
pub refilled_put : (m c r : List ℕ) (at : ℕ) → length c ≡ 94 → 94 ≤ length r → sets (sets m at c) (at + 94) (take (length r - 94) (drop 94 r)) ≡ sets m at (refilled c r)
refilled_put m c r at l h =
    let back : take (length r - 94) (drop 94 r) ≡ drop 94 r = take_all (length r - 94) (drop 94 r) (simp length-drop (omega arith)) in
    ap (sets (sets m at c) (at + 94)) back ∙ sym (sets_append m at c (drop 94 r) ∙ ap (λ n. sets (sets m at c) (at + n) (drop 94 r)) l)

-- ---- fillers

abbrev pub fillers_of : Way → ℕ → List ℕ
fillers_of way n = joined (replicate n (closed_by way filler_record))

fillers_size : (way : Way) (n : ℕ) → length (fillers_of way n) ≡ record_bytes way * n
fillers_size way n =
    length_joined (record_bytes way) (replicate n (closed_by way filler_record)) (fillers_long way n) ∙ ap (λ k. record_bytes way * k) (length-replicate n (closed_by way filler_record))

filler_size : (way : Way) → length (closed_by way filler_record) ≡ record_bytes way
filler_size way = (fillers_long way 1).0

module _ (way : Way) (was : List ℕ) (start n : ℕ) where
  -- i of them are put
  abbrev pub FillersLeft : List ℕ → ℕ → ℕ → Type 0
  FillersLeft here to i = Left (fillers_of way (n - i)) (fillers_of way n) was here start to

  fillers_fit : start + record_bytes way * n ≤ length was → Room (fillers_of way n) was start
  fillers_fit room = record { fits = omega (arith, fillers_size way n) }

  module _ {here : List ℕ} {to i : ℕ} (left : FillersLeft here to i) (h : i < n) where
    more_fillers : fillers_of way (n - i) ≡ closed_by way filler_record ++ fillers_of way (n - (i + 1))
    more_fillers =
        let one : n - i ≡ suc (n - (i + 1)) = omega arith in
        ap (fillers_of way) one ∙ joined_cons (closed_by way filler_record) (replicate (n - (i + 1)) (closed_by way filler_record))

    pub filler_room : start + record_bytes way * n ≤ length was → to + record_bytes way ≤ length here
    filler_room room =
        let r : Room (closed_by way filler_record) here to = left_room left (closed_by way filler_record) (fillers_of way (n - (i + 1))) more_fillers (fillers_fit room) in
        omega (arith, r.fits, filler_size way)

    pub fillers_on : (filler m₁ m₂ : List ℕ) → filler ≡ filler_record → m₁ ≡ sets here to filler → m₂ ≡ sets m₁ (to + 94) (end_of way) → FillersLeft m₂ (to + record_bytes way) (i + 1)
    fillers_on filler m₁ m₂ e f g =
        left_next left (closed_by way filler_record) (fillers_of way (n - (i + 1))) m₂ (to + record_bytes way) more_fillers
        record {
          stands = g ∙ ap (λ x. sets x (to + 94) (end_of way)) (f ∙ ap (sets here to) e) ∙ sym (sets_append here to filler_record (end_of way));
          behind = ap (λ k. to + k) (sym (filler_size way));
        }

  pub fillers_done : {here : List ℕ} {to i : ℕ} → n ≤ i → FillersLeft here to i → here ≡ sets was start (fillers_of way n)
  fillers_done {here} {to} {i} h left = let none : n - i ≡ 0 = omega arith in (left_end left (ap (fillers_of way) none ∙ joined_none)).stands

-- ---- the records before the 9

module _ (way : Way) (f held : List ℕ) where
  abbrev olds : List (List ℕ)
  olds = raw_records way f

  -- k records are put, and the mended file behind them is still to put
  pub record Putting (last : ℕ) (s : Sums) (h m : List ℕ) (k : ℕ) : Type 0 where
    pub walk : Walked way f last s h k
    pub left : Left (joined (mended_from way last s h (drop k olds))) (mended_file way f) held m 0 (record_bytes way * k)

  abbrev pub Put : Sums → List ℕ → List ℕ → ℕ → Type 0
  Put s h m k = (last : ℕ) × Putting last s h m k

  pub put_first : (s : Sums) (h : List ℕ) → s ≡ start.sums → h ≡ start.header → Put s h held 0
  put_first s h e q =
      let first : Putting 0 start.sums start.header held 0 =
      record { walk = walked_first way f; left = subst (λ to. Left (mended_file way f) (mended_file way f) held held 0 to) (sym (mul-zero (record_bytes way))) (left_start (mended_file way f) held 0) } in
      subst (λ x. Put s x held 0) (sym q) (subst (λ x. Put x start.header held 0) (sym e) (0, first))

  pub put_long : (s : Sums) (h m : List ℕ) (k : ℕ) → Put s h m k → length m ≡ length held
  put_long s h m k p = left_long p.1.left

  module _ (s : Sums) (h m : List ℕ) (k : ℕ) (p : Put s h m k) (r : List ℕ) (a : At olds k r) where
    abbrev rest : List ℕ
    rest = joined (mended_from way (type_of r) (sums_past s r) (header_past h r) (drop (k + 1) olds))

    parts : k < nine_at olds → joined (mended_from way p.0 s h (drop k olds)) ≡ mended_record s h r ++ rest
    parts l = ap joined (walked_parts way f p.0 s h k p.1.walk r a l) ∙ joined_cons (mended_record s h r) (mended_from way (type_of r) (sums_past s r) (header_past h r) (drop (k + 1) olds))

    part_long : length (mended_record s h r) ≡ record_bytes way
    part_long = record_long way s h r (eqb (type_of r) 56 && ltb 0 s.batches) p.1.walk.header (at_long way f k r a)

    -- there is room for it
    pub put_room : k < nine_at olds → length (mended_file way f) ≤ length held → record_bytes way * k + length r ≤ length m
    put_room l room =
        let whole : Room (mended_file way f) held 0 = record { fits = omega arith } in
        let here : Room (mended_record s h r) m (record_bytes way * k) = left_room p.1.left (mended_record s h r) rest (parts l) whole in
        omega (arith, here.fits, part_long, at_long way f k r a)

    pub put_on : (s' : Sums) (h' m' : List ℕ) → k < nine_at olds → s' ≡ sums_past s (take 94 r) → h' ≡ header_past h (take 94 r) → m' ≡ sets m (record_bytes way * k) (mended_record s h r) → Put s' h' m' (k + 1)
    put_on s' h' m' l e g d =
        let next : Puts (mended_record s h r) m m' (record_bytes way * k) (record_bytes way * (k + 1)) =
        record { stands = d; behind = one_on way k ∙ ap (λ n. record_bytes way * k + n) (sym part_long) } in
        let on : Put (sums_past s r) (header_past h r) m' (k + 1) =
        (type_of r, record { walk = walked_on way f p.0 s h k p.1.walk r a l; left = left_next p.1.left (mended_record s h r) rest m' (record_bytes way * (k + 1)) (parts l) next }) in
        subst (λ x. Put s' x m' (k + 1)) (sym (g ∙ past_header h r)) (subst (λ x. Put x (header_past h r) m' (k + 1)) (sym (e ∙ past_sums s r)) on)
      where
        one_on : (way : Way) (k : ℕ) → record_bytes way * (k + 1) ≡ record_bytes way * k + record_bytes way
        one_on Way.Plain k = omega arith
        one_on Way.Lined k = omega arith

  -- n records are put, and the next is the 9
  pub put_end : (s : Sums) (h m : List ℕ) (n k : ℕ) → NineAt way f n → Small s → k ≡ n → Put s h m k → Bodied way f held s m
  put_end s h m n k a small z p =
      let at_nine = z ∙ a.before in
      let nine : At olds k (get_or olds (nine_at olds) []) =
      subst (λ i. At olds i (get_or olds (nine_at olds) [])) (sym at_nine) (subst (λ i. At olds i (get_or olds i [])) a.before (nine_there way f n a)) in
      let ends = ap joined (walked_ends way f p.0 s h k p.1.walk (get_or olds (nine_at olds) []) nine (omega (arith, at_nine))) in
      record {
        small = small;
        count = p.1.walk.count ∙ at_nine;
        left =
            subst (λ i. Left (end_from way f s) (mended_file way f) held m 0 (record_bytes way * i)) at_nine
            (subst (λ x. Left x (mended_file way f) held m 0 (record_bytes way * k)) ends p.1.left);
      }

  -- ---- the 9 and the fillers

  module _ (n : ℕ) (a : NineAt way f n) (s : Sums) (m : List ℕ) (b : Bodied way f held s m) (room : length (mended_file way f) ≤ length held) (r : List ℕ) (q : r ≡ get_or olds n []) where
    nine : At olds n r
    nine = subst (λ x. At olds n x) (sym q) (nine_there way f n a)

    abbrev control : List ℕ
    control = refilled (file_control_from s) r

    abbrev behind : List ℕ
    behind = fillers_of way (fillers_after (n + 1))

    control_long : length control ≡ record_bytes way
    control_long = refilled_long way (file_control_from s) r (file_long s) (at_long way f n r nine)

    end_parts : end_from way f s ≡ control ++ behind
    end_parts =
        let counted = b.count ∙ sym a.before in
        let here : get_or olds (nine_at olds) [] ≡ r = ap (λ i. get_or olds i []) (sym a.before) ∙ sym q in
        joined_cons (refilled (file_control_from s) (get_or olds (nine_at olds) [])) (replicate (fillers_after (s.records + 1)) (closed_by way filler_record))
        ∙ ap₂ (λ x i. refilled (file_control_from s) x ++ fillers_of way (fillers_after (i + 1))) here counted

    here_left : Left (control ++ behind) (mended_file way f) held m 0 (record_bytes way * n)
    here_left =
        subst (λ i. Left (control ++ behind) (mended_file way f) held m 0 (record_bytes way * i)) (sym a.before)
        (subst (λ x. Left x (mended_file way f) held m 0 (record_bytes way * nine_at olds)) end_parts b.left)

    end_room : record_bytes way * n + record_bytes way + record_bytes way * fillers_after (n + 1) ≤ length m
    end_room =
        omega (arith, left_long here_left, here_left.behind, length-append control behind, control_long, fillers_size way (fillers_after (n + 1)))

    pub control_room : record_bytes way * n + length r ≤ length m
    control_room = omega (arith, end_room, at_long way f n r nine)

    pub behind_room : (m₁ : List ℕ) → m₁ ≡ sets m (record_bytes way * n) control → record_bytes way * n + record_bytes way + record_bytes way * fillers_after (n + 1) ≤ length m₁
    behind_room m₁ e = omega (arith, end_room, ap length e, length-sets m (record_bytes way * n) control)

    pub put_done : (m₁ m₂ : List ℕ) → m₁ ≡ sets m (record_bytes way * n) control → m₂ ≡ sets m₁ (record_bytes way * n + record_bytes way) behind
        → m₂ ≡ mended_file way f ++ drop (length (mended_file way f)) held
    put_done m₁ m₂ e g =
        let at = record_bytes way * n in
        g
        ∙ ap (λ x. sets x (at + record_bytes way) behind) e
        ∙ ap (λ k. sets (sets m at control) (at + k) behind) (sym control_long)
        ∙ sym (sets_append m at control behind)
        ∙ here_left.stands
        ∙ sets-eq (mended_file way f) held 0 (omega (arith, room))
        ∙ rw zero-add
