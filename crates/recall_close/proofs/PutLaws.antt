-- Records put into a file behind others: where they stand, and what stays.
-- Assumes nothing.
use Prim.Native.Nat.{ℕ, ◌+◌, ◌*◌, ◌≤◌}
use native.Mathlib.Nat.{add-zero, mul-add, mul-le-mul_left}
use native.Mathlib.Omega.{arith}
use mathlib.Core.Path.{◌≡◌, refl, sym, ap, ◌∙◌, subst}
use mathlib.Core.Bool.{Bool, true, false}
use mathlib.Core.List.{List, [], ◌∷◌, ◌++◌, map, map-append, append-nil}
use lib.ListN.{length, take, drop, length-append}
use lib.Seq.{sets, sets-eq, length-sets, length-take-le, take_at}
use Rattle.text.specs.Decimal.{pick}
use Rattle.text.specs.Rows.{joined}
use Rattle.text.specs.Widths.{AllLong}
use Rattle.text.proofs.RowLaws.{joined_append}
use Rattle.text.proofs.SetLaws.{sets_append, drop_sets}
use Rattle.layout.specs.declared.Way.{Way}
use Rattle.layout.specs.Ways.{end_of, record_bytes}
use Rattle.layout.specs.declared.Line.{Line}
use Rattle.check_across.specs.declared.Sums.{Sums}
use Rattle.check_across.specs.WorkSmall.{Small}
use Rattle.check_sums.specs.Sums.{next_sums, add_record, add_batch, add_addendum}
use Rattle.check_sums.proofs.SumLaws.{records_next}
use Rattle.view.specs.View.{closed_by}
use Rattle.view_laws.proofs.Ways.{closed_length}
use Rattle.table_form.specs.Forms.{batch_control_from}
use Rattle.find_entry.proofs.Parts.{on}
use Rattle.recall_close.specs.declared.moving.Walk.{Walk}
use Rattle.recall_close.specs.WorkMoving.{walk, opening, opened, begun, entry_kept, addendum_gives, addendum_next, control_gives, control_next}
use Rattle.recall_close.specs.WorkReady.{Room, put_at, Passed}

-- the record and its line end stand in the file
pub put_inside : (way : Way) (f : List ℕ) (s : Sums) → Room way f s 0 → record_bytes way * s.records + record_bytes way ≤ length f
put_inside way f s h =
    omega (arith, h.inside, on way s.records, ap (λ n. record_bytes way * (n + 1)) (add-zero s.records))

-- as the code writes them
pub put_one : (way : Way) (f r : List ℕ) (n : ℕ) → length r ≡ 94 → sets (sets f (record_bytes way * n) r) (record_bytes way * n + 94) (end_of way) ≡ put_at way n (r ∷ []) f
unfolding joined
put_one way f r n l =
    let at = record_bytes way * n in
    ap (λ k. sets (sets f at r) (at + k) (end_of way)) (sym l)
    ∙ sym (sets_append f at r (end_of way))
    ∙ ap (sets f at) (sym (append-nil (r ++ end_of way)))

-- nothing put
pub put_none : (way : Way) (f : List ℕ) (n : ℕ) → f ≡ put_at way n [] f
unfolding joined
put_none way f n = refl

-- records put behind records
pub put_more : (way : Way) (f : List ℕ) (n : ℕ) (rs ss : List (List ℕ)) → AllLong 94 rs → put_at way (n + length rs) ss (put_at way n rs f) ≡ put_at way n (rs ++ ss) f
put_more way f n rs ss l =
    let w = record_bytes way in
    let xs = joined (map (closed_by way) rs) in
    let ys = joined (map (closed_by way) ss) in
    let place : w * (n + length rs) ≡ w * n + length xs = mul-add w n (length rs) ∙ ap (λ k. w * n + k) (sym (closed_length way rs l)) in
    ap (λ k. sets (sets f (w * n) xs) k ys) place
    ∙ sym (sets_append f (w * n) xs ys)
    ∙ ap (sets f (w * n)) (sym (ap joined (map-append (closed_by way) rs ss) ∙ joined_append (map (closed_by way) rs) (map (closed_by way) ss)))

-- those in front stay, and the records stand behind them
pub put_front : (way : Way) (f : List ℕ) (n : ℕ) (rs : List (List ℕ)) → AllLong 94 rs → record_bytes way * (n + length rs) ≤ length f
    → take (record_bytes way * (n + length rs)) (put_at way n rs f) ≡ take (record_bytes way * n) f ++ joined (map (closed_by way) rs)
put_front way f n rs l h =
    let w = record_bytes way in
    let xs = joined (map (closed_by way) rs) in
    let size = closed_length way rs l in
    let all = mul-add w n (length rs) in
    let front : length (take (w * n) f ++ xs) ≡ w * (n + length rs) = length-append (take (w * n) f) xs ∙ omega (arith, length-take-le (w * n) f (omega arith)) in
    ap (take (w * (n + length rs))) (sets-eq xs f (w * n) (omega arith))
    ∙ take_at (take (w * n) f ++ xs) (drop (w * n + length xs) f) (w * (n + length rs)) front

-- and those behind stay
pub put_back : (way : Way) (f : List ℕ) (n m : ℕ) (rs : List (List ℕ)) → AllLong 94 rs → n + length rs ≤ m → drop (record_bytes way * m) (put_at way n rs f) ≡ drop (record_bytes way * m) f
put_back way f n m rs l h =
    let w = record_bytes way in
    let far : w * (n + length rs) ≤ w * m = mul-le-mul_left w h in
    drop_sets f (w * n) (joined (map (closed_by way) rs)) (w * m) (omega (arith, closed_length way rs l, mul-add w n (length rs)))

pub put_length : (way : Way) (f : List ℕ) (n : ℕ) (rs : List (List ℕ)) → length (put_at way n rs f) ≡ length f
put_length way f n rs = length-sets f (record_bytes way * n) (joined (map (closed_by way) rs))

-- ---- room for the next one

-- room behind those that wait is room before them
pub room_less : (way : Way) (f : List ℕ) (s : Sums) (n : ℕ) → Room way f s n → Room way f s 0
room_less way f s n h =
    record {
      small = h.small;
      few = omega (arith, h.few);
      inside = omega (arith, h.inside, mul-le-mul_left {m = s.records + 0 + 1} {n = s.records + n + 1} (record_bytes way) (omega arith));
    }

-- one of two is put
pub room_on : (way : Way) (f g : List ℕ) (s next : Sums) (line : Line) (r : List ℕ) → Room way f s 1 → next ≡ next_sums s line r → Small next → length g ≡ length f → Room way g next 0
room_on way f g s next line r h e small l =
    let more : next.records ≡ s.records + 1 = ap (λ (x : Sums). x.records) e ∙ records_next s line r in
    record {
      small = small;
      few = omega (arith, h.few);
      inside = omega (arith, h.inside, ap (λ n. record_bytes way * (n + 0 + 1)) more, ap (λ n. record_bytes way * (n + 1)) (add-zero (s.records + 1)));
    }

-- ---- what is known behind a record

-- nothing is put
pub none_passed : (way : Way) (f : List ℕ) (w next : Walk) → Small next.sums → Passed way f w [] next next f
none_passed way f w next h = record { known = refl; put = put_none way f w.sums.records; small = h }

-- one is put, and counted
pub one_passed : (way : Way) (f g r : List ℕ) (w : Walk) (line : Line) (s : Sums) (entries : ℕ) (held stays : Bool) → (s ≡ next_sums w.sums line r) × Small s × (g ≡ put_at way w.sums.records (r ∷ []) f)
    → Passed way f w (r ∷ []) (walk (next_sums w.sums line r) w.header entries held stays) (walk s w.header entries held stays) g
one_passed way f g r w line s entries held stays h =
    record { known = ap (λ x. walk x w.header entries held stays) h.0; put = h.2; small = h.1 }

-- an addendum, as its entry stays or goes
module _ (way : Way) (f r : List ℕ) (w : Walk) where
  pub addendum_put : (s : Sums) (g : List ℕ) → w.stays ≡ true → (s ≡ next_sums w.sums Line.Addendum r) × Small s × (g ≡ put_at way w.sums.records (r ∷ []) f)
      → Passed way f w (addendum_gives w r) (addendum_next w) (walk s w.header w.entries w.held w.stays) g
  addendum_put s g e h =
      subst (λ b. Passed way f w (pick b (r ∷ []) []) (pick b (walk (add_addendum w.sums) w.header w.entries w.held w.stays) w) (walk s w.header w.entries w.held w.stays) g) (sym e)
      (one_passed way f g r w Line.Addendum s w.entries w.held w.stays h)

  pub addendum_gone : w.stays ≡ false → Small w.sums → Passed way f w (addendum_gives w r) (addendum_next w) w f
  addendum_gone e h =
      subst (λ b. Passed way f w (pick b (r ∷ []) []) (pick b (walk (add_addendum w.sums) w.header w.entries w.held w.stays) w) w f) (sym e) (none_passed way f w w h)

-- a batch control, as its batch has an entry that stays or none
module _ (way : Way) (f : List ℕ) (w : Walk) where
  pub control_put : (control : List ℕ) (s : Sums) (g : List ℕ) → w.held ≡ false → control ≡ batch_control_from w.sums w.header
      → (s ≡ next_sums w.sums Line.BatchControl control) × Small s × (g ≡ put_at way w.sums.records (control ∷ []) f)
      → Passed way f w (control_gives w) (control_next w) (walk s w.header w.entries false false) g
  control_put control s g e c h =
      subst (λ b. Passed way f w (pick b [] (batch_control_from w.sums w.header ∷ [])) (walk (pick b w.sums (add_record w.sums)) w.header w.entries false false) (walk s w.header w.entries false false) g) (sym e)
      (rw (← c) (one_passed way f g control w Line.BatchControl s w.entries false false h))

  pub control_gone : w.held ≡ true → Small w.sums → Passed way f w (control_gives w) (control_next w) (walk w.sums w.header w.entries false false) f
  control_gone e h =
      subst (λ b. Passed way f w (pick b [] (batch_control_from w.sums w.header ∷ [])) (walk (pick b w.sums (add_record w.sums)) w.header w.entries false false) (walk w.sums w.header w.entries false false) f) (sym e)
      (none_passed way f w (walk w.sums w.header w.entries false false) h)

-- ---- behind the record 5 that waits

-- none waits
pub begun_none : (w : Walk) → w.held ≡ false → w ≡ begun w
begun_none w e = ap (λ h. walk w.sums w.header w.entries h w.stays) e ∙ ap (λ h. walk (pick h (add_batch w.sums w.header) w.sums) w.header w.entries false w.stays) (sym e)

pub kept_as : (w b : Walk) (s : Sums) (r : List ℕ) → b ≡ begun w → s ≡ next_sums b.sums Line.Entry r → walk s b.header (b.entries + 1) b.held true ≡ entry_kept w r
kept_as w b s r e n = rw (n, e) refl

opened_by : (held : Bool) (w : Walk) → w.held ≡ held → (opened w).records ≡ w.sums.records + length (opening w)
opened_by true w e = rw e refl
opened_by false w e = rw (e, add-zero) refl

opening_by : (held : Bool) (w : Walk) → w.held ≡ held → length w.header ≡ 94 → AllLong 94 (opening w)
opening_by true w e l = rw e (l, tt)
opening_by false w e l = rw e tt

pub put_behind : (way : Way) (f g h : List ℕ) (w : Walk) (s : Sums) (rs : List (List ℕ)) → length w.header ≡ 94 → s ≡ opened w → g ≡ put_at way w.sums.records (opening w) f
    → h ≡ put_at way s.records rs g → h ≡ put_at way w.sums.records (opening w ++ rs) f
put_behind way f g h w s rs l e a b =
    let n = w.sums.records in
    b
    ∙ ap (λ k. put_at way k rs g) (ap (λ (x : Sums). x.records) e ∙ opened_by w.held w refl)
    ∙ ap (put_at way (n + length (opening w)) rs) a
    ∙ put_more way f n (opening w) rs (opening_by w.held w refl l)
