-- The walk from one row of an accepted file's list to the next: the rows are put, or compared.
-- Assumes nothing but what a statement says.
use Rattle.std.specs.Prelude.{Ok}
use mathlib.Core.Path.{◌≡◌, refl, sym, ap, ap₂, ◌∙◌}
use mathlib.Core.Bool.{true, false}
use mathlib.Core.List.{List, [], ◌∷◌, ◌++◌, append_assoc}
use Prim.Native.Nat.{ℕ, suc, ◌+◌, ◌-◌, ◌*◌, ◌/◌, ◌≤◌, ◌<◌}
use native.Mathlib.Nat.{add-zero}
use native.Mathlib.Omega.{arith}
use borrow.Author.Tests.{eq-eqb}
use lib.ListN.{length, take, drop, get_or, length-append, length-drop, drop_of_length-le}
use borrow.Rule.Slice.PartMut.{put_mid}
use lib.Seq.{sets, drop-drop, take-add, take_all, take_at, drop_at, length-take-le, get_or-drop}
use Rattle.text.proofs.SetLaws.{sets_put}
use Rattle.layout.specs.declared.Way.{Way}
use Rattle.layout.specs.Ways.{record_bytes}
use Rattle.check_sums.proofs.SumLaws.{digits_small}
use Rattle.check_record.specs.Record.{columns_in, checked_of}
use Rattle.view.specs.View.{view_of}
use Rattle.view_laws.proofs.Bridge.{accepted_view}
use Rattle.view_laws.proofs.BridgeFields.{by_eq}
use Rattle.view_laws.proofs.Own.{own_records}
use Rattle.find_entry.specs.WorkFind.{nth_of}
use Rattle.find_entry.proofs.Parts.{starts}
use Rattle.find_entry.proofs.Walk.{many, here}
use Rattle.funds.specs.Funds.{rows_of, control_credit, rows_along, in_front, begins_with}
use Rattle.funds.specs.WorkRows.{left_of, Walked}
use Rattle.funds.proofs.RowLaws.{other, control, rows_told}

-- ---- the next batch control

-- nothing is said by the records before it
along_next : (n sum : ℕ) (rs : List (List ℕ)) → rows_along n sum rs ≡ rows_along (n + nth_of 56 0 rs) sum (drop (nth_of 56 0 rs) rs)
unfolding nth_of
along_next n sum [] = rw (add-zero n) refl
along_next n sum (r ∷ rs) =
    let k = nth_of 56 0 rs in
    by_eq (get_or r 0 0) 56
    (λ h. rw (eq-eqb (get_or r 0 0) 56 h, add-zero n) refl)
    (λ h.
    let more : n + 1 + k ≡ n + (1 + k) = omega arith in
    let one : 1 + k ≡ suc k = omega arith in
    rw (h, one) (other n sum r rs h ∙ along_next (n + 1) sum rs ∙ ap (λ m. rows_along m sum (drop k rs)) (more ∙ ap (λ m. n + m) one)))

next_inside : (rs : List (List ℕ)) → nth_of 56 0 rs ≤ length rs
unfolding nth_of
next_inside [] = omega arith
next_inside (r ∷ rs) = by_eq (get_or r 0 0) 56 (λ h. rw (eq-eqb (get_or r 0 0) 56 h) (omega arith)) (λ h. rw h (omega (arith, next_inside rs)))

next_begins : (rs : List (List ℕ)) → nth_of 56 0 rs < length rs → get_or (get_or rs (nth_of 56 0 rs) []) 0 0 ≡ 56
unfolding nth_of
next_begins [] = λ h. absurd (omega (arith, h))
next_begins (r ∷ rs) =
    by_eq (get_or r 0 0) 56
    (λ e. rw (eq-eqb (get_or r 0 0) 56 e) (λ h. e))
    (λ e. let one : 1 + nth_of 56 0 rs ≡ suc (nth_of 56 0 rs) = omega arith in rw (e, one) (λ h. next_begins rs (omega (arith, h))))

abbrev pub credit_at : Way → List ℕ → ℕ → ℕ
credit_at way f i = control_credit (get_or (columns_in way f) i [])

-- at first the whole list is left
pub left_first : (way : Way) (f : List ℕ) → (checked_of way f).answer ≡ Ok tt → left_of way f 0 0 ≡ rows_of (view_of way f)
left_first way f g = rows_told way f g

module _ {way : Way} {f : List ℕ} {seen credits : ℕ} (w : Walked way f seen credits) (i : ℕ) (e : i ≡ seen + nth_of 56 0 (drop seen (columns_in way f))) where
  few : length f / record_bytes way ≤ 1000000
  few = omega (arith, many way f, ap length (own_records way f w.accepted), (accepted_view way f w.accepted).keeps.fits)

  -- what is left is left from the next batch control on
  left_there : left_of way f seen credits ≡ left_of way f i credits
  left_there =
      let rs = columns_in way f in
      let k = nth_of 56 0 (drop seen rs) in
      let more : seen + 1 + k ≡ seen + k + 1 = omega arith in
      along_next (seen + 1) credits (drop seen rs) ∙ ap₂ (λ m xs. rows_along m credits xs) more (drop-drop k seen rs) ∙ ap (λ n. left_of way f n credits) (sym e)

  rest_long : length (drop seen (columns_in way f)) ≡ length f / record_bytes way - seen
  rest_long = length-drop seen (columns_in way f) ∙ ap (λ n. n - seen) (many way f)

  -- there is none
  pub none_left : i ≡ length f / record_bytes way → left_of way f seen credits ≡ []
  unfolding rows_along
  none_left h = left_there ∙ rw (drop_of_length-le (columns_in way f) {i = i} (rw (many way f) (omega (arith, h)))) refl

  -- there is one
  module _ (h : i ≡ length f / record_bytes way → ⊥) where
    pub there : i < length f / record_bytes way
    there = omega (arith, h, e, rest_long, next_inside (drop seen (columns_in way f)), w.inside)

    begins : get_or (get_or (columns_in way f) i []) 0 0 ≡ 56
    begins =
        let rs = columns_in way f in
        let k = nth_of 56 0 (drop seen rs) in
        ap (λ n. get_or (get_or rs n []) 0 0) e ∙ ap (λ r. get_or r 0 0) (sym (get_or-drop seen rs k [])) ∙ next_begins (drop seen rs) (omega (arith, e, w.inside, rest_long, there))

    pub inside : record_bytes way * (i + 1) ≤ length f
    inside = starts way (length f) (i + 1) (omega (arith, there))

    small : credits + credit_at way f i ≤ (i + 1) * 999999999999
    small = omega (arith, e, w.small, digits_small 12 (drop 32 (get_or (columns_in way f) i [])))

    pub sum_fits : credits + credit_at way f i < 18446744073709551616
    sum_fits = omega (arith, small, few, there)

    pub number_fits : i + 1 < 18446744073709551616
    number_fits = omega (arith, few, there)

    pub walked_on : Walked way f (i + 1) (credits + credit_at way f i)
    walked_on = record { accepted = w.accepted; inside = omega (arith, there); small = small }

    pub row_left : left_of way f seen credits ≡ (i + 1) ∷ (credits + credit_at way f i) ∷ left_of way f (i + 1) (credits + credit_at way f i)
    row_left =
        left_there
        ∙ ap (rows_along (i + 1) credits) (here way f i there)
        ∙ control (i + 1) credits (get_or (columns_in way f) i []) (drop (i + 1) (columns_in way f)) (eq-eqb _ 56 begins)

    pub fewer_left : length (left_of way f seen credits) ≡ 2 + length (left_of way f (i + 1) (credits + credit_at way f i))
    fewer_left = ap length row_left ∙ omega arith

-- ---- the list put

-- the first numbers are the list's, of which `left` is to come; the others stand as they stood
pub record Filling (all held left : List ℕ) (put : ℕ) (rows : List ℕ) : Type 0 where
  pub left_is : left ≡ drop put all
  pub most : put ≤ length all
  pub written : rows ≡ take put all ++ drop put held

module _ {all held left rows : List ℕ} {put : ℕ} (room : length all ≤ length held) (t : Filling all held left put rows) where
  pub filling_long : length rows ≡ length held
  filling_long = ap length t.written ∙ length-append (take put all) (drop put held) ∙ omega (arith, length-take-le put all t.most, length-drop put held, t.most, room)

  module _ (row rest : List ℕ) (l : length row ≡ 2) (e : left ≡ row ++ rest) where
    row_stands : drop put all ≡ row ++ rest
    row_stands = sym t.left_is ∙ e

    row_inside : put + 2 ≤ length all
    row_inside = omega (arith, length-drop put all, ap length row_stands, length-append row rest, l)

    pub row_room : put + 2 ≤ length rows
    row_room = omega (arith, row_inside, filling_long, room)

    pub filling_on : (k : ℕ) → k ≡ 2 → Filling all held rest (put + 2) (put_mid put k rows row)
    filling_on k two =
        let front = take put all in
        let long : length front ≡ put = length-take-le put all t.most in
        let before : take put rows ≡ front = ap (take put) t.written ∙ take_at front (drop put held) put long in
        let behind : drop put rows ≡ drop put held = ap (drop put) t.written ∙ drop_at front (drop put held) put long in
        let both : take (put + 2) all ≡ front ++ row = take-add put 2 all ∙ ap (λ r. front ++ take 2 r) row_stands ∙ ap (λ r. front ++ r) (take_at row rest 2 l) in
        record {
          left_is = sym (sym (drop-drop 2 put all) ∙ ap (drop 2) row_stands ∙ drop_at row rest 2 l);
          most = row_inside;
          written = rw (two, before, behind, drop-drop 2 put held, both) (sym (append_assoc front row (drop (put + 2) held)));
        }

    pub filling_put : Filling all held rest (put + 2) (sets rows put row)
    filling_put = rw (← sets_put rows row put 2 (sym l) (omega (arith, row_room, l))) (filling_on 2 refl)

pub filled : {all held rows : List ℕ} {put : ℕ} → Filling all held [] put rows → rows ≡ in_front all held
filled {all} {held} {rows} {put} t =
    let end : put ≡ length all = omega (arith, t.most, length-drop put all, ap length (sym t.left_is)) in
    t.written ∙ ap (λ n. take n all ++ drop n held) end ∙ ap (λ l. l ++ drop (length all) held) (take_all (length all) all (omega arith))

-- ---- the list compared

begins_same : (row rest others : List ℕ) → begins_with (row ++ rest) (row ++ others) ≡ begins_with rest others
unfolding begins_with
begins_same [] rest others = refl
begins_same (x ∷ row) rest others = rw (eq-eqb x x refl) (begins_same row rest others)

begins_not : (row rest held : List ℕ) → ((others : List ℕ) → held ≡ row ++ others → ⊥) → begins_with (row ++ rest) held ≡ false
unfolding begins_with
begins_not [] rest held h = absurd (h held refl)
begins_not (x ∷ row) rest [] h = refl
begins_not (x ∷ row) rest (y ∷ held) h =
    by_eq x y
    (λ e. rw (eq-eqb x y e) (begins_not row rest held (λ others g. h others (ap₂ ◌∷◌ (sym e) g))))
    (λ e. rw e refl)

-- the first numbers are the list's: the others decide
pub compares_on : (left row rest held others : List ℕ) → left ≡ row ++ rest → held ≡ row ++ others → begins_with rest others ≡ begins_with left held
compares_on left row rest held others e h = rw (e, h) (sym (begins_same row rest others))

pub stripped : (left row rest held : List ℕ) → left ≡ row ++ rest → ((others : List ℕ) → held ≡ row ++ others → ⊥) → false ≡ begins_with left held
stripped left row rest held e h = rw e (sym (begins_not row rest held h))

pub none_compared : (left held : List ℕ) → left ≡ [] → true ≡ begins_with left held
unfolding begins_with
none_compared left held e = rw e refl
