-- The old file's records closed up in place: what stands in front is the new file so far, and what is not passed yet is the old one.
-- Assumes an accepted file.
use Prim.Native.Nat.{ℕ, suc, ◌+◌, ◌-◌, ◌*◌, ◌%◌, ◌≤◌, ◌<◌}
use native.Mathlib.Nat.{add-zero, mul-zero, mul-le-mul_left}
use native.Mathlib.Numerals.{add-one}
use native.Mathlib.Omega.{arith}
use mathlib.Core.Path.{◌≡◌, refl, sym, ap, ◌∙◌, subst}
use mathlib.Core.Bool.{Bool, true, false}
use mathlib.Core.List.{List, [], ◌∷◌, ◌++◌, map, map-append, append_assoc, append-nil}
use borrow.Author.Tests.{eq-eqb, ne_eqb}
use lib.ListN.{length, take, drop, get_or, replicate, length-drop, get_or-append, drop_of_length-le}
use lib.Seq.{length-take-le, drop-cons, drop-drop}
use Rattle.text.specs.Rows.{joined}
use Rattle.text.specs.Widths.{AllLong}
use Rattle.text.proofs.RowLaws.{joined_append}
use Rattle.layout.specs.declared.Way.{Way}
use Rattle.layout.specs.Ways.{record_bytes}
use Rattle.layout.specs.declared.Line.{Line}
use Rattle.check_across.specs.declared.Sums.{Sums}
use Rattle.check_across.specs.WorkSmall.{Small}
use Rattle.check_sums.specs.Sums.{next_sums}
use Rattle.view.specs.View.{closed_by, fillers_after, filler_record, body_of, records_of, view_of}
use Rattle.view_laws.proofs.Reading.{file_length}
use Rattle.view_laws.proofs.BridgeSums.{records_length, fillers_none, fillers_more}
use Rattle.view_laws.proofs.Bridge.{accepted_view}
use Rattle.view_laws.proofs.Own.{own_records}
use Rattle.table_form.specs.Forms.{file_control_from}
use Rattle.find_entry.proofs.Parts.{on, record_cut}
use Rattle.table_form.proofs.WalkLaws.{control_long, file_control_long}
use Rattle.recall_close.specs.declared.moving.Sort.{Sort}
use Rattle.recall_close.specs.declared.moving.Walk.{Walk}
use Rattle.recall_close.specs.WorkMoving.{gone, sort_of, first_walk, opening, entry_kept, gives_by, next_by, gives_of, next_of, ending_of, left_from}
use Rattle.recall_close.specs.WorkReady.{Walkable, waiting, Room, put_at, Passed, closed_up, Closed}
use Rattle.recall_close.proofs.PutLaws.{put_front, put_back, put_length}

-- ---- what one record gives

-- r gives so many records to the new file, each of 94 bytes, and leaves no more waiting than it may
pub record Given (w : Walk) (rs : List (List ℕ)) (next : Walk) : Type 0 where
  pub count : next.sums.records ≡ w.sums.records + length rs
  pub few : length rs + waiting next ≤ waiting w + 1
  pub long : AllLong 94 rs
  pub header : length next.header ≡ 94
  pub entries : next.entries ≤ w.entries + 1

by_test : {P : Type 0} (t : Bool) → (t ≡ true → P) → (t ≡ false → P) → P
by_test true f g = f refl
by_test false f g = g refl

module _ (flags : List ℕ) (w : Walk) (r : List ℕ) (l : length r ≡ 94) (h : length w.header ≡ 94) where
  kept : Given w (opening w ++ (r ∷ [])) (entry_kept w r)
  kept =
      by_test w.held
      (λ e. rw e (record { count = omega arith; few = omega arith; long = (h, (l, tt)); header = h; entries = omega arith }))
      (λ e. rw e (record { count = refl; few = omega arith; long = (l, tt); header = h; entries = omega arith }))

  given_by : (sort : Sort) → Given w (gives_by flags w sort r) (next_by flags w sort r)
  given_by Sort.File = record { count = refl; few = omega arith; long = (l, tt); header = h; entries = omega arith }
  given_by Sort.Batch = record { count = sym (add-zero w.sums.records); few = omega arith; long = tt; header = l; entries = omega arith }
  given_by Sort.Entry =
      by_test (gone flags (w.entries + 1))
      (λ g. rw g (record { count = sym (add-zero w.sums.records); few = omega arith; long = tt; header = h; entries = omega arith }))
      (λ g. rw g kept)
  given_by Sort.Addendum =
      by_test w.stays
      (λ g. rw g (record { count = refl; few = omega arith; long = (l, tt); header = h; entries = omega arith }))
      (λ g. rw g (record { count = sym (add-zero w.sums.records); few = omega arith; long = tt; header = h; entries = omega arith }))
  given_by Sort.Control =
      by_test w.held
      (λ g. rw g (record { count = sym (add-zero w.sums.records); few = omega arith; long = tt; header = h; entries = omega arith }))
      (λ g. rw g (record { count = refl; few = omega arith; long = (control_long w.sums w.header h, tt); header = h; entries = omega arith }))

  given : Given w (gives_of flags w r) (next_of flags w r)
  given = given_by (sort_of (get_or r 0 0))

-- ---- the walk along the file

-- the bytes of records, with their line ends
abbrev bytes_of : Way → List (List ℕ) → List ℕ
bytes_of way rs = joined (map (closed_by way) rs)

bytes_append : (way : Way) (rs ss : List (List ℕ)) → bytes_of way (rs ++ ss) ≡ bytes_of way rs ++ bytes_of way ss
bytes_append way rs ss = ap joined (map-append (closed_by way) rs ss) ∙ joined_append (map (closed_by way) rs) (map (closed_by way) ss)

-- i records of the old file f₀ are passed, and f stands there now: the new file so far is in front, and what is left of the old one is
-- untouched
pub record Along (way : Way) (flags f₀ f : List ℕ) (w : Walk) (i : ℕ) : Type 0 where
  pub small : Small w.sums
  pub header : length w.header ≡ 94
  pub behind : w.sums.records + waiting w ≤ i
  pub entries : w.entries ≤ i
  pub long : length f ≡ length f₀
  pub source : drop (record_bytes way * i) f ≡ drop (record_bytes way * i) f₀
  pub makes : take (record_bytes way * w.sums.records) f ++ bytes_of way (left_from flags w (drop i (body_of (view_of way f₀)))) ≡ closed_up way flags f₀

pub along_first : (way : Way) (flags f : List ℕ) (w : Walk) → w ≡ first_walk → Small w.sums → Along way flags f f w 0
along_first way flags f w e small =
    let none : record_bytes way * 0 ≡ 0 = mul-zero (record_bytes way) in
    let first : Small first_walk.sums = subst (λ x. Small x.sums) e small in
    subst (λ x. Along way flags f f x 0) (sym e)
    (record {
      small = first;
      header = refl;
      behind = omega arith;
      entries = omega arith;
      long = refl;
      source = refl;
      makes = rw none refl;
    })

module _ (way : Way) (flags f₀ : List ℕ) (count : ℕ) (ok : Walkable way f₀ count) where
  -- the old file's length, and how many records it has
  many : length (records_of (view_of way f₀)) ≡ count + 1 + fillers_after (count + 1)
  many = records_length (view_of way f₀) ∙ ap (λ n. n + 1 + fillers_after (n + 1)) (sym ok.counted)

  pub old_length : length f₀ ≡ record_bytes way * (count + 1 + fillers_after (count + 1))
  old_length =
      let p = accepted_view way f₀ ok.accepted in
      ap length p.form ∙ file_length way (view_of way f₀) p.sized ∙ ap (λ n. record_bytes way * n) many

  pub old_few : count + 1 + fillers_after (count + 1) ≤ 1000000
  old_few = omega (arith, many, (accepted_view way f₀ ok.accepted).keeps.fits)

  pub inside : (n : ℕ) → n ≤ count + 1 → record_bytes way * n ≤ length f₀
  inside n h = omega (arith, old_length, mul-le-mul_left {m = n} {n = count + 1 + fillers_after (count + 1)} (record_bytes way) (omega arith))

  module _ (f : List ℕ) (w : Walk) (i : ℕ) (a : Along way flags f₀ f w i) (h : i < count) where
    pub along_inside : record_bytes way * (i + 1) ≤ length f
    along_inside = omega (arith, a.long, inside (i + 1) (omega arith))

    pub along_room : Room way f w.sums (waiting w)
    along_room =
        record {
          small = a.small;
          few = omega (arith, a.behind, old_few);
          inside = omega (arith, a.long, inside (w.sums.records + waiting w + 1) (omega (arith, a.behind)));
        }

    -- the record that is read is the old file's
    here : (r : List ℕ) → r ≡ take 94 (drop (record_bytes way * i) f) → r ≡ get_or (body_of (view_of way f₀)) i []
    here r e =
        let v = view_of way f₀ in
        e ∙ ap (take 94) a.source
        ∙ record_cut way f₀ i (record_bytes way) refl (inside (i + 1) (omega arith))
        ∙ ap (λ rs. get_or rs i []) (own_records way f₀ ok.accepted)
        ∙ get_or-append (body_of v) _ [] i (omega (arith, ok.counted))

    pub read_long : (r : List ℕ) → r ≡ take 94 (drop (record_bytes way * i) f) → length r ≡ 94
    read_long r e = ap length e ∙ length-take-le 94 (drop (record_bytes way * i) f) (rw length-drop (omega (arith, along_inside, on way i)))

    -- it gives its records to the new file
    pub along_next : (r : List ℕ) (next : Walk) (g : List ℕ) → r ≡ take 94 (drop (record_bytes way * i) f)
        → Passed way f w (gives_of flags w r) (next_of flags w r) next g → Along way flags f₀ g next (i + 1)
    unfolding left_from
    along_next r next g e p =
        let body = body_of (view_of way f₀) in
        let n = w.sums.records in
        let rs = gives_of flags w r in
        let y = subst (Given w rs) (sym p.known) (given flags w r (read_long r e) a.header) in
        let after : drop i body ≡ r ∷ drop (i + 1) body =
        drop-cons body i [] (omega (arith, ok.counted)) ∙ ap (λ x. x ∷ drop (suc i) body) (sym (here r e)) ∙ ap (λ k. r ∷ drop k body) (sym (add-one i)) in
        let rest = left_from flags next (drop (i + 1) body) in
        let put = put_at way n rs f in
        let room : record_bytes way * (n + length rs) ≤ length f = omega (arith, a.long, inside (n + length rs) (omega (arith, y.few, a.behind))) in
        let front : take (record_bytes way * next.sums.records) g ≡ take (record_bytes way * n) f ++ bytes_of way rs =
        ap (λ k. take (record_bytes way * k) g) y.count ∙ ap (take (record_bytes way * (n + length rs))) p.put ∙ put_front way f n rs y.long room in
        let all : left_from flags w (drop i body) ≡ rs ++ rest =
        ap (left_from flags w) after ∙ ap (λ x. rs ++ left_from flags x (drop (i + 1) body)) (sym p.known) in
        record {
          small = p.small;
          header = y.header;
          behind = omega (arith, y.count, y.few, a.behind);
          entries = omega (arith, y.entries, a.entries);
          long = ap length p.put ∙ put_length way f n rs ∙ a.long;
          source =
              ap (drop (record_bytes way * (i + 1))) p.put
              ∙ put_back way f n (i + 1) rs y.long (omega (arith, y.few, a.behind))
              ∙ ap (λ k. drop k f) (sym (on way i))
              ∙ sym (drop-drop (record_bytes way) (record_bytes way * i) f)
              ∙ ap (drop (record_bytes way)) a.source
              ∙ drop-drop (record_bytes way) (record_bytes way * i) f₀
              ∙ ap (λ k. drop k f₀) (on way i);
          makes =
              ap (λ x. x ++ bytes_of way rest) front
              ∙ append_assoc (take (record_bytes way * n) f) (bytes_of way rs) (bytes_of way rest)
              ∙ ap (λ x. take (record_bytes way * n) f ++ x) (sym (ap (bytes_of way) all ∙ bytes_append way rs rest))
              ∙ a.makes;
        }

  -- behind the last record before the file control
  pub along_end : (f : List ℕ) (w : Walk) (i : ℕ) → Along way flags f₀ f w i → i ≤ count → count ≤ i → Closed way flags f₀ count w.sums f
  unfolding left_from
  along_end f w i a most h =
      record {
        small = a.small;
        behind = omega (arith, a.behind);
        long = a.long;
        makes =
            ap (λ rs. take (record_bytes way * w.sums.records) f ++ bytes_of way (left_from flags w rs)) (sym (drop_of_length-le (body_of (view_of way f₀)) {i = i} (omega (arith, ok.counted))))
            ∙ a.makes;
      }

-- ---- the records that end the file

-- fillers are put up to a whole block: f₀ and s₀ as they were behind the file control
pub record Filling (way : Way) (f₀ : List ℕ) (s₀ : Sums) (f : List ℕ) (s : Sums) : Type 0 where
  pub small : Small s
  pub long : length f ≡ length f₀
  pub most : s.records + fillers_after s.records ≡ s₀.records + fillers_after s₀.records
  pub few : s₀.records + fillers_after s₀.records ≤ 1000000
  pub inside : record_bytes way * (s₀.records + fillers_after s₀.records) ≤ length f₀
  pub makes : take (record_bytes way * s.records) f ++ bytes_of way (replicate (fillers_after s.records) filler_record)
      ≡ take (record_bytes way * s₀.records) f₀ ++ bytes_of way (replicate (fillers_after s₀.records) filler_record)

pub filling_first : (way : Way) (f : List ℕ) (s : Sums) → Small s → s.records + fillers_after s.records ≤ 1000000
    → record_bytes way * (s.records + fillers_after s.records) ≤ length f → Filling way f s f s
filling_first way f s small few inside = record { small = small; long = refl; most = refl; few = few; inside = inside; makes = refl }

module _ (way : Way) (f₀ : List ℕ) (s₀ : Sums) (f : List ℕ) (s : Sums) (a : Filling way f₀ s₀ f s) where
  module _ (h : s.records % 10 ≡ 0 → ⊥) where
    one : fillers_after s.records ≡ suc (fillers_after (s.records + 1))
    one = fillers_more s.records (ne_eqb (s.records % 10) 0 h)

    -- there is room for one more
    room_inside : record_bytes way * (s.records + 1) ≤ length f
    room_inside =
        omega (arith, a.long, a.inside, mul-le-mul_left {m = s.records + 1} {n = s₀.records + fillers_after s₀.records} (record_bytes way) (omega (arith, a.most, one)))

    pub filling_room : Room way f s 0
    filling_room =
        record {
          small = a.small;
          few = omega (arith, a.most, a.few, one);
          inside = rw add-zero room_inside;
        }

    pub filling_less : (next : Sums) (r : List ℕ) → next ≡ next_sums s Line.Filler r → fillers_after next.records < fillers_after s.records
    filling_less next r e = omega (arith, one, ap (λ (x : Sums). fillers_after x.records) e)

    pub filling_next : (next : Sums) (g r : List ℕ) → r ≡ filler_record → next ≡ next_sums s Line.Filler r → Small next → g ≡ put_at way s.records (r ∷ []) f → Filling way f₀ s₀ g next
    filling_next next g r e n small p =
        let k = s.records in
        let more : next.records ≡ k + 1 = ap (λ (x : Sums). x.records) n in
        let rs = replicate (fillers_after (k + 1)) filler_record in
        let put : g ≡ put_at way k (filler_record ∷ []) f = p ∙ ap (λ x. put_at way k (x ∷ []) f) e in
        record {
          small = small;
          long = ap length p ∙ put_length way f k (r ∷ []) ∙ a.long;
          most = ap (λ m. m + fillers_after m) more ∙ omega (arith, one, a.most);
          few = a.few;
          inside = a.inside;
          makes =
              ap (λ m. take (record_bytes way * m) g ++ bytes_of way (replicate (fillers_after m) filler_record)) more
              ∙ ap (λ x. x ++ bytes_of way rs) (ap (take (record_bytes way * (k + 1))) put ∙ put_front way f k (filler_record ∷ []) (refl, tt) room_inside)
              ∙ append_assoc (take (record_bytes way * k) f) (bytes_of way (filler_record ∷ [])) (bytes_of way rs)
              ∙ ap (λ x. take (record_bytes way * k) f ++ x) (sym (bytes_append way (filler_record ∷ []) rs))
              ∙ ap (λ m. take (record_bytes way * k) f ++ bytes_of way (replicate m filler_record)) (sym one)
              ∙ a.makes;
        }

  module _ (h : s.records % 10 ≡ 0) where
    zero_left : fillers_after s.records ≡ 0
    zero_left = fillers_none s.records (eq-eqb (s.records % 10) 0 h)

    pub filled_many : s.records ≡ s₀.records + fillers_after s₀.records
    filled_many = omega (arith, zero_left, a.most)

    pub filled_whole : take (record_bytes way * s.records) f ≡ take (record_bytes way * s₀.records) f₀ ++ bytes_of way (replicate (fillers_after s₀.records) filler_record)
    unfolding joined
    filled_whole =
        sym (append-nil (take (record_bytes way * s.records) f))
        ∙ ap (λ m. take (record_bytes way * s.records) f ++ bytes_of way (replicate m filler_record)) (sym zero_left)
        ∙ a.makes

-- the file control in front of them
module _ (way : Way) (f g control : List ℕ) (s next : Sums) (e : control ≡ file_control_from s) (n : next ≡ next_sums s Line.FileControl control) (p : g ≡ put_at way s.records (control ∷ []) f) (h : record_bytes way * (s.records + 1 + fillers_after (s.records + 1)) ≤ length f) where
  pub control_inside : record_bytes way * (s.records + 0 + 1) ≤ length f
  control_inside = omega (arith, mul-le-mul_left {m = s.records + 0 + 1} {n = s.records + 1 + fillers_after (s.records + 1)} (record_bytes way) (omega arith))

  counted : next.records ≡ s.records + 1
  counted = ap (λ (x : Sums). x.records) n

  pub control_filling : Small next → s.records + 1 + fillers_after (s.records + 1) ≤ 1000000 → Filling way g next g next
  control_filling small few =
      filling_first way g next small (omega (arith, few, ap (λ m. m + fillers_after m) counted))
      (omega (arith, h, ap (λ m. record_bytes way * (m + fillers_after m)) counted, ap length p, put_length way f s.records (control ∷ [])))

  pub ended : (r : ℕ) (last : List ℕ) → take (record_bytes way * r) last ≡ take (record_bytes way * next.records) g ++ bytes_of way (replicate (fillers_after next.records) filler_record)
      → take (record_bytes way * r) last ≡ take (record_bytes way * s.records) f ++ bytes_of way (ending_of s)
  ended r last q =
      let k = s.records in
      let rs = replicate (fillers_after (k + 1)) filler_record in
      let room : record_bytes way * (k + 1) ≤ length f = rw add-zero at control_inside in
      let put : g ≡ put_at way k (file_control_from s ∷ []) f = p ∙ ap (λ x. put_at way k (x ∷ []) f) e in
      q
      ∙ ap (λ m. take (record_bytes way * m) g ++ bytes_of way (replicate (fillers_after m) filler_record)) counted
      ∙ ap (λ x. x ++ bytes_of way rs) (ap (take (record_bytes way * (k + 1))) put ∙ put_front way f k (file_control_from s ∷ []) (file_control_long s, tt) room)
      ∙ append_assoc (take (record_bytes way * k) f) (bytes_of way (file_control_from s ∷ [])) (bytes_of way rs)
      ∙ ap (λ x. take (record_bytes way * k) f ++ x) (sym (bytes_append way (file_control_from s ∷ []) rs))

-- ---- the whole

module _ (way : Way) (flags f : List ℕ) (count : ℕ) (ok : Walkable way f count) (s : Sums) (g : List ℕ) (c : Closed way flags f count s g) where
  -- the records that end the file have room
  pub end_few : s.records + 1 + fillers_after (s.records + 1) ≤ 1000000
  end_few = omega (arith, old_few way flags f count ok, c.behind)

  pub end_inside : record_bytes way * (s.records + 1 + fillers_after (s.records + 1)) ≤ length g
  end_inside =
      omega (arith, c.long, old_length way flags f count ok, mul-le-mul_left {m = s.records + 1 + fillers_after (s.records + 1)} {n = count + 1 + fillers_after (count + 1)} (record_bytes way) (omega (arith, c.behind)))

  -- n records in all, and blanks behind their bytes
  module _ (n size : ℕ) (last blanks : List ℕ) (e : n ≡ s.records + 1 + fillers_after (s.records + 1)) (z : size ≡ record_bytes way * n) (l : length last ≡ length g) (p : take (record_bytes way * n) last ≡ take (record_bytes way * s.records) g ++ bytes_of way (ending_of s)) where
    pub size_inside : size ≤ length last
    size_inside = omega (arith, z, l, end_inside, ap (λ k. record_bytes way * k) e)

    front : take size last ≡ closed_up way flags f
    front = ap (λ k. take k last) z ∙ p ∙ c.makes

    pub size_whole : size ≡ length (closed_up way flags f)
    size_whole = sym (length-take-le size last size_inside) ∙ ap length front

    pub blanked : blanks ≡ replicate (length (take (length last - size) (drop size last))) 32
        → take size last ++ (blanks ++ drop (length last - size) (drop size last)) ≡ closed_up way flags f ++ replicate (length f - size) 32
    blanked b =
        let rest = drop size last in
        let long : length rest ≡ length last - size = length-drop size last in
        let free : length (take (length last - size) rest) ≡ length f - size = length-take-le (length last - size) rest (omega arith) ∙ omega (arith, l, c.long) in
        ap (λ x. x ++ (blanks ++ drop (length last - size) rest)) front
        ∙ ap (λ x. closed_up way flags f ++ (blanks ++ x)) (drop_of_length-le rest {i = length last - size} (omega arith))
        ∙ ap (λ x. closed_up way flags f ++ x) (append-nil blanks ∙ b ∙ ap (λ k. replicate k 32) free)
