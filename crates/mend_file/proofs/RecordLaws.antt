-- The records of a file as the code walks along them, one chunk after the other.
-- Assumes nothing.
use Rattle.std.proofs.Common.{◌≡◌, ℕ, zero, suc, ◌+◌, ◌-◌, ◌*◌, ◌/◌, ◌<◌, ◌≤◌, Option, Some, None, List, [], ◌∷◌, ◌++◌, length, get_or, take, drop, refl, sym, ap, ap₂, ◌∙◌, subst, arith}
use Rattle.std.proofs.lemmas.Iterator.{YieldsList, YieldsList-from_take, YieldsList-from_zip, zips}
use Rattle.std.proofs.lemmas.Iterator.Adapters.{YieldsList-from_skip}
use Rattle.std.proofs.lemmas.Iterator.Consumers.{YieldsList-from_enumerate, YieldsList-turn, YieldsList-end}
use Rattle.std.proofs.lemmas.Iterator.Splits.{YieldsList-from_shown_while}
use Rattle.std.proofs.lemmas.List.{drop_more, drop_all}
use Rattle.std.proofs.lemmas.List.FromFn.{length-enumerate_from, get_or-enumerate_from}
use Rattle.std.proofs.lemmas.Slice.Zip.{length-zip, get_or-zip}
use Rattle.std.specs.Iterator.{Yields}
use Rattle.std.specs.Iterator.Adapters.{take_source, take_count, take_steps, enumerate_source, enumerate_count, enumerate_steps, skip_source, skip_count, skip_steps, zip_first, zip_second}
use Rattle.std.specs.List.{zip, enumerate_from}
use Rattle.std.specs.Slice.Iter.{chunks_exact_rest, chunks_exact_size, chunks_exact_steps}
use Rattle.std.specs.declared.iter.Enumerate.{Enumerate}
use denote.Ref.{Bor}
use lib.ListN.{length-take, length-drop, take-append-drop}
use lib.Seq.{get_or-take, get_or-drop}
use Rattle.text.proofs.RowLaws.{long_at, length_rows, rows_long, get_d_rows}
use Rattle.layout.specs.declared.Way.{Way}
use Rattle.layout.specs.Ways.{record_bytes}
use Rattle.check_record.specs.Record.{raw_records}
use Rattle.check_record.proofs.Ways.{raw_chunk, raw_none, rows_inside}

-- ---- what stands at a place of a list

-- r is element k, and behind it stand the others
pub record At {A : Type 0} (rs : List A) (k : ℕ) (r : A) : Type 0 where
  pub inside : k < length rs
  pub here : drop k rs ≡ r ∷ drop (k + 1) rs

at_of : {A : Type 0} (rs : List A) (k : ℕ) (r : A) → k < length rs → r ≡ get_or rs k r → At rs k r
at_of rs k r h e = record { inside = h; here = drop_more rs k r h ∙ ap (λ x. x ∷ drop (k + 1) rs) (sym e) }

-- the one that a loop over the first n of them has at hand
taken_at : {A : Type 0} (n : ℕ) (rs : List A) (k : ℕ) (r : A) → k < length (take n rs) → r ≡ get_or (take n rs) k r → (k < n) × At rs k r
taken_at n rs k r h e =
    let less : k < n = omega (arith, length-take n rs) in
    (less, at_of rs k r (omega (arith, length-take n rs)) (e ∙ get_or-take n rs k r less))

numbered_at : {A : Type 0} (rs : List A) (k : ℕ) (p : ℕ × A) → k < length (enumerate_from 0 rs) → p ≡ get_or (enumerate_from 0 rs) k p → (p.0 ≡ k) × (k < length rs) × (p.1 ≡ get_or rs k p.1)
numbered_at rs k p h e =
    let less : k < length rs = omega (arith, length-enumerate_from 0 rs) in
    let same = e ∙ get_or-enumerate_from 0 rs k p less in
    let none : 0 + k ≡ k = omega arith in
    (ap (λ x. x.0) same ∙ none, less, ap (λ x. x.1) same)

-- one of two lists side by side
zipped_at : {A B : Type 0} (as' : List A) (bs : List B) (k : ℕ) (p : A × B) → k < length (zip as' bs) → p ≡ get_or (zip as' bs) k p → At as' k p.0 × At bs k p.1
zipped_at as' bs k p h e =
    let first : k < length as' = omega (arith, length-zip as' bs) in
    let second : k < length bs = omega (arith, length-zip as' bs) in
    let same = e ∙ get_or-zip as' bs k p first second in
    (at_of as' k p.0 first (ap (λ x. x.0) same), at_of bs k p.1 second (ap (λ x. x.1) same))

-- it is the one that is read there
pub at_is : {A : Type 0} (rs : List A) (k : ℕ) (r d : A) → At rs k r → r ≡ get_or rs k d
at_is rs k r d a = let e = drop_more rs k d a.inside in let h = a.here in cc

-- and one is there before the end
pub at_here : {A : Type 0} (rs : List A) (k : ℕ) (d : A) → k < length rs → At rs k (get_or rs k d)
at_here rs k d h = record { inside = h; here = drop_more rs k d h }

-- ---- a loop that numbers its items

module _ {S A B : Type 0} {steps : S → Option A → S → Type 0} {v : A → B} {s : Enumerate S} {rs : List B} (road : YieldsList steps v (enumerate_source s) rs) (z : enumerate_count s ≡ 0)
    (xs : List (ℕ × A)) (t : Enumerate S) (y : Yields (enumerate_steps steps) s xs t) (r : Option (ℕ × A)) (u : Enumerate S) (step : enumerate_steps steps t r u) where
  all_numbered : YieldsList (enumerate_steps steps) (λ p. (p.0, v p.1)) s (enumerate_from 0 rs)
  all_numbered = YieldsList-from_enumerate road z

  pub numbered_turn : (x : ℕ × A) → r ≡ Some x → (x.0 ≡ length xs) × (length xs < length rs) × (v x.1 ≡ get_or rs (length xs) (v x.1))
  numbered_turn x is = let h = YieldsList-turn all_numbered xs t y r u x is step in numbered_at rs (length xs) (x.0, v x.1) h.0 h.1

  pub numbered_end : r ≡ None → length xs ≡ length rs
  numbered_end is = (YieldsList-end all_numbered xs t y r u is step).1 ∙ length-enumerate_from 0 rs

-- ---- the records of a file, cut off as chunks

pub rows_above : (way : Way) (n k : ℕ) → record_bytes way * (n + 1) ≤ k → n < k / record_bytes way
rows_above Way.Plain n k h = omega arith
rows_above Way.Lined n k h = omega arith

pub record_least : (way : Way) → 94 ≤ record_bytes way
record_least Way.Plain = omega arith
record_least Way.Lined = omega arith

-- one has the width of the way
pub at_long : (way : Way) (f : List ℕ) (k : ℕ) (r : List ℕ) → At (raw_records way f) k r → length r ≡ record_bytes way
at_long way f k r a =
    let w = record_bytes way in
    let n = length f / w in
    let inside : k < n = omega (arith, a.inside, length_rows w n f) in
    ap length (at_is (raw_records way f) k r [] a) ∙ long_at w (raw_records way f) k (rows_long w n f (rows_inside way (length f))) a.inside

module _ (way : Way) (f : List ℕ) {s : _} (e : chunks_exact_rest s ≡ f) (q : chunks_exact_size s ≡ record_bytes way) where
  pub records_yielded : YieldsList chunks_exact_steps (λ x. x.now) s (raw_records way f)
  records_yielded =
      let P : List ℕ → Type 0 = λ xs. YieldsList chunks_exact_steps (λ x. x.now) s (raw_records way xs) in
      subst P e
      (YieldsList-from_shown_while chunks_exact_steps (λ x. x.now) (λ t. raw_records way (chunks_exact_rest t)) (λ t. chunks_exact_size t ≡ record_bytes way)
      (λ t u w n. ap length (raw_none way (chunks_exact_rest t) (omega (arith, n.1.0, w))))
      (λ t x u w n. (n.0 ∙ w, ap (raw_records way) n.1.0 ∙ raw_chunk way x.now (chunks_exact_rest u) (n.1.1 ∙ w)))
      s q)

-- record n, cut out by its place
pub record_cut : (way : Way) (f : List ℕ) (n : ℕ) → record_bytes way * (n + 1) ≤ length f
    → (take (record_bytes way * n + record_bytes way - record_bytes way * n) (drop (record_bytes way * n) f) ≡ get_or (raw_records way f) n [])
    × (length (take (record_bytes way * n + record_bytes way - record_bytes way * n) (drop (record_bytes way * n) f)) ≡ record_bytes way)
record_cut way f n h =
    let w = record_bytes way in
    let wide : w * n + w - w * n ≡ w = omega arith in
    (ap (λ k. take k (drop (w * n) f)) wide ∙ sym (get_d_rows w (length f / w) f n (rows_above way n (length f) h)), simp (length-take, length-drop) (omega (arith, one_on way n)))
  where
    one_on : (way : Way) (n : ℕ) → record_bytes way * (n + 1) ≡ record_bytes way * n + record_bytes way
    one_on Way.Plain n = omega arith
    one_on Way.Lined n = omega arith

-- all of them, numbered
module _ (way : Way) (f : List ℕ) (s : _) (e : chunks_exact_rest (enumerate_source s) ≡ f) (q : chunks_exact_size (enumerate_source s) ≡ record_bytes way) (z : enumerate_count s ≡ 0)
    (xs : List (ℕ × Bor (List ℕ))) (t : _) (y : Yields (enumerate_steps chunks_exact_steps) s xs t) (r : Option (ℕ × Bor (List ℕ))) (u : _) (step : enumerate_steps chunks_exact_steps t r u) where
  pub record_turn : (x : ℕ × Bor (List ℕ)) → r ≡ Some x → (x.0 ≡ length xs) × At (raw_records way f) (length xs) x.1.now
  record_turn x is =
      let h = numbered_turn (records_yielded way f e q) z xs t y r u step x is in
      (h.0, at_of (raw_records way f) (length xs) x.1.now h.1 h.2)

  pub record_end : r ≡ None → length xs ≡ length (raw_records way f)
  record_end is = numbered_end (records_yielded way f e q) z xs t y r u step is

-- all but the first n, numbered
module _ (way : Way) (f : List ℕ) (n : ℕ) (s : _) (e : chunks_exact_rest (enumerate_source (skip_source s)) ≡ f) (q : chunks_exact_size (enumerate_source (skip_source s)) ≡ record_bytes way)
    (z : enumerate_count (skip_source s) ≡ 0) (c : skip_count s ≡ n) (xs : List (ℕ × Bor (List ℕ))) (t : _) (y : Yields (skip_steps (enumerate_steps chunks_exact_steps)) s xs t)
    (r : Option (ℕ × Bor (List ℕ))) (u : _) (step : skip_steps (enumerate_steps chunks_exact_steps) t r u) where
  others : YieldsList (skip_steps (enumerate_steps chunks_exact_steps)) (λ p. (p.0, p.1.now)) s (drop n (enumerate_from 0 (raw_records way f)))
  others = YieldsList-from_skip n (YieldsList-from_enumerate (records_yielded way f e q) z) c

  pub other_turn : (x : ℕ × Bor (List ℕ)) → r ≡ Some x → (x.0 ≡ n + length xs) × At (raw_records way f) (n + length xs) x.1.now
  other_turn x is =
      let all = enumerate_from 0 (raw_records way f) in
      let h = YieldsList-turn others xs t y r u x is step in
      let inside : n + length xs < length all = omega (arith, h.0, length-drop n all) in
      let k = numbered_at (raw_records way f) (n + length xs) (x.0, x.1.now) inside (h.1 ∙ get_or-drop n all (length xs) (x.0, x.1.now)) in
      (k.0, at_of (raw_records way f) (n + length xs) x.1.now k.1 k.2)

  pub other_end : r ≡ None → length (raw_records way f) ≤ n + length xs
  other_end is =
      let all = enumerate_from 0 (raw_records way f) in
      omega (arith, (YieldsList-end others xs t y r u is step).1, length-drop n all, length-enumerate_from 0 (raw_records way f))

-- the first n of them
module _ (way : Way) (f : List ℕ) (n : ℕ) (s : _) (e : chunks_exact_rest (take_source s) ≡ f) (q : chunks_exact_size (take_source s) ≡ record_bytes way) (c : take_count s ≡ n) where
  first_yielded : YieldsList (take_steps chunks_exact_steps) (λ x. x.now) s (take n (raw_records way f))
  first_yielded = YieldsList-from_take n (records_yielded way f e q) c

  module _ (xs : List (Bor (List ℕ))) (t : _) (y : Yields (take_steps chunks_exact_steps) s xs t) (r : Option (Bor (List ℕ))) (u : _) (step : take_steps chunks_exact_steps t r u) where
    pub first_turn : (x : Bor (List ℕ)) → r ≡ Some x → (length xs < n) × At (raw_records way f) (length xs) x.now
    first_turn x is = let h = YieldsList-turn first_yielded xs t y r u x is step in taken_at n (raw_records way f) (length xs) x.now h.0 h.1

    pub first_end : r ≡ None → n ≤ length (raw_records way f) → length xs ≡ n
    first_end is inside = omega (arith, (YieldsList-end first_yielded xs t y r u is step).1, length-take n (raw_records way f))

-- the first n of them, numbered
module _ (way : Way) (f : List ℕ) (n : ℕ) (s : _) (e : chunks_exact_rest (take_source (enumerate_source s)) ≡ f) (q : chunks_exact_size (take_source (enumerate_source s)) ≡ record_bytes way)
    (c : take_count (enumerate_source s) ≡ n) (z : enumerate_count s ≡ 0) (xs : List (ℕ × Bor (List ℕ))) (t : _) (y : Yields (enumerate_steps (take_steps chunks_exact_steps)) s xs t)
    (r : Option (ℕ × Bor (List ℕ))) (u : _) (step : enumerate_steps (take_steps chunks_exact_steps) t r u) where
  pub nth_turn : (x : ℕ × Bor (List ℕ)) → r ≡ Some x → (x.0 ≡ length xs) × (length xs < n) × At (raw_records way f) (length xs) x.1.now
  nth_turn x is =
      let h = numbered_turn (first_yielded way f n _ e q c) z xs t y r u step x is in
      let k = taken_at n (raw_records way f) (length xs) x.1.now h.1 h.2 in
      (h.0, k.0, k.1)

  pub nth_end : r ≡ None → n ≤ length (raw_records way f) → length xs ≡ n
  nth_end is inside = omega (arith, numbered_end (first_yielded way f n _ e q c) z xs t y r u step is, length-take n (raw_records way f))

-- the first n of them beside those of another file, numbered
abbrev pairs : Way → List ℕ → List ℕ → ℕ → List (List ℕ × List ℕ)
pairs way f g n = zip (take n (raw_records way f)) (raw_records way g)

module _ (way : Way) (f g : List ℕ) (n : ℕ) (s : _) (e : chunks_exact_rest (take_source (zip_first (enumerate_source s))) ≡ f) (q : chunks_exact_size (take_source (zip_first (enumerate_source s))) ≡ record_bytes way)
    (c : take_count (zip_first (enumerate_source s)) ≡ n) (d : chunks_exact_rest (zip_second (enumerate_source s)) ≡ g) (o : chunks_exact_size (zip_second (enumerate_source s)) ≡ record_bytes way)
    (z : enumerate_count s ≡ 0) (xs : List (ℕ × (Bor (List ℕ) × Bor (List ℕ)))) (t : _) (y : Yields (enumerate_steps (zips (take_steps chunks_exact_steps) chunks_exact_steps)) s xs t)
    (r : Option (ℕ × (Bor (List ℕ) × Bor (List ℕ)))) (u : _) (step : enumerate_steps (zips (take_steps chunks_exact_steps) chunks_exact_steps) t r u) where
  pairs_yielded : YieldsList (zips (take_steps chunks_exact_steps) chunks_exact_steps) (λ p. (p.0.now, p.1.now)) (enumerate_source s) (pairs way f g n)
  pairs_yielded = YieldsList-from_zip (first_yielded way f n _ e q c) (records_yielded way g d o)

  pub pair_turn : (x : ℕ × (Bor (List ℕ) × Bor (List ℕ))) → r ≡ Some x
      → (x.0 ≡ length xs) × (length xs < n) × At (raw_records way f) (length xs) x.1.0.now × At (raw_records way g) (length xs) x.1.1.now
  pair_turn x is =
      let h = numbered_turn pairs_yielded z xs t y r u step x is in
      let both = zipped_at (take n (raw_records way f)) (raw_records way g) (length xs) (x.1.0.now, x.1.1.now) h.1 h.2 in
      let k = taken_at n (raw_records way f) (length xs) x.1.0.now both.0.inside (at_is (take n (raw_records way f)) (length xs) x.1.0.now x.1.0.now both.0) in
      (h.0, k.0, k.1, both.1)

  pub pair_end : r ≡ None → n ≤ length (raw_records way f) → n ≤ length (raw_records way g) → length xs ≡ n
  pair_end is a b =
      omega (arith, numbered_end pairs_yielded z xs t y r u step is, length-zip (take n (raw_records way f)) (raw_records way g), length-take n (raw_records way f))
