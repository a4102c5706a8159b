-- The walk along a file's records, chunk by chunk, that looks for the one with a given first byte.
-- Assumes nothing.
use mathlib.Core.Path.{◌≡◌, refl, sym, ap, ap₂, ◌∙◌}
use mathlib.Core.List.{List, [], ◌∷◌, ◌++◌, map}
use Prim.Native.Nat.{ℕ, zero, suc, ◌+◌, ◌-◌, ◌*◌, ◌/◌, ◌≤◌, ◌<◌}
use native.Mathlib.Nat.{mul-zero}
use native.Mathlib.Numerals.{add-one}
use native.Mathlib.Omega.{arith}
use borrow.Author.Tests.{eq-eqb, ne_eqb}
use lib.Dec.{lit<}
use lib.ListN.{length, take, drop, get_or, length-map, length-drop}
use lib.Seq.{drop-cons, drop-drop, length-take-le, get_or-take}
use Rattle.std.proofs.lemmas.List.{take_rest, take-append-drop}
use Rattle.text.proofs.RowLaws.{length_rows}
use Rattle.layout.specs.declared.Way.{Way}
use Rattle.layout.specs.Ways.{record_bytes}
use Rattle.check_record.specs.Record.{raw_records, columns_in}
use Rattle.check_record.proofs.Ways.{raw_chunk, raw_none}
use Rattle.find_entry.specs.WorkFind.{nth_of}
use Rattle.find_entry.proofs.Parts.{starts, on}

-- ---- the records of a file, and of what is left of it

-- as many as the file has
pub many : (way : Way) (f : List ℕ) → length (columns_in way f) ≡ length f / record_bytes way
many way f = length-map (raw_records way f) (take 94) ∙ length_rows (record_bytes way) (length f / record_bytes way) f

-- the records from i on are record i and those behind it
pub here : (way : Way) (f : List ℕ) (i : ℕ) → i < length f / record_bytes way → drop i (columns_in way f) ≡ get_or (columns_in way f) i [] ∷ drop (i + 1) (columns_in way f)
here way f i h = rw add-one (drop-cons (columns_in way f) i [] (rw (many way f) h))

-- a chunk is a record, and what stands behind it are the others
pub columns_chunk : (way : Way) (x rest : List ℕ) → length x ≡ record_bytes way → columns_in way (x ++ rest) ≡ take 94 x ∷ columns_in way rest
columns_chunk way x rest l = ap (map (take 94)) (raw_chunk way x rest l)

pub columns_none : (way : Way) (rest : List ℕ) → length rest < record_bytes way → columns_in way rest ≡ []
columns_none way rest h = ap (map (take 94)) (raw_none way rest h)

-- the file cut off behind i records has the others
pub columns_from : (way : Way) (f : List ℕ) (i : ℕ) → i ≤ length f / record_bytes way → columns_in way (drop (record_bytes way * i) f) ≡ drop i (columns_in way f)
columns_from way f zero h = rw mul-zero refl
columns_from way f (suc i) h =
    let w = record_bytes way in
    let r = drop (w * i) f in
    let one : suc i ≡ i + 1 = omega arith in
    let room : w ≤ length r = rw length-drop (omega (arith, on way i, ap (λ n. w * n) one, starts way (length f) (suc i) h)) in
    let on_f : drop w r ≡ drop (w * suc i) f = drop-drop w (w * i) f ∙ ap (λ n. drop n f) (on way i ∙ ap (λ n. w * n) (sym one)) in
    let cut : columns_in way r ≡ take 94 (take w r) ∷ columns_in way (drop w r) = ap (columns_in way) (sym (take-append-drop w r)) ∙ columns_chunk way (take w r) (drop w r) (length-take-le w r room) in
    ap (columns_in way) (sym on_f) ∙ ap (drop 1) (sym cut ∙ columns_from way f i (omega (arith, h))) ∙ drop-drop 1 i (columns_in way f) ∙ ap (λ n. drop n (columns_in way f)) (sym one)

-- ---- the one that is looked for

-- n records from index `from` on were looked at, and `rest` is what stands behind them: record number `left` is still to be found there
pub record Looking (way : Way) (f : List ℕ) (from b k left n wide : ℕ) (rest : List ℕ) : Type 0 where
  pub size : wide ≡ record_bytes way
  pub all : from + n + length (columns_in way rest) ≡ length f / record_bytes way
  pub sought : n + nth_of b left (columns_in way rest) ≡ nth_of b k (drop from (columns_in way f))

module _ {way : Way} {f : List ℕ} {from b k left n wide : ℕ} {rest : List ℕ} (t : Looking way f from b k left n wide rest) where
  -- the next record is x
  module _ (x tail : List ℕ) (e : rest ≡ x ++ tail) (l : length x ≡ wide) where
    next : columns_in way rest ≡ take 94 x ∷ columns_in way tail
    next = ap (columns_in way) e ∙ columns_chunk way x tail (l ∙ t.size)

    first : get_or (take 94 x) 0 0 ≡ get_or x 0 0
    first = get_or-take 94 x 0 0 (lit< tt)

    one_on : (m : ℕ) → nth_of b left (columns_in way rest) ≡ 1 + nth_of b m (columns_in way tail) → Looking way f from b k m (n + 1) wide tail
    one_on m s =
        record {
          size = t.size;
          all = omega (arith, t.all, ap length next);
          sought = omega (arith, t.sought, s);
        }

    -- it is the one that is looked for
    pub found_at : get_or x 0 0 ≡ b → left ≡ 0 → from + n ≡ from + nth_of b k (drop from (columns_in way f))
    unfolding nth_of
    found_at h z =
        let none : nth_of b left (columns_in way rest) ≡ 0 = rw (next, first, eq-eqb (get_or x 0 0) b h, z) in
        omega (arith, t.sought, none)

    -- it is one of those before it
    pub one_less : get_or x 0 0 ≡ b → (left ≡ 0 → ⊥) → Looking way f from b k (left - 1) (n + 1) wide tail
    unfolding nth_of
    one_less h z = one_on (left - 1) (rw (next, first, eq-eqb (get_or x 0 0) b h, ne_eqb left 0 z))

    -- it is another
    pub none_less : (get_or x 0 0 ≡ b → ⊥) → Looking way f from b k left (n + 1) wide tail
    unfolding nth_of
    none_less h = one_on left (rw (next, first, ne_eqb (get_or x 0 0) b h))

  -- no record is left
  pub at_end : length rest < wide → length f / record_bytes way ≡ from + nth_of b k (drop from (columns_in way f))
  unfolding nth_of
  at_end h =
      let none = columns_none way rest (omega (arith, h, t.size)) in
      omega (arith, t.all, t.sought, ap length none, ap (nth_of b left) none)

-- before the first record: the code cuts the file off there
pub look_first : (way : Way) (f : List ℕ) (from b k : ℕ) {n wide w : ℕ} {rest : List ℕ} → w ≡ record_bytes way → wide ≡ w → n ≡ 0
    → rest ≡ take (length f - w * from) (drop (w * from) f) → from ≤ length f / record_bytes way → Looking way f from b k k n wide rest
look_first way f from b k {n} {wide} {w} {rest} e s z r h =
    let left : columns_in way rest ≡ drop from (columns_in way f) = ap (columns_in way) (r ∙ take_rest f (w * from) ∙ ap (λ m. drop (m * from) f) e) ∙ columns_from way f from h in
    record {
      size = s ∙ e;
      all = omega (arith, h, z, ap length left, length-drop from (columns_in way f), many way f);
      sought = rw (left, z) (omega arith);
    }
