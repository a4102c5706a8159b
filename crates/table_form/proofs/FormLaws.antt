-- Records that are formed by putting fields into bytes of one kind.
-- Assumes the widths.
use Prim.Native.Nat.{ℕ, ◌+◌, ◌-◌, ◌/◌, ◌%◌, ◌<◌, ◌≤◌}
use native.Mathlib.Omega.{arith}
use mathlib.Core.Path.{◌≡◌, refl, sym, ap, ◌∙◌}
use mathlib.Core.List.{List, [], ◌∷◌, ◌++◌, map, append_assoc, append-nil}
use lib.Dec.{lit<, lit≤}
use lib.ListN.{length, get_or, set, take, drop, replicate, length-replicate, length-take, length-drop}
use lib.Seq.{sets, sets-eq, drop-drop, take_all, take-take, take-add}
use Rattle.text.specs.Decimal.{render}
use Rattle.text.specs.Rows.{joined}
use Rattle.text.specs.Widths.{Wide, total}
use Rattle.text.proofs.DecimalLaws.{length_render}
use Rattle.check_across.specs.declared.Sums.{Sums}
use Rattle.check_field.specs.Field.{blocks, hash_of}
use Rattle.view_laws.proofs.Lists.{set_field, wide_set, puts}
use Rattle.table_form.specs.Forms.{file_from, batch_from, entry_from, addendum_from, batch_control_from, file_control_from}
use Rattle.text.proofs.SetLaws.{drop_take, sets_append}

-- a text for each of these fields, by their numbers from 0
abbrev replaced : List (List ℕ) → List (ℕ × List ℕ) → List (List ℕ)
replaced fs [] = fs
replaced fs (p ∷ ps) = replaced (set fs p.0 p.1) ps

-- each has its field's width
abbrev Each : List ℕ → List (ℕ × List ℕ) → Type 0
Each ws [] = Unit {0}
Each ws (p ∷ ps) = (p.0 < length ws) × (length p.1 ≡ get_or ws p.0 0) × Each ws ps

-- texts put where their fields begin are those fields replaced
put_fields : (ws : List ℕ) (fs : List (List ℕ)) (ps : List (ℕ × List ℕ)) → Wide ws fs → Each ws ps
    → puts (joined fs) (map (λ p. (total (take p.0 ws), p.1)) ps) ≡ joined (replaced fs ps)
put_fields ws fs [] h e = refl
put_fields ws fs (p ∷ ps) h e =
    ap (λ x. puts x (map (λ q. (total (take q.0 ws), q.1)) ps)) (set_field ws fs p.0 p.1 h e.0 e.1)
    ∙ put_fields ws (set fs p.0 p.1) ps (wide_set ws fs p.0 p.1 h e.1) e.2

-- fields of blanks
abbrev empty : List ℕ → List (List ℕ)
empty ws = map (λ w. replicate w 32) ws

empty_wide : (ws : List ℕ) → Wide ws (empty ws)
empty_wide [] = tt
empty_wide (w ∷ ws) = (length-replicate w 32, empty_wide ws)

abbrev fresh : List ℕ
fresh = replicate 94 32

-- ---- a number put in place

pub number_put : (r ys : List ℕ) (from to n : ℕ) → from ≤ to → to ≤ length r → ys ≡ render (length (take (to - from) (drop from r))) n
    → take from r ++ (ys ++ drop (to - from) (drop from r)) ≡ sets r from (render (to - from) n)
number_put r ys from to n h g e =
    let w = to - from in
    let long : length (take w (drop from r)) ≡ w = simp (length-take, length-drop) (omega arith) in
    rw (e, long, drop-drop w from r)
    (sym (sets-eq (render w n) r from (rw length_render (omega arith)) ∙ rw (length_render w n, append_assoc (take from r) (render w n) (drop (from + w) r))))

-- ---- the records

-- record 1
pub file_formed : (row : List ℕ) → length row ≡ 85
    → sets (sets (sets (sets fresh 0 (49 ∷ 48 ∷ 49 ∷ [])) 3 (take 31 row)) 34 (48 ∷ 57 ∷ 52 ∷ 49 ∷ 48 ∷ 49 ∷ [])) 40 (take 54 (drop 31 row))
    ≡ file_from row
unfolding joined render
file_formed row h =
    let ws : List ℕ = 3 ∷ 31 ∷ 6 ∷ 54 ∷ [] in
    let front : length (take 31 row) ≡ 31 = simp length-take (omega arith) in
    let rest : length (drop 31 row) ≡ 54 = simp length-drop (omega arith) in
    let back : take 54 (drop 31 row) ≡ drop 31 row = take_all 54 (drop 31 row) (omega arith) in
    rw back
    (put_fields ws (empty ws)
    ((0, 49 ∷ 48 ∷ 49 ∷ []) ∷ (1, take 31 row) ∷ (2, 48 ∷ 57 ∷ 52 ∷ 49 ∷ 48 ∷ 49 ∷ []) ∷ (3, drop 31 row) ∷ [])
    (empty_wide ws) (lit< tt, refl, (lit< tt, front, (lit< tt, refl, (lit< tt, rest, tt)))))

-- record 5
pub batch_formed : (row : List ℕ) → length row ≡ 95
    → sets (sets (sets (sets fresh 0 (53 ∷ [])) 1 (take 74 row)) 78 (49 ∷ [])) 79 (take 15 (drop 74 row)) ≡ batch_from row
unfolding joined render
batch_formed row h =
    let ws : List ℕ = 1 ∷ 74 ∷ 3 ∷ 1 ∷ 15 ∷ [] in
    let front : length (take 74 row) ≡ 74 = simp length-take (omega arith) in
    let back : length (take 15 (drop 74 row)) ≡ 15 = simp (length-take, length-drop) (omega arith) in
    rw (take-take 74 89 row (lit≤ tt), drop_take 74 15 row)
    (put_fields ws (empty ws) ((0, 53 ∷ []) ∷ (1, take 74 row) ∷ (3, 49 ∷ []) ∷ (4, take 15 (drop 74 row)) ∷ [])
    (empty_wide ws) (lit< tt, refl, (lit< tt, front, (lit< tt, refl, (lit< tt, back, tt)))))

-- record 6
pub entry_formed : (row : List ℕ) → length row ≡ 93 → sets (replicate 94 54) 1 row ≡ entry_from row
entry_formed row h = sets-eq row (replicate 94 54) 1 (omega arith) ∙ rw (h, append-nil row)

-- record 7
pub addendum_formed : (row text : List ℕ) → length row ≡ 93 → length text ≡ 80
    → sets (sets (sets (sets fresh 0 (55 ∷ 48 ∷ 53 ∷ [])) 3 text) 83 (48 ∷ 48 ∷ 48 ∷ 49 ∷ [])) 87 (take 7 (drop 86 row)) ≡ addendum_from row text
unfolding joined render
addendum_formed row text h g =
    let ws : List ℕ = 3 ∷ 80 ∷ 4 ∷ 7 ∷ [] in
    let back : length (take 7 (drop 86 row)) ≡ 7 = simp (length-take, length-drop) (omega arith) in
    let trace : take 7 (drop 8 (take 15 (drop 78 row))) ≡ take 7 (drop 86 row) =
    ap (take 7) (drop_take 8 7 (drop 78 row)) ∙ take-take 7 7 (drop 8 (drop 78 row)) (lit≤ tt) ∙ ap (take 7) (drop-drop 8 78 row) in
    rw trace
    (put_fields ws (empty ws) ((0, 55 ∷ 48 ∷ 53 ∷ []) ∷ (1, text) ∷ (2, 48 ∷ 48 ∷ 48 ∷ 49 ∷ []) ∷ (3, take 7 (drop 86 row)) ∷ [])
    (empty_wide ws) (lit< tt, refl, (lit< tt, g, (lit< tt, refl, (lit< tt, back, tt)))))

-- record 8
pub batch_control_formed : (s : Sums) (h : List ℕ) → length h ≡ 94
    → sets (sets (sets (sets (sets (sets (sets (sets fresh 0 (56 ∷ [])) 1 (take 3 (drop 1 h))) 4 (render 6 s.batchrecords))
    10 (render 10 (s.batchhash % 10000000000))) 20 (render 12 s.batchdebit)) 32 (render 12 s.batchcredit))
    44 (take 10 (drop 40 h))) 79 (take 15 (drop 79 h)) ≡ batch_control_from s h
unfolding joined
batch_control_formed s h l =
    let ws : List ℕ = 1 ∷ 3 ∷ 6 ∷ 10 ∷ 12 ∷ 12 ∷ 10 ∷ 19 ∷ 6 ∷ 8 ∷ 7 ∷ [] in
    let cut : (w at : ℕ) → at + w ≤ 94 → length (take w (drop at h)) ≡ w = λ w at m. simp (length-take, length-drop) (omega arith) in
    let back : take 15 (drop 79 h) ≡ take 8 (drop 79 h) ++ take 7 (drop 87 h) = take-add 8 7 (drop 79 h) ∙ ap (λ l. take 8 (drop 79 h) ++ take 7 l) (drop-drop 8 79 h) in
    rw (back, sets_append, cut 8 79 (lit≤ tt))
    (put_fields ws (empty ws)
    ((0, 56 ∷ []) ∷ (1, take 3 (drop 1 h)) ∷ (2, render 6 s.batchrecords) ∷ (3, render 10 (hash_of s.batchhash))
    ∷ (4, render 12 s.batchdebit) ∷ (5, render 12 s.batchcredit) ∷ (6, take 10 (drop 40 h)) ∷ (9, take 8 (drop 79 h))
    ∷ (10, take 7 (drop 87 h)) ∷ [])
    (empty_wide ws) (
      lit< tt,
      refl,
      (
        lit< tt,
        cut 3 1 (lit≤ tt),
        (
          lit< tt,
          length_render 6 _,
          (
            lit< tt,
            length_render 10 _,
            (
              lit< tt,
              length_render 12 _,
              (lit< tt, length_render 12 _, (lit< tt, cut 10 40 (lit≤ tt), (lit< tt, cut 8 79 (lit≤ tt), (lit< tt, cut 7 87 (lit≤ tt), tt)))),
            ),
          ),
        ),
      ),
    ))

-- record 9
pub file_control_formed : (s : Sums)
    → sets (sets (sets (sets (sets (sets (sets fresh 0 (57 ∷ [])) 1 (render 6 s.batches)) 7 (render 6 ((s.records + 1 + 9) / 10)))
    13 (render 8 (s.entries + s.addenda))) 21 (render 10 (s.hash % 10000000000))) 31 (render 12 s.debit)) 43 (render 12 s.credit)
    ≡ file_control_from s
unfolding joined
file_control_formed s =
    let ws : List ℕ = 1 ∷ 6 ∷ 6 ∷ 8 ∷ 10 ∷ 12 ∷ 12 ∷ 39 ∷ [] in
    put_fields ws (empty ws)
    ((0, 57 ∷ []) ∷ (1, render 6 s.batches) ∷ (2, render 6 (blocks (s.records + 1))) ∷ (3, render 8 (s.entries + s.addenda))
    ∷ (4, render 10 (hash_of s.hash)) ∷ (5, render 12 s.debit) ∷ (6, render 12 s.credit) ∷ [])
    (empty_wide ws) (
      lit< tt,
      refl,
      (
        lit< tt,
        length_render 6 _,
        (
          lit< tt,
          length_render 6 _,
          (
            lit< tt,
            length_render 8 _,
            (
              lit< tt,
              length_render 10 _,
              (lit< tt, length_render 12 _, (lit< tt, length_render 12 _, tt)),
            ),
          ),
        ),
      ),
    )
