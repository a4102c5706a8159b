-- Laws of lists, rows and sections that are no matter of payment files.
-- Assumes nothing.
use mathlib.Core.Path.{◌≡◌, refl, sym, ap, ◌∙◌}
use mathlib.Core.Bool.{true, false}
use mathlib.Core.List.{List, [], ◌∷◌, ◌++◌, map, foldr, append_assoc}
use Prim.Native.Nat.{ℕ, zero, suc, ◌+◌, ◌*◌, ◌≤◌, ◌<◌}
use native.Mathlib.Nat.{zero-add, le_of_suc-le-suc}
use Rattle.std.proofs.Common.{rules}
use native.Mathlib.Omega.{arith}
use lib.Dec.{ltb}
use lib.ListN.{length, take, drop, get_or, set, take-append-drop, length-set}
use lib.Seq.{sets, length-sets, set-set, set-get_or, get_or-set_same, get_or-set_other, set-append_left, set-append_seam, drop-drop, length-take-le}
use Rattle.text.specs.Decimal.{digits, value, render}
use Rattle.text.specs.Rows.{joined, rows, section}
use Rattle.text.specs.Widths.{AllLong, Wide, total}
use Rattle.text.proofs.DecimalLaws.{render_value}
use Rattle.text.proofs.RowLaws.{joined_rows, length_rows, long_at}
use Rattle.text.proofs.SetLaws.{patch_set, sets_left, sets_right, sets_joined, sets_whole}
use Rattle.view.specs.View.{sum_over}
use Rattle.view.specs.Sized.{All}

-- a list of length 0 is empty
pub nil_of_length : {A : Type 0} (xs : List A) → length xs ≡ 0 → xs ≡ []
nil_of_length [] h = refl
nil_of_length (x ∷ xs) h = absurd (omega arith)

-- ---- what holds of each

-- of one list behind another, and of a list's front and back
module _ {A : Type 0} (P : A → Type 0) where
  pub all_append : (xs ys : List A) → All P xs → All P ys → All P (xs ++ ys)
  all_append [] ys a b = b
  all_append (x ∷ xs) ys a b = (a.0, all_append xs ys a.1 b)

  pub all_take : (n : ℕ) (xs : List A) → All P xs → All P (take n xs)
  all_take zero xs a = tt
  all_take (suc n) [] a = tt
  all_take (suc n) (x ∷ xs) a = (a.0, all_take n xs a.1)

  pub all_drop : (n : ℕ) (xs : List A) → All P xs → All P (drop n xs)
  all_drop zero xs a = a
  all_drop (suc n) [] a = tt
  all_drop (suc n) (x ∷ xs) a = all_drop n xs a.1

-- rows of one width, as a property of each
pub long_all : (w : ℕ) (rs : List (List ℕ)) → AllLong w rs → All (λ r. length r ≡ w) rs
long_all w [] a = tt
long_all w (r ∷ rs) a = (a.0, long_all w rs a.1)

pub all_long : (w : ℕ) (rs : List (List ℕ)) → All (λ r. length r ≡ w) rs → AllLong w rs
all_long w [] a = tt
all_long w (r ∷ rs) a = (a.0, all_long w rs a.1)

-- ---- a section is read back

-- digits in front, and bytes enough behind them, are a section and what follows it
pub section_cut : (c w : ℕ) (s : List ℕ) → digits (take c s) ≡ true → c + w * value (take c s) ≤ length s
    → section c (rows w (value (take c s)) (drop c s)) ++ drop (c + w * value (take c s)) s ≡ s
section_cut c w s d h =
    let n = value (take c s) in
    let e : render c n ≡ take c s = ap (λ k. render k n) (sym (length-take-le c s (omega arith))) ∙ render_value (take c s) d in
    rw (length_rows w n (drop c s), e, joined_rows w n (drop c s), ← drop-drop (w * n) c s, append_assoc, take-append-drop, take-append-drop)

-- ---- by cases

-- less, or not, with the test's value
pub by_lt : {P : Type 0} (k n : ℕ) → (k < n → ltb k n ≡ true → P) → (n ≤ k → ltb k n ≡ false → P) → P
by_lt {P} k n f g = search rules

-- ---- one element replaced

module _ {A : Type 0} where
  -- behind the first list
  pub set_right : (xs ys : List A) (i : ℕ) (a : A) → set (xs ++ ys) (length xs + i) a ≡ xs ++ set ys i a
  set_right xs ys i a = sets_right xs ys i (a ∷ [])

  -- what holds of each holds of the others, and of the one at a place
  pub all_set : (P : A → Type 0) (l : List A) (i : ℕ) (a : A) → All P l → P a → All P (set l i a)
  all_set P [] i a h p = tt
  all_set P (x ∷ l) zero a h p = (p, h.1)
  all_set P (x ∷ l) (suc i) a h p = (h.0, all_set P l i a h.1 p)

  pub all_at : (P : A → Type 0) (l : List A) (i : ℕ) (d : A) → All P l → i < length l → P (get_or l i d)
  all_at P [] i d h g = absurd (omega arith)
  all_at P (x ∷ l) zero d h g = h.0
  all_at P (x ∷ l) (suc i) d h g = all_at P l i d h.1 (le_of_suc-le-suc g)

-- a field set in place is that field replaced
pub set_field : (ws : List ℕ) (fs : List (List ℕ)) (j : ℕ) (f : List ℕ) → Wide ws fs → j < length ws → length f ≡ get_or ws j 0
    → sets (joined fs) (total (take j ws)) f ≡ joined (set fs j f)
unfolding joined
set_field [] fs j f h g e = absurd (omega arith)
set_field (w ∷ ws) [] j f h g e = absurd h
set_field (w ∷ ws) (x ∷ fs) zero f h g e =
    sets_left x (joined fs) 0 f (omega (arith, h.0)) ∙ ap (λ l. l ++ joined fs) (sets_whole x f (e ∙ sym h.0))
set_field (w ∷ ws) (x ∷ fs) (suc j) f h g e =
    rw (← h.0, sets_right x (joined fs) (total (take j ws)) f, set_field ws fs j f h.1 (le_of_suc-le-suc g) e)

-- and the fields keep their widths
pub wide_set : (ws : List ℕ) (fs : List (List ℕ)) (j : ℕ) (f : List ℕ) → Wide ws fs → length f ≡ get_or ws j 0 → Wide ws (set fs j f)
wide_set [] [] j f h e = tt
wide_set [] (x ∷ fs) j f h e = absurd h
wide_set (w ∷ ws) [] j f h e = absurd h
wide_set (w ∷ ws) (x ∷ fs) zero f h e = (e, h.1)
wide_set (w ∷ ws) (x ∷ fs) (suc j) f h e = (h.0, wide_set ws fs j f h.1 e)

-- ---- sums

-- of one list behind another
pub sum_append : {A : Type 0} (f : A → ℕ) (xs ys : List A) → sum_over f (xs ++ ys) ≡ sum_over f xs + sum_over f ys
unfolding sum_over
sum_append f [] ys = sym (zero-add (sum_over f ys))
sum_append f (x ∷ xs) ys = rw (sum_append f xs ys) (omega arith)

-- one element replaced: the old number goes, the new one comes
pub sum_set : {A : Type 0} (f : A → ℕ) (l : List A) (i : ℕ) (a d : A) → i < length l → sum_over f (set l i a) + f (get_or l i d) ≡ sum_over f l + f a
unfolding sum_over
sum_set f [] i a d h = absurd (omega arith)
sum_set f (x ∷ l) zero a d h = omega arith
sum_set f (x ∷ l) (suc i) a d h = omega (arith, sum_set f l i a d (le_of_suc-le-suc h))

-- ---- lists of lists, one behind the other
pub fold_append : {A B : Type 0} (f : A → List B) (xs ys : List A)
    → foldr (λ x r. f x ++ r) [] (xs ++ ys) ≡ foldr (λ x r. f x ++ r) [] xs ++ foldr (λ x r. f x ++ r) [] ys
fold_append f [] ys = refl
fold_append f (x ∷ xs) ys = rw (fold_append f xs ys) (sym (append_assoc (f x) (foldr (λ y r. f y ++ r) [] xs) (foldr (λ y r. f y ++ r) [] ys)))

-- what holds of each holds of one between others, which may be another
module _ {A : Type 0} (P : A → Type 0) where
  pub all_mid : (xs : List A) (y : A) (ys : List A) → All P (xs ++ (y ∷ ys)) → P y
  all_mid [] y ys a = a.0
  all_mid (x ∷ xs) y ys a = all_mid xs y ys a.1

  pub all_swap : (xs : List A) (y z : A) (ys : List A) → All P (xs ++ (y ∷ ys)) → P z → All P (xs ++ (z ∷ ys))
  all_swap [] y z ys a p = (p, a.1)
  all_swap (x ∷ xs) y z ys a p = (a.0, all_swap xs y z ys a.1 p)

-- ---- rows replaced, and bytes set

-- a row with bytes set in it, where the rows stand one behind the other
row_sets : (w : ℕ) (rs : List (List ℕ)) (i o : ℕ) (r vs : List ℕ) → AllLong w rs → i < length rs → o + length vs ≤ w → get_or rs i [] ≡ r
    → joined (set rs i (sets r o vs)) ≡ sets (joined rs) (w * i + o) vs
row_sets w rs i o r vs l h g e = rw (← e, ← patch_set rs i o vs) (sym (sets_joined w rs i o vs l h g))

long_set : (w : ℕ) (rs : List (List ℕ)) (i : ℕ) (r : List ℕ) → AllLong w rs → length r ≡ w → AllLong w (set rs i r)
long_set w rs i r a e = all_long w (set rs i r) (all_set (λ x. length x ≡ w) rs i r (long_all w rs a) e)

-- three rows replaced
pub three_set : {A : Type 0} (h b q f : List A) (x : A) (i j : ℕ) (y z u : A) → i < length b → j < length b
    → set (set (set (h ++ (b ++ (q ++ (x ∷ f)))) (length h + i) y) (length h + j) z) (length h + (length b + length q)) u
    ≡ h ++ (set (set b i y) j z ++ (q ++ (u ∷ f)))
three_set h b q f x i j y z u g k =
    let t = q ++ (x ∷ f) in
    let c = set (set b i y) j z in
    let e : length c ≡ length b = length-set (set b i y) j z ∙ length-set b i y in
    rw (set_right h (b ++ t) i y, set-append_left b t i y g, set_right h (set b i y ++ t) j z, set-append_left (set b i y) t j z (rw length-set k), ← e, set_right h (c ++ t) (length c + length q) u, set_right c t (length q) u, set-append_seam q x f u)

-- texts put in, each at its place
abbrev pub puts : List ℕ → List (ℕ × List ℕ) → List ℕ
puts r [] = r
puts r (p ∷ ps) = puts (sets r p.0 p.1) ps

-- the same places, n further on
abbrev pub further : ℕ → List (ℕ × List ℕ) → List (ℕ × List ℕ)
further n ps = map (λ p. (n + p.0, p.1)) ps

-- they lie in the first w bytes
abbrev pub Inside : ℕ → List (ℕ × List ℕ) → Type 0
Inside w ps = All (λ p. p.0 + length p.1 ≤ w) ps

length_puts : (r : List ℕ) (ps : List (ℕ × List ℕ)) → length (puts r ps) ≡ length r
length_puts r [] = refl
length_puts r (p ∷ ps) = length_puts (sets r p.0 p.1) ps ∙ length-sets r p.0 p.1

-- texts put into a row, where the rows stand one behind the other
row_puts : (w : ℕ) (rs : List (List ℕ)) (i : ℕ) (r : List ℕ) (ps : List (ℕ × List ℕ)) → AllLong w rs → i < length rs → get_or rs i [] ≡ r → Inside w ps
    → joined (set rs i (puts r ps)) ≡ puts (joined rs) (further (w * i) ps)
row_puts w rs i r [] l h e f = ap joined (ap (set rs i) (sym e) ∙ set-get_or rs i [])
row_puts w rs i r (p ∷ ps) l h e f =
    let x = sets r p.0 p.1 in
    let n : length x ≡ w = length-sets r p.0 p.1 ∙ ap length (sym e) ∙ long_at w rs i l h in
    rw (← set-set rs i x (puts x ps), row_puts w (set rs i x) i x ps (long_set w rs i x l n) (rw length-set h) (get_or-set_same rs i x [] h) f.1, row_sets w rs i p.0 r p.1 l h f.0 e)

-- and into three rows
pub three_puts : (w : ℕ) (rs : List (List ℕ)) (i j k : ℕ) (x y z : List ℕ) (ps qs us : List (ℕ × List ℕ))
    → AllLong w rs → i < j → j < k → k < length rs → get_or rs i [] ≡ x → get_or rs j [] ≡ y → get_or rs k [] ≡ z → Inside w ps → Inside w qs → Inside w us
    → joined (set (set (set rs i (puts x ps)) j (puts y qs)) k (puts z us)) ≡ puts (puts (puts (joined rs) (further (w * i) ps)) (further (w * j) qs)) (further (w * k) us)
three_puts w rs i j k x y z ps qs us l h g m ex ey ez fp fq fu =
    let xs = puts x ps in
    let ys = puts y qs in
    let ss = set rs i xs in
    let ts = set ss j ys in
    let ss-long = long_set w rs i xs l (length_puts x ps ∙ ap length (sym ex) ∙ long_at w rs i l (omega arith)) in
    let ts-long = long_set w ss j ys ss-long (length_puts y qs ∙ ap length (sym ey) ∙ long_at w rs j l (omega arith)) in
    rw (row_puts w ts k z us ts-long (rw (length-set, length-set) m) (get_or-set_other ss j k ys [] (omega arith) ∙ get_or-set_other rs i k xs [] (omega arith) ∙ ez) fu, row_puts w ss j y qs ss-long (rw length-set (omega arith)) (get_or-set_other rs i j xs [] (omega arith) ∙ ey) fq, row_puts w rs i x ps l (omega arith) ex fp)
