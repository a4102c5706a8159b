-- A field in quotes is read back: where it stops, what it says, and the columns that it fills.
-- Assumes nothing but that the bytes are 0x20 to 0x7E, and the amount's digits.
use Prim.Native.Nat.{ℕ, suc, ◌+◌, ◌-◌, ◌*◌, ◌^◌, ◌≤◌, ◌<◌}
use native.Mathlib.Nat.{zero-add}
use native.Mathlib.Omega.{arith}
use mathlib.Core.Path.{◌≡◌, refl, sym, ap, ap₂, ◌∙◌}
use mathlib.Core.Logic.{◌⊎◌, inl, inr, ⊎_elim}
use mathlib.Core.Bool.{Bool, true, false, ◌&&◌}
use mathlib.Core.List.{List, [], ◌∷◌, ◌++◌, append_assoc}
use borrow.Author.Tests.{leb-true, leb-false, ltb-true, eqb-true, le-leb, eq-eqb, ne_eqb, eqb-false}
use lib.Dec.{leb, ltb, eqb}
use lib.ListN.{length, get_or, take, drop, replicate, length-append, length-take, length-drop, take-append-drop}
use lib.Seq.{take_at, drop-append-add, get_or_at}
use Rattle.text.specs.Decimal.{pick, every, is_digit, digits, digit_of, value_from, value, render}
use Rattle.text.proofs.DecimalLaws.{and_both, both_and, every_take, every_drop, value_append, value_from_lem, value_lt, render_value}
use Rattle.csv_cells.specs.declared.Scan.{Scan}
use Rattle.csv_cells.specs.Cells.{is_quoted_data, size_from, ends_from, cell_of, inner_of, undoubled, text_of, filled_to}
use Rattle.csv_entry.specs.Entries.{amount_form, cents_in, amount_right}
use Rattle.csv_export.specs.Quoting.{in_front, trimmed, escaped, doubled, quoted, unpadded, amount_text}
use Rattle.csv_export.proofs.FieldLaws.{quoted_size}

-- "bytes 0x20 to 0x7E"
abbrev pub is_printable : ℕ → Bool
is_printable b = leb 32 b && leb b 126

-- ---- where it stops

-- every such byte but the quote may stand between quotes
quoted_data : (b : ℕ) → is_printable b ≡ true → (b ≡ 34 → ⊥) → is_quoted_data b ≡ true
quoted_data b t d =
    let r = and_both (leb 32 b) (leb b 126) t in
    go (leb-true 32 b r.0) (leb-true b 126 r.1) (leb b 33) refl (leb 35 b) refl (leb b 43) refl (leb 45 b) refl
  where
    go : 32 ≤ b → b ≤ 126 → (u : Bool) → leb b 33 ≡ u → (v : Bool) → leb 35 b ≡ v → (w : Bool) → leb b 43 ≡ w → (x : Bool) → leb 45 b ≡ x → is_quoted_data b ≡ true
    go l h true e v f w g x i = rw (le-leb 32 b l, e) refl
    go l h false e false f w g x i = absurd (d (omega (arith, leb-false b 33 e, leb-false 35 b f)))
    go l h false e true f true g x i = rw (le-leb 32 b l, e, f, g) refl
    go l h false e true f false g true i = rw (le-leb 32 b l, e, f, g, i, le-leb b 126 h) refl
    go l h false e true f false g false i =
        let same : b ≡ 44 = omega (arith, leb-false b 43 g, leb-false 45 b i) in
        rw same refl

scan_byte : (b : ℕ) (zs : List ℕ) → is_printable b ≡ true
    → (size_from Scan.Quoted (escaped b ++ zs) ≡ length (escaped b) + size_from Scan.Quoted zs) × (ends_from Scan.Quoted (escaped b ++ zs) ≡ ends_from Scan.Quoted zs)
unfolding size_from ends_from
scan_byte b zs t = go (eqb b 34) refl
  where
    go : (x : Bool) → eqb b 34 ≡ x
        → (size_from Scan.Quoted (escaped b ++ zs) ≡ length (escaped b) + size_from Scan.Quoted zs) × (ends_from Scan.Quoted (escaped b ++ zs) ≡ ends_from Scan.Quoted zs)
    go true e = (rw e (omega arith), rw e refl)
    go false e = (rw (e, e, quoted_data b t (eqb-false b 34 e)) refl, rw (e, e, quoted_data b t (eqb-false b 34 e)) refl)

scan_inside : (p ys : List ℕ) → every is_printable p ≡ true
    → (size_from Scan.Quoted (doubled p ++ ys) ≡ length (doubled p) + size_from Scan.Quoted ys) × (ends_from Scan.Quoted (doubled p ++ ys) ≡ ends_from Scan.Quoted ys)
unfolding doubled every
scan_inside [] ys t = (sym (zero-add _), refl)
scan_inside (b ∷ p) ys t =
    let r = and_both (is_printable b) (every is_printable p) t in
    let here = scan_byte b (doubled p ++ ys) r.0 in
    let more = scan_inside p ys r.1 in
    let cut = append_assoc (escaped b) (doubled p) ys in (
      ap (size_from Scan.Quoted) cut ∙ omega (arith, here.0, more.0, length-append (escaped b) (doubled p)),
      ap (ends_from Scan.Quoted) cut ∙ here.1 ∙ more.1,
    )

scan_close : (rest : List ℕ) → (get_or rest 0 0 ≡ 34 → ⊥) → (size_from Scan.Quote rest ≡ 0) × (ends_from Scan.Quote rest ≡ true)
unfolding size_from ends_from
scan_close [] q = (refl, refl)
scan_close (r ∷ rs) q = (rw (ne_eqb r 34 q) refl, rw (ne_eqb r 34 q) refl)

-- a field in quotes, with anything but a quote behind it
module _ (p rest : List ℕ) (t : every is_printable p ≡ true) (q : get_or rest 0 0 ≡ 34 → ⊥) where
  cell_size : size_from Scan.Fresh (34 ∷ (doubled p ++ (34 ∷ rest))) ≡ length (quoted p)
  unfolding size_from
  cell_size = omega (arith, (scan_inside p (34 ∷ rest) t).0, (scan_close rest q).0, quoted_size p)

  cell_whole : ends_from Scan.Fresh (34 ∷ (doubled p ++ (34 ∷ rest))) ≡ true
  unfolding ends_from
  cell_whole = (scan_inside p (34 ∷ rest) t).1 ∙ (scan_close rest q).1

  pub cell_back : cell_of (quoted p ++ rest) ≡ record { size = length (quoted p); whole = true }
  cell_back =
      ap (λ l. cell_of (34 ∷ l)) (append_assoc (doubled p) (34 ∷ []) rest) ∙ ap₂ (λ n b. record { size = n; whole = b }) cell_size cell_whole

-- ---- what it says

undoubled_doubled : (p : List ℕ) → undoubled false (doubled p) ≡ p
unfolding undoubled doubled
undoubled_doubled [] = refl
undoubled_doubled (b ∷ p) = go (undoubled_doubled p) (eqb b 34) refl
  where
    go : undoubled false (doubled p) ≡ p → (x : Bool) → eqb b 34 ≡ x → undoubled false (escaped b ++ doubled p) ≡ b ∷ p
    go more true e = rw e (ap₂ (λ c l. c ∷ l) (sym (eqb-true b 34 e)) more)
    go more false e = rw (e, e) (ap (λ l. b ∷ l) more)

pub text_back : (p : List ℕ) → text_of (quoted p) ≡ p
text_back p =
    let inner : inner_of (quoted p) ≡ doubled p = take_at (doubled p) (34 ∷ []) (length (quoted p) - 2) (omega (arith, quoted_size p)) in
    ap (undoubled false) inner ∙ undoubled_doubled p

-- ---- the columns that it fills

front_filled : (b : ℕ) (bs t : List ℕ) → filled_to (length bs) t ≡ bs → filled_to (length (b ∷ bs)) (in_front b t) ≡ b ∷ bs
front_filled b bs [] h = go (eqb b 32) refl
  where
    go : (x : Bool) → eqb b 32 ≡ x → filled_to (length (b ∷ bs)) (pick x [] (b ∷ [])) ≡ b ∷ bs
    go true e =
        let n : suc (length bs) - 0 ≡ suc (length bs - 0) = omega arith in
        ap (λ k. replicate k 32) n ∙ ap₂ (λ c l. c ∷ l) (sym (eqb-true b 32 e)) h
    go false e =
        let n : suc (length bs) - 1 ≡ length bs - 0 = omega arith in
        ap (λ k. b ∷ replicate k 32) n ∙ ap (λ l. b ∷ l) h
front_filled b bs (c ∷ cs) h =
    let n : suc (length bs) - suc (suc (length cs)) ≡ length bs - suc (length cs) = omega arith in
    ap (λ k. b ∷ c ∷ cs ++ replicate k 32) n ∙ ap (λ l. b ∷ l) h

pub filled_back : (p : List ℕ) → filled_to (length p) (trimmed p) ≡ p
unfolding trimmed
filled_back [] = refl
filled_back (b ∷ p) = front_filled b p (trimmed p) (filled_back p)

-- ---- the amount

-- a leading zero goes, or nothing
zero_or_not : (x : ℕ) (xs : List ℕ) → (unpadded (x ∷ xs) ≡ x ∷ xs) ⊎ ((x ≡ 48) × (0 < length xs) × (unpadded (x ∷ xs) ≡ unpadded xs))
unfolding unpadded
zero_or_not x xs = go (eqb x 48 && ltb 0 (length xs)) refl
  where
    go : (b : Bool) → (eqb x 48 && ltb 0 (length xs)) ≡ b → (unpadded (x ∷ xs) ≡ x ∷ xs) ⊎ ((x ≡ 48) × (0 < length xs) × (unpadded (x ∷ xs) ≡ unpadded xs))
    go true e =
        let r = and_both (eqb x 48) (ltb 0 (length xs)) e in
        inr (eqb-true x 48 r.0, ltb-true 0 (length xs) r.1, rw e)
    go false e = inl (rw e)

unpadded_some : (xs : List ℕ) → 1 ≤ length xs → 1 ≤ length (unpadded xs)
unpadded_some [] h = absurd (omega arith)
unpadded_some (x ∷ xs) h = ⊎_elim (λ e. rw e h) (λ e. rw e.2 (unpadded_some xs e.1)) (zero_or_not x xs)

pub unpadded_every : (f : ℕ → Bool) (xs : List ℕ) → every f xs ≡ true → every f (unpadded xs) ≡ true
unfolding every unpadded
unpadded_every f [] h = refl
unpadded_every f (x ∷ xs) h =
    ⊎_elim (λ e. ap (every f) e ∙ h) (λ e. ap (every f) e.2 ∙ unpadded_every f xs (and_both (f x) (every f xs) h).1) (zero_or_not x xs)

unpadded_value : (xs : List ℕ) → value (unpadded xs) ≡ value xs
unfolding unpadded value_from
unpadded_value [] = refl
unpadded_value (x ∷ xs) =
    ⊎_elim (λ e. ap value e) (λ e. ap value e.2 ∙ unpadded_value xs ∙ ap (λ c. value_from (0 * 10 + digit_of c) xs) (sym e.0)) (zero_or_not x xs)

module _ (p : List ℕ) (l : length p ≡ 10) (d : digits p ≡ true) where
  size : length (amount_text p) ≡ length (unpadded (take 8 p)) + 3
  size = omega (arith, length-append (unpadded (take 8 p)) (46 ∷ drop 8 p), length-drop 8 p)

  dollars_back : take (length (amount_text p) - 3) (amount_text p) ≡ unpadded (take 8 p)
  dollars_back = take_at (unpadded (take 8 p)) (46 ∷ drop 8 p) (length (amount_text p) - 3) (omega (arith, size))

  point_back : get_or (amount_text p) (length (amount_text p) - 3) 0 ≡ 46
  point_back = get_or_at (unpadded (take 8 p)) 46 (drop 8 p) 0 (length (amount_text p) - 3) (omega (arith, size))

  cents_back : drop (length (amount_text p) - 2) (amount_text p) ≡ drop 8 p
  cents_back =
      let n : length (amount_text p) - 2 ≡ length (unpadded (take 8 p)) + 1 = omega (arith, size) in
      ap (λ k. drop k (amount_text p)) n ∙ drop-append-add (unpadded (take 8 p)) (46 ∷ drop 8 p) 1

  pub form_back : amount_form (amount_text p) ≡ true
  form_back =
      let some = unpadded_some (take 8 p) (omega (arith, length-take 8 p)) in
      both_and (both_and (both_and
      (le-leb 4 (length (amount_text p)) (omega (arith, size, some)))
      (ap digits dollars_back ∙ unpadded_every is_digit (take 8 p) (every_take is_digit 8 p d)))
      (eq-eqb (get_or (amount_text p) (length (amount_text p) - 3) 0) 46 point_back))
      (ap digits cents_back ∙ every_drop is_digit 8 p d)

  pub value_back : cents_in (amount_text p) ≡ value p
  value_back =
      let two : length (drop 8 p) ≡ 2 = omega (arith, length-drop 8 p) in
      let whole : value p ≡ value (take 8 p) * 100 + value (drop 8 p) =
      ap value (sym (take-append-drop 8 p)) ∙ value_append 0 (take 8 p) (drop 8 p) ∙ value_from_lem (value (take 8 p)) (drop 8 p)
      ∙ ap (λ n. value (take 8 p) * 10 ^ n + value (drop 8 p)) two in
      ap₂ (λ x y. value x * 100 + value y) dollars_back cents_back
      ∙ ap (λ n. n * 100 + value (drop 8 p)) (unpadded_value (take 8 p))
      ∙ sym whole

  pub right_back : amount_right (amount_text p) ≡ true
  right_back =
      let few : value p < 10 ^ 10 = rw l at (value_lt p) in
      both_and form_back (le-leb (cents_in (amount_text p)) 9999999999 (omega (arith, value_back, few)))

  pub digits_back : render 10 (cents_in (amount_text p)) ≡ p
  digits_back = ap (render 10) value_back ∙ ap (λ n. render n (value p)) (sym l) ∙ render_value p d
