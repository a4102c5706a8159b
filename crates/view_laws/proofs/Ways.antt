-- Records with their line ends, and without them again.
-- Assumes nothing.
use mathlib.Core.Path.{◌≡◌, refl, sym, ap, ap₂, ◌∙◌, subst}
use mathlib.Core.List.{List, [], ◌∷◌, map}
use Prim.Native.Nat.{ℕ, ◌+◌, ◌*◌, ◌/◌, ◌<◌}
use native.Mathlib.Nat.{mul-div_right}
use native.Mathlib.Omega.{arith}
use lib.ListN.{length, take, get_or, set, length-append, length-map, length-take}
use Rattle.std.proofs.lemmas.List.{get_or-map}
use lib.Seq.{map-set, take_at, drop_at, length-sets, sets}
use Rattle.text.specs.Rows.{rows, joined}
use Rattle.text.specs.Widths.{AllLong}
use Rattle.text.specs.Same.{same_bytes}
use Rattle.text.proofs.DecimalLaws.{same_equal}
use Rattle.text.proofs.RowLaws.{length_joined, rows_joined, long_at}
use Rattle.text.proofs.SetLaws.{sets_left}
use Rattle.layout.specs.declared.Way.{Way}
use Rattle.layout.specs.Answers.{Checked}
use Rattle.layout.specs.Ways.{end_of, record_bytes}
use Rattle.check_sums.specs.declared.State.{State}
use Rattle.check_record.proofs.Ways.{some_bytes}
use Rattle.check_record.specs.Record.{bare, piece_of, raw_records, columns_in, run_from}
use Rattle.view.specs.View.{closed_by}
use Rattle.view_laws.proofs.Lists.{Inside, puts, further, three_puts}

-- the run over records whose line ends are right
abbrev pub bare_run : State → List (List ℕ) → Checked
bare_run st rs = run_from st (map bare rs)

-- a record of 94 columns, with its line end
pub closed_long : (way : Way) (rs : List (List ℕ)) → AllLong 94 rs → AllLong (record_bytes way) (map (closed_by way) rs)
closed_long way [] l = tt
closed_long way (r ∷ rs) l = (length-append r (end_of way) ∙ ap (λ n. n + length (end_of way)) l.0, closed_long way rs l.1)

piece_closed : (way : Way) (r : List ℕ) → length r ≡ 94 → piece_of way (closed_by way r) ≡ bare r
piece_closed way r l =
    ap₂ (λ c b. record { columns = c; closed = b }) (take_at r (end_of way) 94 l)
    (ap (λ x. same_bytes x (end_of way)) (drop_at r (end_of way) 94 l) ∙ (same_equal (end_of way) (end_of way)).1 refl)

pieces_closed : (way : Way) (rs : List (List ℕ)) → AllLong 94 rs → map (piece_of way) (map (closed_by way) rs) ≡ map bare rs
pieces_closed way [] l = refl
pieces_closed way (r ∷ rs) l = ap₂ (λ x xs. x ∷ xs) (piece_closed way r l.0) (pieces_closed way rs l.1)

columns_closed : (way : Way) (rs : List (List ℕ)) → AllLong 94 rs → map (take 94) (map (closed_by way) rs) ≡ rs
columns_closed way [] l = refl
columns_closed way (r ∷ rs) l = ap₂ (λ x xs. x ∷ xs) (take_at r (end_of way) 94 l.0) (columns_closed way rs l.1)

-- the columns of records with line ends
pub cut_long : (way : Way) (raw : List (List ℕ)) → AllLong (record_bytes way) raw → AllLong 94 (map (take 94) raw)
cut_long way [] l = tt
cut_long way (r ∷ raw) l = (simp length-take (omega (arith, l.0)), cut_long way raw l.1)

-- the file of such records, cut apart again
module _ (way : Way) (rs : List (List ℕ)) (l : AllLong 94 rs) where
  pub closed_length : length (joined (map (closed_by way) rs)) ≡ record_bytes way * length rs
  closed_length = length_joined (record_bytes way) (map (closed_by way) rs) (closed_long way rs l) ∙ ap (λ n. record_bytes way * n) (length-map rs (closed_by way))

  pub raw_closed : raw_records way (joined (map (closed_by way) rs)) ≡ map (closed_by way) rs
  raw_closed =
      let n : length (joined (map (closed_by way) rs)) / record_bytes way ≡ length (map (closed_by way) rs) =
      ap (λ x. x / record_bytes way) closed_length ∙ mul-div_right (length rs) (some_bytes way) ∙ sym (length-map rs (closed_by way)) in
      ap (λ k. rows (record_bytes way) k (joined (map (closed_by way) rs))) n ∙ rows_joined (record_bytes way) (map (closed_by way) rs) (closed_long way rs l)

  pub columns_back : columns_in way (joined (map (closed_by way) rs)) ≡ rs
  columns_back = ap (map (take 94)) raw_closed ∙ columns_closed way rs l

  pub pieces_back : map (piece_of way) (raw_records way (joined (map (closed_by way) rs))) ≡ map bare rs
  pieces_back = ap (map (piece_of way)) raw_closed ∙ pieces_closed way rs l

-- ---- texts put into columns, with line ends behind them

puts_closed : (way : Way) (r : List ℕ) (ps : List (ℕ × List ℕ)) → Inside (length r) ps → closed_by way (puts r ps) ≡ puts (closed_by way r) ps
puts_closed way r [] f = refl
puts_closed way r (p ∷ ps) f =
    let x = sets r p.0 p.1 in
    puts_closed way x ps (rw (length-sets r p.0 p.1) f.1) ∙ ap (λ y. puts y ps) (sym (sets_left r (end_of way) p.0 p.1 f.0))

inside_more : (way : Way) (ps : List (ℕ × List ℕ)) → Inside 94 ps → Inside (record_bytes way) ps
inside_more way [] f = tt
inside_more way (p ∷ ps) f = (omega (arith, f.0), inside_more way ps f.1)

-- three records with texts put in: the bytes of the file that change
module _ (way : Way) (rs : List (List ℕ)) (i j k : ℕ) (x y z : List ℕ) (ps qs us : List (ℕ × List ℕ)) (l : AllLong 94 rs) (h : i < j) (g : j < k) (m : k < length rs) (ex : get_or rs i [] ≡ x) (ey : get_or rs j [] ≡ y) (ez : get_or rs k [] ≡ z) (fp : Inside 94 ps) (fq : Inside 94 qs) (fu : Inside 94 us) where
  abbrev close : List ℕ → List ℕ
  close = closed_by way

  put : (n : ℕ) (r : List ℕ) (ts : List (ℕ × List ℕ)) → n < length rs → get_or rs n [] ≡ r → Inside 94 ts → close (puts r ts) ≡ puts (close r) ts
  put n r ts a e f = puts_closed way r ts (subst (λ w. Inside w ts) (sym (ap length (sym e) ∙ long_at 94 rs n l a)) f)

  pub closed_three : joined (map close (set (set (set rs i (puts x ps)) j (puts y qs)) k (puts z us)))
      ≡ puts (puts (puts (joined (map close rs)) (further (record_bytes way * i) ps)) (further (record_bytes way * j) qs)) (further (record_bytes way * k) us)
  closed_three =
      let one = set rs i (puts x ps) in
      let two = set one j (puts y qs) in
      ap joined
      (map-set close two k (puts z us)
      ∙ ap₂ (λ ls r. set ls k r) (map-set close one j (puts y qs)
      ∙ ap₂ (λ ls r. set ls j r) (map-set close rs i (puts x ps) ∙ ap (set (map close rs) i) (put i x ps (omega arith) ex fp)) (put j y qs (omega arith) ey fq)) (put k z us m ez fu))
      ∙ three_puts (record_bytes way) (map close rs) i j k (close x) (close y) (close z) ps qs us (closed_long way rs l) h g (rw length-map m)
      (get_or-map close rs i [] [] (omega arith) ∙ ap close ex) (get_or-map close rs j [] [] (omega arith) ∙ ap close ey) (get_or-map close rs k [] [] m ∙ ap close ez)
      (inside_more way ps fp) (inside_more way qs fq) (inside_more way us fu)
