-- One line of a list, and the lines behind it.
-- Assumes nothing.
use Rattle.std.specs.Prelude.{Result, Ok, Err, IfOk}
use Prim.Native.Nat.{ℕ, ◌+◌, ◌-◌, ◌<◌, ◌≤◌}
use native.Mathlib.Omega.{arith}
use mathlib.Core.Path.{◌≡◌, refl, sym, ap, ◌∙◌}
use mathlib.Core.List.{List, [], ◌∷◌}
use lib.ListN.{length, take, drop, length-drop}
use Rattle.std.proofs.lemmas.List.{take_rest}
use Rattle.std.proofs.lemmas.Result.{IfOk-at_ok}
use Rattle.layout.specs.Paper.{refusal}
use Rattle.check_record.specs.declared.Wrong.{Wrong}
use Rattle.check_record.specs.Verdict.{Verdict, verdict_of}
use Rattle.csv_cells.specs.Cells.{line_size, lines_in}
use Rattle.csv_entry.specs.Entries.{line_verdict, row_of_line, entries_of_lines}
use Rattle.csv_entry.specs.Import.{line_answer, lines_answer}
use Rattle.csv_entry.proofs.EntryLaws.{line_passed, line_inside, line_some, lines_next, lines_none, lines_count}
use Rattle.csv_import.specs.WorkListing.{rows_of}
use Rattle.csv_import.proofs.TableLaws.{first_passed}

-- the bytes behind the first n, as the code cuts them out
abbrev behind : List ℕ → ℕ → List ℕ
behind xs n = take (length xs - n) (drop n xs)

-- n bytes of xs are a line without a fault, of number k
pub record Ahead (bank xs : List ℕ) (k n : ℕ) : Type 0 where
  pub inside : (1 ≤ n) × (n ≤ length xs)
  pub rest : length (take (length xs - n) (drop n xs)) + n ≡ length xs
  pub right : lines_answer (k + 1) (lines_in (take (length xs - n) (drop n xs))) ≡ Ok tt
  pub rows : rows_of bank k (lines_in xs) ≡ row_of_line bank k xs ∷ rows_of bank (k + 1) (lines_in (take (length xs - n) (drop n xs)))

module _ (xs : List ℕ) (h : 1 ≤ length xs) where
  line_cut : (n : ℕ) → n ≡ line_size xs → lines_in xs ≡ xs ∷ lines_in (behind xs n)
  line_cut n e = lines_next xs h ∙ ap (λ m. xs ∷ lines_in (drop m xs)) (sym e) ∙ ap (λ ys. xs ∷ lines_in ys) (sym (take_rest xs n))

  line_long : (n : ℕ) → line_verdict xs ≡ Ok tt → n ≡ line_size xs → (1 ≤ n) × (n ≤ length xs) × (length (behind xs n) + n ≡ length xs)
  line_long n p e =
      let some = line_some xs h in
      let inside = line_inside xs (line_passed xs p).0 in
      (omega arith, omega arith, omega (arith, ap length (take_rest xs n), length-drop n xs))

  pub next_passed : (k : ℕ) → lines_answer k (lines_in xs) ≡ Ok tt → line_verdict xs ≡ Ok tt
  next_passed k g = (first_passed k xs (lines_in (behind xs (line_size xs))) (ap (lines_answer k) (sym (line_cut (line_size xs) refl)) ∙ g)).0

  pub line_ahead : (bank : List ℕ) (k n : ℕ) → lines_answer k (lines_in xs) ≡ Ok tt → n ≡ line_size xs → Ahead bank xs k n
  unfolding entries_of_lines
  line_ahead bank k n g e =
      let p = first_passed k xs (lines_in (behind xs n)) (ap (lines_answer k) (sym (line_cut n e)) ∙ g) in
      let l = line_long n p.0 e in
      record { inside = (l.0, l.1); rest = l.2; right = p.1; rows = ap (rows_of bank k) (line_cut n e) }

pub rows_none : (bank xs : List ℕ) (k : ℕ) → length xs ≤ 0 → rows_of bank k (lines_in xs) ≡ []
unfolding entries_of_lines
rows_none bank xs k h = ap (rows_of bank k) (lines_none xs h)

-- ---- the lines, counted

-- k lines without a fault stand before the rest
pub record Counted (lines rest : List ℕ) (k : ℕ) : Type 0 where
  pub answer : lines_answer (k + 1) (lines_in rest) ≡ lines_answer 1 (lines_in lines)
  pub many : k + length (lines_in rest) ≡ length (lines_in lines)

pub counted_start : (lines : List ℕ) → Counted lines lines 0
counted_start lines = record { answer = refl; many = omega arith }

module _ {lines rest : List ℕ} {k : ℕ} (w : Counted lines rest k) where
  pub counted_small : k ≤ length lines
  counted_small = omega (arith, w.many, lines_count lines)

  pub counted_end : length rest ≤ 0 → (Ok tt ≡ lines_answer 1 (lines_in lines)) × (k ≡ length (lines_in lines))
  unfolding lines_answer
  counted_end h =
      let none = lines_none rest h in
      (sym (ap (lines_answer (k + 1)) none) ∙ w.answer, omega (arith, w.many, ap length none))

  module _ (h : 1 ≤ length rest) where
    pub counted_fewer : k + 1 ≤ length lines
    counted_fewer = omega (arith, w.many, ap length (line_cut rest h (line_size rest) refl), lines_count lines)

    answer_by : (v : Verdict) → line_verdict rest ≡ v → (n : ℕ) → n ≡ line_size rest
        → line_answer v (k + 1) (lines_answer (k + 1 + 1) (lines_in (behind rest n))) ≡ lines_answer 1 (lines_in lines)
    unfolding lines_answer
    answer_by v e n s =
        ap (λ x. line_answer x (k + 1) (lines_answer (k + 1 + 1) (lines_in (behind rest n)))) (sym e)
        ∙ ap (lines_answer (k + 1)) (sym (line_cut rest h n s)) ∙ w.answer

    pub counted_wrong : (wrong : Wrong) → line_verdict rest ≡ Err wrong → refusal wrong.fault (k + 1) wrong.field ≡ lines_answer 1 (lines_in lines)
    counted_wrong wrong e = answer_by (Err wrong) e (line_size rest) refl

    -- a line that was tried and has no fault, of n bytes
    pub record Next (n : ℕ) : Type 0 where
      pub inside : (1 ≤ n) × (n ≤ length rest)
      pub fewer : length (take (length rest - n) (drop n rest)) < length rest
      pub counted : Counted lines (take (length rest - n) (drop n rest)) (k + 1)

    pub counted_next : (n : ℕ) (x : Result ℕ Wrong) → x ≡ Ok n → verdict_of x ≡ line_verdict rest → IfOk x (λ m. m ≡ line_size rest) → Next n
    counted_next n x ok v f =
        let passed : line_verdict rest ≡ Ok tt = sym v ∙ ap verdict_of ok in
        let s : n ≡ line_size rest = IfOk-at_ok (λ m. m ≡ line_size rest) ok f in
        let long = line_long rest h n passed s in
        record {
          inside = (long.0, long.1);
          fewer = omega (arith, long.2);
          counted = record { answer = answer_by (Ok tt) passed n s; many = omega (arith, w.many, ap length (line_cut rest h n s)) };
        }
