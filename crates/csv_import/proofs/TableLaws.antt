-- The table that imported lines become: how long it is, where its parts stand, and what its counts say.
-- Assumes that the two rows have their lengths and that no line has a fault.
use Rattle.std.specs.Prelude.{Ok, Err}
use Prim.Native.Nat.{ℕ, suc, ◌+◌, ◌*◌, ◌^◌, ◌<◌, ◌≤◌}
use native.Mathlib.Omega.{arith}
use mathlib.Core.Path.{◌≡◌, refl, sym, ap, ◌∙◌}
use mathlib.Core.Bool.{false}
use mathlib.Core.List.{List, [], ◌∷◌, ◌++◌, map, append_assoc, append-nil}
use lib.Dec.{eqb, lit<}
use lib.ListN.{length, get_or, take, drop, length-append, length-drop, length-map}
use lib.Seq.{take_all, drop-append-add, length-take-le}
use Rattle.text.specs.Decimal.{pick, render}
use Rattle.text.specs.Rows.{joined, section}
use Rattle.text.specs.Widths.{AllLong}
use Rattle.text.proofs.DecimalLaws.{length_render}
use Rattle.text.proofs.RowLaws.{length_joined, section_count, section_rest}
use Rattle.check_order.specs.Order.{takes_addendum}
use Rattle.check_record.specs.Verdict.{Verdict}
use Rattle.view.specs.View.{Entry, View}
use Rattle.view.specs.Table.{count_wide, file_wide, head_wide, batch_wide, entry_wide, batch_row, table_bytes, count_of, batch_part, entry_part, addendum_part}
use Rattle.view.specs.Sized.{All, SizedEntry, Sized}
use Rattle.view_laws.proofs.Answers.{not_granted}
use Rattle.view_laws.proofs.Tables.{texts_in, rows_of_entries, entry_sections, entry_part_lem}
use Rattle.csv_cells.specs.Cells.{six_texts, lines_in}
use Rattle.csv_entry.specs.Entries.{line_verdict, all_columns, rest_of_row, row_of_line, entries_of_lines}
use Rattle.csv_entry.specs.Import.{line_answer, lines_answer, bank_in, import_view, import_table}
use Rattle.csv_entry.proofs.EntryLaws.{six_long, line_passed}
use Rattle.csv_import.specs.WorkListing.{front_bytes, batch_bytes, head_bytes, rows_of, rows_bytes}

-- ---- the lines, one by one

-- where no line has a fault the first has none, nor have those behind it
pub first_passed : (k : ℕ) (l : List ℕ) (ls : List (List ℕ)) → lines_answer k (l ∷ ls) ≡ Ok tt
    → (line_verdict l ≡ Ok tt) × (lines_answer (k + 1) ls ≡ Ok tt)
unfolding lines_answer
first_passed k l ls e = go (line_verdict l) e
  where
    go : (v : Verdict) → line_answer v k (lines_answer (k + 1) ls) ≡ Ok tt → (v ≡ Ok tt) × (lines_answer (k + 1) ls ≡ Ok tt)
    go (Ok _) f = (refl, f)
    go (Err wrong) f = not_granted f

pub entries_many : (bank : List ℕ) (k : ℕ) (ls : List (List ℕ)) → length (entries_of_lines bank k ls) ≡ length ls
unfolding entries_of_lines
entries_many bank k [] = refl
entries_many bank k (l ∷ ls) = ap suc (entries_many bank (k + 1) ls)

rows_many : (bank : List ℕ) (k : ℕ) (ls : List (List ℕ)) → length (rows_of bank k ls) ≡ length ls
rows_many bank k ls = length-map (entries_of_lines bank k ls) (λ e. e.row) ∙ entries_many bank k ls

pub no_addenda : (bank : List ℕ) (k : ℕ) (ls : List (List ℕ)) → texts_in (entries_of_lines bank k ls) ≡ []
unfolding entries_of_lines
no_addenda bank k [] = refl
no_addenda bank k (l ∷ ls) = no_addenda bank (k + 1) ls

-- ---- their sizes

-- the part of a row that no line holds
rest_long : (bank : List ℕ) (k : ℕ) → length bank ≡ 8 → length (rest_of_row bank k) ≡ 18
unfolding joined
rest_long bank k l = omega (arith, length-append bank (render 7 k ++ []), length-append (render 7 k) [], length_render 7 k)

-- its column 79 is '0'
none_due : (bank : List ℕ) (k : ℕ) (six : List ℕ) → length six ≡ 75 → takes_addendum (54 ∷ (six ++ rest_of_row bank k)) ≡ false
unfolding joined
none_due bank k six l =
    let at : 77 ≡ length six + 2 = omega arith in
    let flag : drop 77 (six ++ rest_of_row bank k) ≡ drop 2 (rest_of_row bank k) =
    ap (λ n. drop n (six ++ rest_of_row bank k)) at ∙ drop-append-add six (rest_of_row bank k) 2 in
    ap (λ r. eqb (get_or (take 1 r) 0 0) 49) flag

-- so the entry takes no addendum
plain_row : (bank : List ℕ) (k : ℕ) (xs : List ℕ) → line_verdict xs ≡ Ok tt → takes_addendum (54 ∷ row_of_line bank k xs) ≡ false
plain_row bank k xs e = none_due bank k (joined (all_columns 1 (six_texts xs))) (six_long xs (line_passed xs e).1)

pub plain_rows : (bank : List ℕ) (k : ℕ) (ls : List (List ℕ)) → lines_answer k ls ≡ Ok tt → All (λ row. takes_addendum (54 ∷ row) ≡ false) (rows_of bank k ls)
unfolding entries_of_lines
plain_rows bank k [] e = tt
plain_rows bank k (l ∷ ls) e = let p = first_passed k l ls e in (plain_row bank k l p.0, plain_rows bank (k + 1) ls p.1)

module _ (bank : List ℕ) (b : length bank ≡ 8) where
  pub row_long : (k : ℕ) (xs : List ℕ) → line_verdict xs ≡ Ok tt → length (row_of_line bank k xs) ≡ entry_wide
  row_long k xs e =
      let six = joined (all_columns 1 (six_texts xs)) in
      length-append six (rest_of_row bank k) ∙ omega (arith, six_long xs (line_passed xs e).1, rest_long bank k b)

  entry_sized : (k : ℕ) (xs : List ℕ) → line_verdict xs ≡ Ok tt → SizedEntry (record { row = row_of_line bank k xs; addenda = [] })
  entry_sized k xs e =
      record {
        long = row_long k xs e;
        texts = tt;
        due = sym (ap (λ y. pick y 1 0) (plain_row bank k xs e));
      }

  entries_sized : (k : ℕ) (ls : List (List ℕ)) → lines_answer k ls ≡ Ok tt → All SizedEntry (entries_of_lines bank k ls)
  unfolding entries_of_lines
  entries_sized k [] e = tt
  entries_sized k (l ∷ ls) e = let p = first_passed k l ls e in (entry_sized k l p.0, entries_sized (k + 1) ls p.1)

  rows_long : (k : ℕ) (ls : List (List ℕ)) → lines_answer k ls ≡ Ok tt → AllLong entry_wide (rows_of bank k ls)
  rows_long k ls e = rows_of_entries (entries_of_lines bank k ls) (entries_sized k ls e)

  rows_size : (k : ℕ) (ls : List (List ℕ)) → lines_answer k ls ≡ Ok tt → length (rows_bytes bank k ls) ≡ 93 * length ls
  rows_size k ls e = length_joined entry_wide (rows_of bank k ls) (rows_long k ls e) ∙ ap (λ n. 93 * n) (rows_many bank k ls)

-- ---- the table of one batch whose entries have no addenda

abbrev pub one_batch : List ℕ → List ℕ → List Entry → View
one_batch filerow head es = record { row = filerow; batches = record { row = head; entries = es } ∷ [] }

pub one_sized : (filerow head : List ℕ) (es : List Entry) → length filerow ≡ file_wide → length head ≡ head_wide → All SizedEntry es → length es < 10 ^ count_wide → texts_in es ≡ []
    → Sized (one_batch filerow head es)
one_sized filerow head es f h a few none =
    record {
      long = f;
      each = (record { long = h; each = a }, tt);
      batches = lit< tt;
      entries = rw append-nil few;
      addenda = rw (append-nil, none) (lit< tt);
    }

one_form : (filerow head : List ℕ) (es : List Entry) → texts_in es ≡ []
    → table_bytes (one_batch filerow head es)
    ≡ (render count_wide 1 ++ (filerow ++ render count_wide 1)) ++ (((head ++ render count_wide (length es)) ++ render count_wide (length es)) ++ (joined (map (λ e. e.row) es) ++ render count_wide 0))
unfolding joined
one_form filerow head es none =
    let one = render count_wide 1 in
    let n = render count_wide (length es) in
    let rs = joined (map (λ (e : Entry). e.row) es) in
    let end = render count_wide 0 in
    rw (append-nil es, none, length-map es (λ e. e.row), append-nil filerow, append-nil (head ++ n), append-nil end)
    (append_assoc one filerow ((one ++ (head ++ n)) ++ ((n ++ rs) ++ end))
    ∙ rw (append_assoc one (head ++ n) ((n ++ rs) ++ end), append_assoc n rs end, append_assoc one (filerow ++ one) (((head ++ n) ++ n) ++ (rs ++ end)), append_assoc filerow one (((head ++ n) ++ n) ++ (rs ++ end)), append_assoc (head ++ n) n (rs ++ end)) refl)

-- ---- the table of the lines

module _ (filerow batchrow lines : List ℕ) where
  abbrev bank : List ℕ
  bank = bank_in batchrow

  abbrev many : ℕ
  many = length (lines_in lines)

  abbrev behind_head : List ℕ
  behind_head = rows_bytes bank 1 (lines_in lines) ++ render count_wide 0

  module _ (f : length filerow ≡ 85) (b : length batchrow ≡ 95) where
    file_whole : take file_wide filerow ≡ filerow
    file_whole = take_all file_wide filerow (omega arith)

    -- its parts, one behind the other
    pub table_form : import_table filerow batchrow lines ≡ head_bytes filerow batchrow (length (lines_in lines)) ++ (rows_bytes (bank_in batchrow) 1 (lines_in lines) ++ render 6 0)
    table_form =
        one_form filerow (take head_wide batchrow) (entries_of_lines bank 1 (lines_in lines)) (no_addenda bank 1 (lines_in lines))
        ∙ rw (entries_many bank 1 (lines_in lines), file_whole) (sym (append_assoc (render count_wide 1 ++ (filerow ++ render count_wide 1)) (batch_bytes batchrow many ++ render count_wide many) behind_head))

    pub bank_long : length (bank_in batchrow) ≡ 8
    bank_long = length-take-le 8 (drop 74 batchrow) (rw length-drop (omega arith))

    front_long : length (front_bytes filerow) ≡ 97
    front_long =
        let one = render count_wide 1 in
        omega (arith, length-append one (take file_wide filerow ++ one), length-append (take file_wide filerow) one, ap length file_whole, length_render count_wide 1)

    batch_long : (n : ℕ) → length (batch_bytes batchrow n) ≡ batch_wide
    batch_long n =
        omega (arith, length-append (take head_wide batchrow) (render count_wide n), length-take-le head_wide batchrow (omega arith), length_render count_wide n)

    head_long : (n : ℕ) → length (head_bytes filerow batchrow n) ≡ 198
    head_long n =
        let d = render count_wide n in
        omega (arith, length-append (front_bytes filerow) (batch_bytes batchrow n ++ d), length-append (batch_bytes batchrow n) d, front_long, batch_long n, length_render count_wide n)

    module _ (g : lines_answer 1 (lines_in lines) ≡ Ok tt) where
      all_long : AllLong entry_wide (rows_of bank 1 (lines_in lines))
      all_long = rows_long bank bank_long 1 (lines_in lines) g

      pub table_long : length (import_table filerow batchrow lines) ≡ 204 + 93 * length (lines_in lines)
      table_long =
          ap length table_form
          ∙ omega (arith, length-append (head_bytes filerow batchrow many) behind_head, length-append (rows_bytes bank 1 (lines_in lines)) (render count_wide 0), head_long many, rows_size bank bank_long 1 (lines_in lines) g, length_render count_wide 0)

      module _ (few : length (lines_in lines) ≤ 999999) where
        pub import_sized : Sized (import_view filerow batchrow lines)
        import_sized =
            one_sized filerow (take head_wide batchrow) (entries_of_lines bank 1 (lines_in lines)) f (length-take-le head_wide batchrow (omega arith)) (entries_sized bank bank_long 1 (lines_in lines) g)
            (rw (entries_many bank 1 (lines_in lines)) (omega arith)) (no_addenda bank 1 (lines_in lines))

        -- the counts before the sections
        pub counts : (count_of (batch_part (import_table filerow batchrow lines)) ≡ 1)
            × (count_of (entry_part (import_table filerow batchrow lines)) ≡ length (lines_in lines))
            × (count_of (addendum_part (import_table filerow batchrow lines)) ≡ 0)
        unfolding joined
        counts =
            let v = import_view filerow batchrow lines in
            let t = import_table filerow batchrow lines in
            let rs = rows_of bank 1 (lines_in lines) in
            let batches = map batch_row v.batches in
            let end = section count_wide [] in
            let part : entry_part t ≡ section count_wide rs ++ end =
            entry_part_lem v import_sized ∙ rw (append-nil (entries_of_lines bank 1 (lines_in lines)), no_addenda bank 1 (lines_in lines)) refl in
            let counted : count_of (entry_part t) ≡ length rs = ap count_of part ∙ section_count count_wide rs end (rw (rows_many bank 1 (lines_in lines)) (omega arith)) in (
              ap count_of (section_rest count_wide file_wide (filerow ∷ []) (section count_wide batches ++ entry_sections v) (f, tt)) ∙ section_count count_wide batches (entry_sections v) (lit< tt),
              counted ∙ rows_many bank 1 (lines_in lines),
              ap (λ n. count_of (drop (count_wide + entry_wide * n) (entry_part t))) counted
                  ∙ ap (λ p. count_of (drop (count_wide + entry_wide * length rs) p)) part
                  ∙ ap count_of (section_rest count_wide entry_wide rs end all_long ∙ sym (append-nil end))
                  ∙ section_count count_wide [] [] (lit< tt),
            )
