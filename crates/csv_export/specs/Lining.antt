-- Exporting: "The export of a table that document 01 would write puts every field in quotes, drops trailing blanks and the amount's
-- leading zeros down to one digit before the point, and ends each line with CR LF".
use Rattle.std.specs.Prelude.{ℕ, List, [], ◌∷◌, ◌++◌, map, drop}
use Rattle.text.specs.Rows.{columns, joined, rows}
use Rattle.layout.specs.Fields.{entry, part}
use Rattle.view.specs.Table.{entry_wide, entry_part, rows_in}
use Rattle.csv_export.specs.Quoting.{trimmed, quoted, amount_text}

-- "A line holds code, nine-digit routing number, account, amount, identification and name": of the record 6 r
abbrev pub line_fields : List ℕ → List (List ℕ)
line_fields r =
    trimmed (part entry 2 r) ∷ trimmed (columns 4 12 r) ∷ trimmed (part entry 5 r) ∷ amount_text (part entry 6 r)
    ∷ trimmed (part entry 7 r) ∷ trimmed (part entry 8 r) ∷ []

-- fields in quotes with commas between them, and CR LF
unfoldable pub comma_line : List (List ℕ) → List ℕ
comma_line [] = []
comma_line (p ∷ []) = quoted p ++ (13 ∷ 10 ∷ [])
comma_line (p ∷ q ∷ ps) = quoted p ++ (44 ∷ comma_line (q ∷ ps))

abbrev pub line_of_row : List ℕ → List ℕ
line_of_row row = comma_line (line_fields (54 ∷ row))

-- the lines of n entry rows, the first of which stands at a byte of the table
abbrev pub lines_at : List ℕ → ℕ → ℕ → List ℕ
lines_at t at n = joined (map line_of_row (rows entry_wide n (drop at t)))

-- a line for each entry of the table, in order
abbrev pub exported : List ℕ → List ℕ
exported t = joined (map line_of_row (rows_in entry_wide (entry_part t)))
