-- The worked file: "one 220 PPD batch, two 22 entries at 322070381 of 10000 and 2550 cents, the second with an addendum; 940 bytes,
-- table 470 bytes." What the definitions say of it, and of the same file with a few bytes changed.
use Rattle.std.specs.Prelude.{Ok}
use Prim.Native.Nat.{ℕ, ◌+◌, ◌-◌, ◌*◌}
use mathlib.Core.Path.{◌≡◌, refl}
use mathlib.Core.Bool.{true}
use mathlib.Core.List.{List, [], ◌∷◌, ◌++◌, map}
use lib.IntN.{pos}
use lib.ListN.{length, take, replicate}
use lib.Seq.{sets}
use Rattle.layout.specs.Paper.{Paper, paper_of}
use Rattle.check_record.specs.Record.{checked_of, run_from, fields_from}
use Rattle.text.specs.Decimal.{every, value_from, render}
use Rattle.text.specs.Same.{same_bytes}
use Rattle.text.specs.Rows.{rows, joined}
use Rattle.check_digit.specs.CheckDigit.{weighed}
use Rattle.check_alone.specs.Own.{unbroken}
use Rattle.view.specs.View.{sum_over, filler_record, closed_by}
use Rattle.view.specs.Table.{with_entries, with_addenda, every_row, shaped, formed, table_of}
use Rattle.view.specs.Outcome.{alter_of, spot_from, amend_entry, amend_batch, altered_table, addendum_of}
use Rattle.layout.specs.declared.Way.{Way}

-- samples/whole.ach
abbrev pub whole : List ℕ
whole =
    49 ∷ 48 ∷ 49 ∷ 32 ∷ 51 ∷ 50 ∷ 50 ∷ 48 ∷ 55 ∷ 48 ∷ 51 ∷ 56 ∷ 49 ∷ 32 ∷ 49 ∷ 50 ∷ 51 ∷ 52 ∷ 53 ∷ 54 ∷ 55 ∷ 56 ∷ 57 ∷ 50 ∷
    54 ∷ 49 ∷ 49 ∷ 49 ∷ 51 ∷ 48 ∷ 57 ∷ 51 ∷ 48 ∷ 65 ∷ 48 ∷ 57 ∷ 52 ∷ 49 ∷ 48 ∷ 49 ∷ 72 ∷ 65 ∷ 82 ∷ 66 ∷ 79 ∷ 82 ∷ 32 ∷ 67 ∷
    79 ∷ 77 ∷ 77 ∷ 85 ∷ 78 ∷ 73 ∷ 84 ∷ 89 ∷ 32 ∷ 66 ∷ 65 ∷ 78 ∷ 75 ∷ 32 ∷ 32 ∷ 76 ∷ 65 ∷ 78 ∷ 84 ∷ 69 ∷ 82 ∷ 78 ∷ 32 ∷ 71 ∷
    79 ∷ 79 ∷ 68 ∷ 83 ∷ 32 ∷ 67 ∷ 79 ∷ 32 ∷ 32 ∷ 32 ∷ 32 ∷ 32 ∷ 32 ∷ 32 ∷ 32 ∷ 32 ∷ 32 ∷ 32 ∷ 32 ∷ 32 ∷ 32 ∷ 32 ∷ 53 ∷ 50 ∷
    50 ∷ 48 ∷ 76 ∷ 65 ∷ 78 ∷ 84 ∷ 69 ∷ 82 ∷ 78 ∷ 32 ∷ 71 ∷ 79 ∷ 79 ∷ 68 ∷ 83 ∷ 32 ∷ 67 ∷ 79 ∷ 32 ∷ 32 ∷ 32 ∷ 32 ∷ 32 ∷ 32 ∷
    32 ∷ 32 ∷ 32 ∷ 32 ∷ 32 ∷ 32 ∷ 32 ∷ 32 ∷ 32 ∷ 32 ∷ 32 ∷ 32 ∷ 32 ∷ 32 ∷ 49 ∷ 49 ∷ 50 ∷ 51 ∷ 52 ∷ 53 ∷ 54 ∷ 55 ∷ 56 ∷ 57 ∷
    80 ∷ 80 ∷ 68 ∷ 80 ∷ 65 ∷ 89 ∷ 82 ∷ 79 ∷ 76 ∷ 76 ∷ 32 ∷ 32 ∷ 32 ∷ 78 ∷ 79 ∷ 86 ∷ 32 ∷ 49 ∷ 51 ∷ 50 ∷ 54 ∷ 49 ∷ 49 ∷ 49 ∷
    54 ∷ 32 ∷ 32 ∷ 32 ∷ 49 ∷ 51 ∷ 50 ∷ 50 ∷ 48 ∷ 55 ∷ 48 ∷ 51 ∷ 56 ∷ 48 ∷ 48 ∷ 48 ∷ 48 ∷ 48 ∷ 48 ∷ 49 ∷ 54 ∷ 50 ∷ 50 ∷ 51 ∷
    50 ∷ 50 ∷ 48 ∷ 55 ∷ 48 ∷ 51 ∷ 56 ∷ 49 ∷ 52 ∷ 52 ∷ 49 ∷ 48 ∷ 45 ∷ 50 ∷ 50 ∷ 56 ∷ 55 ∷ 49 ∷ 32 ∷ 32 ∷ 32 ∷ 32 ∷ 32 ∷ 32 ∷
    32 ∷ 48 ∷ 48 ∷ 48 ∷ 48 ∷ 48 ∷ 49 ∷ 48 ∷ 48 ∷ 48 ∷ 48 ∷ 69 ∷ 45 ∷ 49 ∷ 48 ∷ 48 ∷ 49 ∷ 32 ∷ 32 ∷ 32 ∷ 32 ∷ 32 ∷ 32 ∷ 32 ∷
    32 ∷ 32 ∷ 77 ∷ 65 ∷ 82 ∷ 76 ∷ 79 ∷ 87 ∷ 69 ∷ 44 ∷ 32 ∷ 65 ∷ 68 ∷ 65 ∷ 32 ∷ 32 ∷ 32 ∷ 32 ∷ 32 ∷ 32 ∷ 32 ∷ 32 ∷ 32 ∷ 32 ∷
    32 ∷ 32 ∷ 48 ∷ 51 ∷ 50 ∷ 50 ∷ 48 ∷ 55 ∷ 48 ∷ 51 ∷ 56 ∷ 48 ∷ 48 ∷ 48 ∷ 48 ∷ 48 ∷ 48 ∷ 49 ∷ 54 ∷ 50 ∷ 50 ∷ 51 ∷ 50 ∷ 50 ∷
    48 ∷ 55 ∷ 48 ∷ 51 ∷ 56 ∷ 49 ∷ 48 ∷ 48 ∷ 57 ∷ 56 ∷ 51 ∷ 49 ∷ 55 ∷ 52 ∷ 48 ∷ 32 ∷ 32 ∷ 32 ∷ 32 ∷ 32 ∷ 32 ∷ 32 ∷ 32 ∷ 48 ∷
    48 ∷ 48 ∷ 48 ∷ 48 ∷ 48 ∷ 50 ∷ 53 ∷ 53 ∷ 48 ∷ 69 ∷ 45 ∷ 49 ∷ 48 ∷ 48 ∷ 50 ∷ 32 ∷ 32 ∷ 32 ∷ 32 ∷ 32 ∷ 32 ∷ 32 ∷ 32 ∷ 32 ∷
    79 ∷ 75 ∷ 65 ∷ 70 ∷ 79 ∷ 82 ∷ 44 ∷ 32 ∷ 66 ∷ 69 ∷ 78 ∷ 32 ∷ 32 ∷ 32 ∷ 32 ∷ 32 ∷ 32 ∷ 32 ∷ 32 ∷ 32 ∷ 32 ∷ 32 ∷ 32 ∷ 32 ∷
    49 ∷ 51 ∷ 50 ∷ 50 ∷ 48 ∷ 55 ∷ 48 ∷ 51 ∷ 56 ∷ 48 ∷ 48 ∷ 48 ∷ 48 ∷ 48 ∷ 48 ∷ 50 ∷ 55 ∷ 48 ∷ 53 ∷ 82 ∷ 69 ∷ 73 ∷ 77 ∷ 66 ∷
    85 ∷ 82 ∷ 83 ∷ 69 ∷ 77 ∷ 69 ∷ 78 ∷ 84 ∷ 32 ∷ 79 ∷ 70 ∷ 32 ∷ 84 ∷ 82 ∷ 65 ∷ 86 ∷ 69 ∷ 76 ∷ 44 ∷ 32 ∷ 79 ∷ 67 ∷ 84 ∷ 79 ∷
    66 ∷ 69 ∷ 82 ∷ 32 ∷ 32 ∷ 32 ∷ 32 ∷ 32 ∷ 32 ∷ 32 ∷ 32 ∷ 32 ∷ 32 ∷ 32 ∷ 32 ∷ 32 ∷ 32 ∷ 32 ∷ 32 ∷ 32 ∷ 32 ∷ 32 ∷ 32 ∷ 32 ∷
    32 ∷ 32 ∷ 32 ∷ 32 ∷ 32 ∷ 32 ∷ 32 ∷ 32 ∷ 32 ∷ 32 ∷ 32 ∷ 32 ∷ 32 ∷ 32 ∷ 32 ∷ 32 ∷ 32 ∷ 32 ∷ 32 ∷ 32 ∷ 32 ∷ 32 ∷ 32 ∷ 32 ∷
    32 ∷ 32 ∷ 32 ∷ 48 ∷ 48 ∷ 48 ∷ 49 ∷ 48 ∷ 48 ∷ 48 ∷ 48 ∷ 48 ∷ 48 ∷ 50 ∷ 56 ∷ 50 ∷ 50 ∷ 48 ∷ 48 ∷ 48 ∷ 48 ∷ 48 ∷ 48 ∷ 51 ∷
    48 ∷ 48 ∷ 54 ∷ 52 ∷ 52 ∷ 49 ∷ 52 ∷ 48 ∷ 55 ∷ 54 ∷ 48 ∷ 48 ∷ 48 ∷ 48 ∷ 48 ∷ 48 ∷ 48 ∷ 48 ∷ 48 ∷ 48 ∷ 48 ∷ 48 ∷ 48 ∷ 48 ∷
    48 ∷ 48 ∷ 48 ∷ 48 ∷ 48 ∷ 49 ∷ 50 ∷ 53 ∷ 53 ∷ 48 ∷ 49 ∷ 49 ∷ 50 ∷ 51 ∷ 52 ∷ 53 ∷ 54 ∷ 55 ∷ 56 ∷ 57 ∷ 32 ∷ 32 ∷ 32 ∷ 32 ∷
    32 ∷ 32 ∷ 32 ∷ 32 ∷ 32 ∷ 32 ∷ 32 ∷ 32 ∷ 32 ∷ 32 ∷ 32 ∷ 32 ∷ 32 ∷ 32 ∷ 32 ∷ 32 ∷ 32 ∷ 32 ∷ 32 ∷ 32 ∷ 32 ∷ 51 ∷ 50 ∷ 50 ∷
    48 ∷ 55 ∷ 48 ∷ 51 ∷ 56 ∷ 48 ∷ 48 ∷ 48 ∷ 48 ∷ 48 ∷ 48 ∷ 49 ∷ 57 ∷ 48 ∷ 48 ∷ 48 ∷ 48 ∷ 48 ∷ 49 ∷ 48 ∷ 48 ∷ 48 ∷ 48 ∷ 48 ∷
    49 ∷ 48 ∷ 48 ∷ 48 ∷ 48 ∷ 48 ∷ 48 ∷ 48 ∷ 51 ∷ 48 ∷ 48 ∷ 54 ∷ 52 ∷ 52 ∷ 49 ∷ 52 ∷ 48 ∷ 55 ∷ 54 ∷ 48 ∷ 48 ∷ 48 ∷ 48 ∷ 48 ∷
    48 ∷ 48 ∷ 48 ∷ 48 ∷ 48 ∷ 48 ∷ 48 ∷ 48 ∷ 48 ∷ 48 ∷ 48 ∷ 48 ∷ 48 ∷ 48 ∷ 49 ∷ 50 ∷ 53 ∷ 53 ∷ 48 ∷ 32 ∷ 32 ∷ 32 ∷ 32 ∷ 32 ∷
    32 ∷ 32 ∷ 32 ∷ 32 ∷ 32 ∷ 32 ∷ 32 ∷ 32 ∷ 32 ∷ 32 ∷ 32 ∷ 32 ∷ 32 ∷ 32 ∷ 32 ∷ 32 ∷ 32 ∷ 32 ∷ 32 ∷ 32 ∷ 32 ∷ 32 ∷ 32 ∷ 32 ∷
    32 ∷ 32 ∷ 32 ∷ 32 ∷ 32 ∷ 32 ∷ 32 ∷ 32 ∷ 32 ∷ 32 ∷ 57 ∷ 57 ∷ 57 ∷ 57 ∷ 57 ∷ 57 ∷ 57 ∷ 57 ∷ 57 ∷ 57 ∷ 57 ∷ 57 ∷ 57 ∷ 57 ∷
    57 ∷ 57 ∷ 57 ∷ 57 ∷ 57 ∷ 57 ∷ 57 ∷ 57 ∷ 57 ∷ 57 ∷ 57 ∷ 57 ∷ 57 ∷ 57 ∷ 57 ∷ 57 ∷ 57 ∷ 57 ∷ 57 ∷ 57 ∷ 57 ∷ 57 ∷ 57 ∷ 57 ∷
    57 ∷ 57 ∷ 57 ∷ 57 ∷ 57 ∷ 57 ∷ 57 ∷ 57 ∷ 57 ∷ 57 ∷ 57 ∷ 57 ∷ 57 ∷ 57 ∷ 57 ∷ 57 ∷ 57 ∷ 57 ∷ 57 ∷ 57 ∷ 57 ∷ 57 ∷ 57 ∷ 57 ∷
    57 ∷ 57 ∷ 57 ∷ 57 ∷ 57 ∷ 57 ∷ 57 ∷ 57 ∷ 57 ∷ 57 ∷ 57 ∷ 57 ∷ 57 ∷ 57 ∷ 57 ∷ 57 ∷ 57 ∷ 57 ∷ 57 ∷ 57 ∷ 57 ∷ 57 ∷ 57 ∷ 57 ∷
    57 ∷ 57 ∷ 57 ∷ 57 ∷ 57 ∷ 57 ∷ 57 ∷ 57 ∷ 57 ∷ 57 ∷ 57 ∷ 57 ∷ 57 ∷ 57 ∷ 57 ∷ 57 ∷ 57 ∷ 57 ∷ 57 ∷ 57 ∷ 57 ∷ 57 ∷ 57 ∷ 57 ∷
    57 ∷ 57 ∷ 57 ∷ 57 ∷ 57 ∷ 57 ∷ 57 ∷ 57 ∷ 57 ∷ 57 ∷ 57 ∷ 57 ∷ 57 ∷ 57 ∷ 57 ∷ 57 ∷ 57 ∷ 57 ∷ 57 ∷ 57 ∷ 57 ∷ 57 ∷ 57 ∷ 57 ∷
    57 ∷ 57 ∷ 57 ∷ 57 ∷ 57 ∷ 57 ∷ 57 ∷ 57 ∷ 57 ∷ 57 ∷ 57 ∷ 57 ∷ 57 ∷ 57 ∷ 57 ∷ 57 ∷ 57 ∷ 57 ∷ 57 ∷ 57 ∷ 57 ∷ 57 ∷ 57 ∷ 57 ∷
    57 ∷ 57 ∷ 57 ∷ 57 ∷ 57 ∷ 57 ∷ 57 ∷ 57 ∷ 57 ∷ 57 ∷ 57 ∷ 57 ∷ 57 ∷ 57 ∷ 57 ∷ 57 ∷ 57 ∷ 57 ∷ 57 ∷ 57 ∷ 57 ∷ 57 ∷ 57 ∷ 57 ∷
    57 ∷ 57 ∷ 57 ∷ 57 ∷ 57 ∷ 57 ∷ 57 ∷ 57 ∷ 57 ∷ 57 ∷ 57 ∷ 57 ∷ 57 ∷ 57 ∷ 57 ∷ 57 ∷ 57 ∷ 57 ∷ 57 ∷ 57 ∷ 57 ∷ 57 ∷ 57 ∷ 57 ∷
    57 ∷ 57 ∷ 57 ∷ 57 ∷ 57 ∷ 57 ∷ 57 ∷ 57 ∷ 57 ∷ 57 ∷ 57 ∷ 57 ∷ 57 ∷ 57 ∷ 57 ∷ 57 ∷ 57 ∷ 57 ∷ 57 ∷ 57 ∷ 57 ∷ 57 ∷ 57 ∷ 57 ∷
    57 ∷ 57 ∷ 57 ∷ 57 ∷ 57 ∷ 57 ∷ 57 ∷ 57 ∷ 57 ∷ 57 ∷ 57 ∷ 57 ∷ 57 ∷ 57 ∷ 57 ∷ 57 ∷ 57 ∷ 57 ∷ 57 ∷ 57 ∷ 57 ∷ 57 ∷ 57 ∷ 57 ∷
    57 ∷ 57 ∷ 57 ∷ 57 ∷ 57 ∷ 57 ∷ 57 ∷ 57 ∷ 57 ∷ 57 ∷ 57 ∷ 57 ∷ 57 ∷ 57 ∷ 57 ∷ 57 ∷ 57 ∷ 57 ∷ 57 ∷ 57 ∷ 57 ∷ 57 ∷ 57 ∷ 57 ∷
    57 ∷ 57 ∷ 57 ∷ 57 ∷ []

-- samples/whole.table: its pay table
abbrev pub table : List ℕ
table =
    48 ∷ 48 ∷ 48 ∷ 48 ∷ 48 ∷ 49 ∷ 32 ∷ 51 ∷ 50 ∷ 50 ∷ 48 ∷ 55 ∷ 48 ∷ 51 ∷ 56 ∷ 49 ∷ 32 ∷ 49 ∷ 50 ∷ 51 ∷ 52 ∷ 53 ∷ 54 ∷ 55 ∷
    56 ∷ 57 ∷ 50 ∷ 54 ∷ 49 ∷ 49 ∷ 49 ∷ 51 ∷ 48 ∷ 57 ∷ 51 ∷ 48 ∷ 65 ∷ 72 ∷ 65 ∷ 82 ∷ 66 ∷ 79 ∷ 82 ∷ 32 ∷ 67 ∷ 79 ∷ 77 ∷ 77 ∷
    85 ∷ 78 ∷ 73 ∷ 84 ∷ 89 ∷ 32 ∷ 66 ∷ 65 ∷ 78 ∷ 75 ∷ 32 ∷ 32 ∷ 76 ∷ 65 ∷ 78 ∷ 84 ∷ 69 ∷ 82 ∷ 78 ∷ 32 ∷ 71 ∷ 79 ∷ 79 ∷ 68 ∷
    83 ∷ 32 ∷ 67 ∷ 79 ∷ 32 ∷ 32 ∷ 32 ∷ 32 ∷ 32 ∷ 32 ∷ 32 ∷ 32 ∷ 32 ∷ 32 ∷ 32 ∷ 32 ∷ 32 ∷ 32 ∷ 32 ∷ 48 ∷ 48 ∷ 48 ∷ 48 ∷ 48 ∷
    49 ∷ 50 ∷ 50 ∷ 48 ∷ 76 ∷ 65 ∷ 78 ∷ 84 ∷ 69 ∷ 82 ∷ 78 ∷ 32 ∷ 71 ∷ 79 ∷ 79 ∷ 68 ∷ 83 ∷ 32 ∷ 67 ∷ 79 ∷ 32 ∷ 32 ∷ 32 ∷ 32 ∷
    32 ∷ 32 ∷ 32 ∷ 32 ∷ 32 ∷ 32 ∷ 32 ∷ 32 ∷ 32 ∷ 32 ∷ 32 ∷ 32 ∷ 32 ∷ 32 ∷ 32 ∷ 32 ∷ 49 ∷ 49 ∷ 50 ∷ 51 ∷ 52 ∷ 53 ∷ 54 ∷ 55 ∷
    56 ∷ 57 ∷ 80 ∷ 80 ∷ 68 ∷ 80 ∷ 65 ∷ 89 ∷ 82 ∷ 79 ∷ 76 ∷ 76 ∷ 32 ∷ 32 ∷ 32 ∷ 78 ∷ 79 ∷ 86 ∷ 32 ∷ 49 ∷ 51 ∷ 50 ∷ 54 ∷ 49 ∷
    49 ∷ 49 ∷ 54 ∷ 51 ∷ 50 ∷ 50 ∷ 48 ∷ 55 ∷ 48 ∷ 51 ∷ 56 ∷ 48 ∷ 48 ∷ 48 ∷ 48 ∷ 48 ∷ 48 ∷ 49 ∷ 48 ∷ 48 ∷ 48 ∷ 48 ∷ 48 ∷ 50 ∷
    48 ∷ 48 ∷ 48 ∷ 48 ∷ 48 ∷ 50 ∷ 50 ∷ 50 ∷ 51 ∷ 50 ∷ 50 ∷ 48 ∷ 55 ∷ 48 ∷ 51 ∷ 56 ∷ 49 ∷ 52 ∷ 52 ∷ 49 ∷ 48 ∷ 45 ∷ 50 ∷ 50 ∷
    56 ∷ 55 ∷ 49 ∷ 32 ∷ 32 ∷ 32 ∷ 32 ∷ 32 ∷ 32 ∷ 32 ∷ 48 ∷ 48 ∷ 48 ∷ 48 ∷ 48 ∷ 49 ∷ 48 ∷ 48 ∷ 48 ∷ 48 ∷ 69 ∷ 45 ∷ 49 ∷ 48 ∷
    48 ∷ 49 ∷ 32 ∷ 32 ∷ 32 ∷ 32 ∷ 32 ∷ 32 ∷ 32 ∷ 32 ∷ 32 ∷ 77 ∷ 65 ∷ 82 ∷ 76 ∷ 79 ∷ 87 ∷ 69 ∷ 44 ∷ 32 ∷ 65 ∷ 68 ∷ 65 ∷ 32 ∷
    32 ∷ 32 ∷ 32 ∷ 32 ∷ 32 ∷ 32 ∷ 32 ∷ 32 ∷ 32 ∷ 32 ∷ 32 ∷ 48 ∷ 51 ∷ 50 ∷ 50 ∷ 48 ∷ 55 ∷ 48 ∷ 51 ∷ 56 ∷ 48 ∷ 48 ∷ 48 ∷ 48 ∷
    48 ∷ 48 ∷ 49 ∷ 50 ∷ 50 ∷ 51 ∷ 50 ∷ 50 ∷ 48 ∷ 55 ∷ 48 ∷ 51 ∷ 56 ∷ 49 ∷ 48 ∷ 48 ∷ 57 ∷ 56 ∷ 51 ∷ 49 ∷ 55 ∷ 52 ∷ 48 ∷ 32 ∷
    32 ∷ 32 ∷ 32 ∷ 32 ∷ 32 ∷ 32 ∷ 32 ∷ 48 ∷ 48 ∷ 48 ∷ 48 ∷ 48 ∷ 48 ∷ 50 ∷ 53 ∷ 53 ∷ 48 ∷ 69 ∷ 45 ∷ 49 ∷ 48 ∷ 48 ∷ 50 ∷ 32 ∷
    32 ∷ 32 ∷ 32 ∷ 32 ∷ 32 ∷ 32 ∷ 32 ∷ 32 ∷ 79 ∷ 75 ∷ 65 ∷ 70 ∷ 79 ∷ 82 ∷ 44 ∷ 32 ∷ 66 ∷ 69 ∷ 78 ∷ 32 ∷ 32 ∷ 32 ∷ 32 ∷ 32 ∷
    32 ∷ 32 ∷ 32 ∷ 32 ∷ 32 ∷ 32 ∷ 32 ∷ 32 ∷ 49 ∷ 51 ∷ 50 ∷ 50 ∷ 48 ∷ 55 ∷ 48 ∷ 51 ∷ 56 ∷ 48 ∷ 48 ∷ 48 ∷ 48 ∷ 48 ∷ 48 ∷ 50 ∷
    48 ∷ 48 ∷ 48 ∷ 48 ∷ 48 ∷ 49 ∷ 82 ∷ 69 ∷ 73 ∷ 77 ∷ 66 ∷ 85 ∷ 82 ∷ 83 ∷ 69 ∷ 77 ∷ 69 ∷ 78 ∷ 84 ∷ 32 ∷ 79 ∷ 70 ∷ 32 ∷ 84 ∷
    82 ∷ 65 ∷ 86 ∷ 69 ∷ 76 ∷ 44 ∷ 32 ∷ 79 ∷ 67 ∷ 84 ∷ 79 ∷ 66 ∷ 69 ∷ 82 ∷ 32 ∷ 32 ∷ 32 ∷ 32 ∷ 32 ∷ 32 ∷ 32 ∷ 32 ∷ 32 ∷ 32 ∷
    32 ∷ 32 ∷ 32 ∷ 32 ∷ 32 ∷ 32 ∷ 32 ∷ 32 ∷ 32 ∷ 32 ∷ 32 ∷ 32 ∷ 32 ∷ 32 ∷ 32 ∷ 32 ∷ 32 ∷ 32 ∷ 32 ∷ 32 ∷ 32 ∷ 32 ∷ 32 ∷ 32 ∷
    32 ∷ 32 ∷ 32 ∷ 32 ∷ 32 ∷ 32 ∷ 32 ∷ 32 ∷ 32 ∷ 32 ∷ 32 ∷ 32 ∷ 32 ∷ 32 ∷ []

-- it is accepted, with its numbers; by code there are two entries of 22 with 12550 cents, and nothing else
pub whole_accepted : checked_of Way.Plain whole
    ≡ record {
      answer = Ok tt;
      batches = 1;
      entries = 2;
      addenda = 1;
      debit = 0;
      credit = 12550;
      bycode = 2 ∷ 12550 ∷ replicate 22 0;
    }
unfolding run_from fields_from every value_from same_bytes rows weighed unbroken
whole_accepted = refl

-- 940 bytes, table 470 bytes
pub whole_sizes : (length whole ≡ 940) × (length table ≡ 470)
whole_sizes = (refl, refl)

-- the one is the other's table, and is formed of it
pub whole_table : (table_of Way.Plain whole ≡ table) × (formed Way.Plain table ≡ whole) × (shaped table ≡ true)
unfolding every value_from rows joined render sum_over with_entries with_addenda every_row
whole_table = (refl, refl, refl)

-- one cent more in entry 2: granted, and the file is that of the altered table; the addendum of entry 2 is columns 4-83 of record 5
pub whole_altered : ((alter_of Way.Plain whole 2 2551).gives.answer ≡ Ok tt) × ((alter_of Way.Plain whole 2 2551).gives.difference ≡ pos 1) × ((alter_of Way.Plain whole 2 2551).leaves ≡ formed Way.Plain (altered_table table 2 2551)) × (addendum_of Way.Plain whole 2 ≡ record { from = 379; size = 80 })
unfolding run_from fields_from every value_from same_bytes rows weighed unbroken joined render sum_over with_entries with_addenda every_row spot_from amend_entry amend_batch
whole_altered = (refl, refl, refl, refl)

-- ---- the same file with a few bytes changed

-- these bytes in record n, from column c on
abbrev pub damaged : ℕ → ℕ → List ℕ → List ℕ
damaged n c bytes = sets whole (94 * (n - 1) + (c - 1)) bytes

-- what the paper prints of a file: number, record, field
abbrev pub printed : List ℕ → Paper
printed f = paper_of (checked_of Way.Plain f).answer

abbrev pub paper : ℕ → ℕ → ℕ → Paper
paper n r f = record { number = n; record_no = r; field_no = f }

pub record Damages : Type 0 where
  -- no byte at all; the last byte gone; a line feed behind the last
  pub empty : printed [] ≡ paper 1 0 0
  pub short : printed (take 939 whole) ≡ paper 1 0 0
  pub line_feed : printed (whole ++ (10 ∷ [])) ≡ paper 1 0 0
  -- the first record alone; the last filler gone
  pub ended : printed (take 94 whole) ≡ paper 2 2 0
  pub unfilled : printed (take 846 whole) ≡ paper 2 10 0
  -- an addendum where an entry is due; an entry with '0' in column 79 that a 7 follows; a file control where the batch still lacks its 8
  pub misplaced : printed (damaged 3 1 (55 ∷ [])) ≡ paper 3 3 1
  pub unflagged : printed (damaged 4 79 (48 ∷ [])) ≡ paper 3 5 1
  pub open_batch : printed (damaged 6 1 (57 ∷ [])) ≡ paper 3 6 1
  -- a filler more
  pub past : printed (whole ++ filler_record) ≡ paper 4 11 0
  -- '02' for '01'; a filler whose last byte is '8', and one whose first is
  pub fixed : printed (damaged 1 3 (50 ∷ [])) ≡ paper 5 1 2
  pub filler : printed (damaged 9 94 (56 ∷ [])) ≡ paper 5 9 0
  pub filler_type : printed (damaged 8 1 (56 ∷ [])) ≡ paper 5 8 0
  -- 'A' in an amount
  pub digits : printed (damaged 3 30 (65 ∷ [])) ≡ paper 6 3 6
  -- 'l' in the company's name; the name all blank; a blank in front of it
  pub text : printed (damaged 2 5 (108 ∷ [])) ≡ paper 7 2 3
  pub blank : printed (damaged 2 5 (replicate 16 32)) ≡ paper 8 2 3
  pub leading : printed (damaged 2 5 (32 ∷ [])) ≡ paper 9 2 3
  -- 261131 for 261113; 2430 for 0930
  pub date : printed (damaged 1 28 (51 ∷ 49 ∷ [])) ≡ paper 10 1 5
  pub time : printed (damaged 1 30 (50 ∷ 52 ∷ [])) ≡ paper 10 1 6
  -- WEB for PPD
  pub value : printed (damaged 2 51 (87 ∷ 69 ∷ 66 ∷ [])) ≡ paper 11 2 6
  -- check digit 2 for 1, of the entry and of the destination
  pub check_digit_lem : printed (damaged 3 12 (50 ∷ [])) ≡ paper 12 3 4
  pub destination : printed (damaged 1 13 (50 ∷ [])) ≡ paper 12 1 3
  -- a bank that begins with 4
  pub bank : printed (damaged 3 4 (52 ∷ [])) ≡ paper 13 3 3
  -- amount 0 under code 22; code 23 with an amount
  pub amount : printed (damaged 3 35 (48 ∷ [])) ≡ paper 14 3 6
  pub prenote : printed (damaged 3 3 (51 ∷ [])) ≡ paper 14 3 6
  -- code 27 under 220
  pub side : printed (damaged 3 3 (55 ∷ [])) ≡ paper 15 3 2
  -- trace 0 in the first entry; trace 1 behind trace 1; an addendum with trace 3 behind an entry with trace 2
  pub trace_first : printed (damaged 3 94 (48 ∷ [])) ≡ paper 16 3 11
  pub trace : printed (damaged 4 94 (49 ∷ [])) ≡ paper 16 4 11
  pub entry_trace_lem : printed (damaged 5 94 (51 ∷ [])) ≡ paper 16 5 5
  -- batch number 0
  pub batch_number_lem : printed (damaged 2 94 (48 ∷ [])) ≡ paper 17 2 13
  -- 2 for 3 records; 2 for 1 batches; blocks without the filler
  pub count : printed (damaged 6 10 (50 ∷ [])) ≡ paper 18 6 3
  pub batches : printed (damaged 7 7 (50 ∷ [])) ≡ paper 18 7 2
  pub blocks : printed (damaged 7 13 (48 ∷ [])) ≡ paper 18 7 3
  -- a hash that is one too much, of the batch and of the file
  pub hash : printed (damaged 6 20 (55 ∷ [])) ≡ paper 19 6 4
  pub file_hash : printed (damaged 7 31 (55 ∷ [])) ≡ paper 19 7 5
  -- a cent too much: in each total, and in the amount of an entry, where the batch's control shows it
  pub debit_total : printed (damaged 6 32 (49 ∷ [])) ≡ paper 21 6 5
  pub credit_total : printed (damaged 6 44 (49 ∷ [])) ≡ paper 21 6 6
  pub file_debit : printed (damaged 7 43 (49 ∷ [])) ≡ paper 21 7 6
  pub file_credit : printed (damaged 7 55 (49 ∷ [])) ≡ paper 21 7 7
  pub amount_more : printed (damaged 3 39 (49 ∷ [])) ≡ paper 21 6 6
  -- 200 for 220 in the control; another company there
  pub batch : printed (damaged 6 3 (48 ∷ [])) ≡ paper 22 6 2
  pub company : printed (damaged 6 45 (50 ∷ [])) ≡ paper 22 6 7
  -- two faults: the earlier record comes first, in it the earlier field, and in that the lower number
  pub earlier : printed (sets (damaged 6 10 (50 ∷ [])) (94 * 2 + 29) (65 ∷ [])) ≡ paper 6 3 6
  pub earlier_field : printed (sets (damaged 3 3 (55 ∷ [])) (94 * 2 + 29) (65 ∷ [])) ≡ paper 15 3 2
  pub lower_number : printed (damaged 2 5 (32 ∷ 108 ∷ [])) ≡ paper 7 2 3

-- each is refused at its place, by its number
pub whole_damages : Damages
unfolding run_from fields_from every value_from same_bytes rows weighed unbroken
whole_damages =
    record {
      empty = refl;
      short = refl;
      line_feed = refl;
      ended = refl;
      unfilled = refl;
      misplaced = refl;
      unflagged = refl;
      open_batch = refl;
      past = refl;
      fixed = refl;
      filler = refl;
      filler_type = refl;
      digits = refl;
      text = refl;
      blank = refl;
      leading = refl;
      date = refl;
      time = refl;
      value = refl;
      check_digit_lem = refl;
      destination = refl;
      bank = refl;
      amount = refl;
      prenote = refl;
      side = refl;
      trace_first = refl;
      trace = refl;
      entry_trace_lem = refl;
      batch_number_lem = refl;
      count = refl;
      batches = refl;
      blocks = refl;
      hash = refl;
      file_hash = refl;
      debit_total = refl;
      credit_total = refl;
      file_debit = refl;
      file_credit = refl;
      amount_more = refl;
      batch = refl;
      company = refl;
      earlier = refl;
      earlier_field = refl;
      lower_number = refl;
    }

-- trace 5 behind trace 1, in the entry and in its addendum: accepted, as the traces may skip
pub skipping_accepted : printed (sets (damaged 4 94 (53 ∷ [])) (94 * 4 + 93) (53 ∷ [])) ≡ paper 0 0 0
unfolding run_from fields_from every value_from same_bytes rows weighed unbroken
skipping_accepted = refl

-- ---- the same file with line ends

-- samples/whole-lined.ach
abbrev pub lined : List ℕ
lined = joined (map (closed_by Way.Lined) (rows 94 10 whole))

-- accepted, with the same numbers
pub lined_accepted : checked_of Way.Lined lined
    ≡ record {
      answer = Ok tt;
      batches = 1;
      entries = 2;
      addenda = 1;
      debit = 0;
      credit = 12550;
      bycode = 2 ∷ 12550 ∷ replicate 22 0;
    }
unfolding run_from fields_from every value_from same_bytes rows weighed unbroken joined
lined_accepted = refl

-- 960 bytes; the same table, and the one is formed of the other
pub lined_table : (length lined ≡ 960) × (table_of Way.Lined lined ≡ table) × (formed Way.Lined table ≡ lined)
unfolding every value_from rows joined render sum_over with_entries with_addenda every_row
lined_table = (refl, refl, refl)

-- the addendum of entry 2 is columns 4-83 of record 5, whose bytes begin at 384
pub lined_addendum : addendum_of Way.Lined lined 2 ≡ record { from = 387; size = 80 }
unfolding run_from fields_from every value_from same_bytes rows weighed unbroken joined sum_over spot_from
lined_addendum = refl

-- what the paper prints of a file with line ends, and these bytes in record n of it, from column c on
abbrev pub printed_lined : List ℕ → Paper
printed_lined f = paper_of (checked_of Way.Lined f).answer

abbrev pub damaged_lined : ℕ → ℕ → List ℕ → List ℕ
damaged_lined n c bytes = sets lined (96 * (n - 1) + (c - 1)) bytes

pub record LinedDamages : Type 0 where
  -- a way is never guessed; the line end of the last record is missing
  pub unlined : printed_lined whole ≡ paper 1 0 0
  pub in_first_way : printed lined ≡ paper 1 0 0
  pub last_open : printed_lined (take 958 lined) ≡ paper 1 0 0
  -- 26: LF before CR, a blank for CR, another byte for LF, at a header, an entry, an addendum and a filler
  pub swapped : printed_lined (damaged_lined 1 95 (10 ∷ 13 ∷ [])) ≡ paper 26 1 0
  pub blank : printed_lined (damaged_lined 3 95 (32 ∷ [])) ≡ paper 26 3 0
  pub other : printed_lined (damaged_lined 5 96 (13 ∷ [])) ≡ paper 26 5 0
  pub filler : printed_lined (damaged_lined 10 95 (57 ∷ 57 ∷ [])) ≡ paper 26 10 0
  -- a field's fault in the same record comes first, one in the next record later; so does the end of the data
  pub field_first : printed_lined (sets (damaged_lined 3 95 (10 ∷ 10 ∷ [])) (96 * 2 + 29) (65 ∷ [])) ≡ paper 6 3 6
  pub next_later : printed_lined (sets (damaged_lined 2 95 (10 ∷ 10 ∷ [])) (96 * 2 + 29) (65 ∷ [])) ≡ paper 26 2 0
  pub end_later : printed_lined (take 192 (damaged_lined 2 95 (10 ∷ 10 ∷ []))) ≡ paper 26 2 0
  pub ended : printed_lined (take 192 lined) ≡ paper 2 3 0
  -- behind the filled block 4, whatever the line end
  pub past : printed_lined (lined ++ replicate 96 57) ≡ paper 4 11 0

pub lined_damages : LinedDamages
unfolding run_from fields_from every value_from same_bytes rows weighed unbroken joined
lined_damages =
    record {
      unlined = refl;
      in_first_way = refl;
      last_open = refl;
      swapped = refl;
      blank = refl;
      other = refl;
      filler = refl;
      field_first = refl;
      next_later = refl;
      end_later = refl;
      ended = refl;
      past = refl;
    }
