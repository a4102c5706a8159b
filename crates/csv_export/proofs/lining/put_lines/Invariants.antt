use Rattle.std.proofs.Common.{◌≡◌, drop, map}
use Rattle.text.specs.Rows.{joined}
use Rattle.table_read.proofs.Writing.{Left}
use Rattle.csv_export.specs.Lining.{line_of_row}
use Rattle.csv_export.proofs.lining.put_lines.Given as goal

abbrev pub invariant-loop-row : goal.invariant-loop-row
invariant-loop-row l =
    Left (joined (map line_of_row (drop l.row-index l.row-items))) (joined (map line_of_row l.row-items)) l.initial.out.bytes.now l.out.bytes.now 0 l.out.to
    × (l.out.bytes.ghost_name ≡ l.initial.out.bytes.ghost_name)
