use Rattle.text.specs.Rows.{joined}
use Rattle.table_read.proofs.Writing.{Left}
use Rattle.csv_cells.specs.Cells.{lines_in}
use Rattle.csv_import.specs.WorkListing.{rows_of, rows_bytes}
use Rattle.csv_import.proofs.listing.put_rows.Given as goal

abbrev pub invariant-loop-row : goal.invariant-loop-row
invariant-loop-row l =
    Left (joined (rows_of l.row-iterator.bank.now l.row-iterator.number (lines_in l.row-iterator.rest.now))) (rows_bytes l.bank 1 (lines_in l.list.bytes.now)) l.initial.table l.table l.start l.to
