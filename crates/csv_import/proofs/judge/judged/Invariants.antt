use Prim.Native.Nat.{◌-◌}
use Rattle.layout.specs.declared.Way.{Way}
use Rattle.check_record.specs.Record.{checked_of}
use Rattle.view.specs.Table.{formed}
use Rattle.csv_cells.specs.Cells.{lines_in}
use Rattle.csv_entry.specs.Import.{import_table}
use Rattle.csv_import.specs.WorkListing.{rows_of}
use Rattle.csv_import.proofs.Steps.{Entries, Fillers}
use Rattle.csv_import.proofs.judge.judged.Given as goal

abbrev pub invariant-loop-row : goal.invariant-loop-row
invariant-loop-row l =
    Entries (checked_of Way.Plain (formed Way.Plain (import_table l.filerow l.batchrow l.list.bytes.now))) l.st
    (rows_of l.row-iterator.bank.now l.row-iterator.number (lines_in l.row-iterator.rest.now))

abbrev pub invariant-loop-groups : goal.invariant-loop-groups
invariant-loop-groups l = Fillers (checked_of Way.Plain (formed Way.Plain (import_table l.filerow l.batchrow l.list.bytes.now))) l.st

abbrev pub decreases-loop-groups : goal.decreases-loop-groups
decreases-loop-groups l = 1000000 - l.st.sums.records
