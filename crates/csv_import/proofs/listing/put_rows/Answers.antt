use Rattle.std.proofs.Common.{rules, arith, length, ◌≡◌}
use Rattle.csv_import.proofs.PutLaws.{row_room, row_next, rows_end}
use Rattle.csv_cells.specs.Cells.{lines_in}
use Rattle.csv_import.specs.WorkListing.{rows_bytes}
use Rattle.table_read.proofs.Writing.{left_start}
use Rattle.csv_import.proofs.listing.put_rows.Goals as goal

pub loop-row-init : goal.loop-row-init
loop-row-init c =
    rw (c.into_iter-row-iterator.ensures.into_iter_gives, c.rows-row-items.ensures.rest, c.rows-row-items.ensures.bank, c.rows-row-items.ensures.first)
    (left_start (rows_bytes c.args.bank.now 1 (lines_in c.args.list.bytes.now)) c.args.table.now c.args.start)

pub put_part-to-requires : goal.put_part-to-requires
put_part-to-requires c =
    let long : length c.in-Some.row ≡ 93 = search rules in
    (omega arith, omega (arith, long), row_room c.in-Some.ensures.steps long c.loop-row.invariant c.requires)

pub loop-row-preserved : goal.loop-row-preserved
loop-row-preserved c =
    let long : length c.in-Some.row ≡ 93 = search rules in
    row_next c.in-Some.ensures.steps long c.loop-row.invariant c.put_part-to.ensures

pub returns : goal.returns
returns c = rows_end c.in-None.ensures.steps.0 c.loop-row.invariant
