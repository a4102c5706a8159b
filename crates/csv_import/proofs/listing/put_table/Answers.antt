use Rattle.csv_import.proofs.PutLaws.{table_room, table_put}
use Rattle.csv_import.specs.WorkListing.{head_bytes, rows_bytes}
use Rattle.table_read.proofs.Writing.{room_front, room_rest}
use Rattle.csv_entry.specs.Import.{bank_in}
use Rattle.csv_cells.specs.Cells.{lines_in}
use Rattle.text.specs.Decimal.{render}
use mathlib.Core.List.{◌++◌}
use Rattle.csv_import.proofs.listing.put_table.Goals as goal

pub put_head-rows-requires : goal.put_head-rows-requires
put_head-rows-requires c = room_front (head_bytes c.args.filerow.now c.args.batchrow.now c.args.list.count) (rows_bytes (bank_in c.args.batchrow.now) 1 (lines_in c.args.list.bytes.now) ++ render 6 0) (table_room c.args.filerow.now c.args.batchrow.now c.args.list.bytes.now c.told-filerow c.told-batchrow c.args.list.count c.args.list.counted c.requires.1)

pub put_rows-end-requires : goal.put_rows-end-requires
put_rows-end-requires c = rw c.chunk.ensures (room_front (rows_bytes (bank_in c.args.batchrow.now) 1 (lines_in c.args.list.bytes.now)) (render 6 0) (room_rest c.put_head-rows.ensures (rows_bytes (bank_in c.args.batchrow.now) 1 (lines_in c.args.list.bytes.now) ++ render 6 0) (table_room c.args.filerow.now c.args.batchrow.now c.args.list.bytes.now c.told-filerow c.told-batchrow c.args.list.count c.args.list.counted c.requires.1)))

pub put_count-requires : goal.put_count-requires
put_count-requires c =
    let rows = rw c.chunk.ensures at c.put_rows-end.ensures in
    room_rest rows (render 6 0) (room_rest c.put_head-rows.ensures (rows_bytes (bank_in c.args.batchrow.now) 1 (lines_in c.args.list.bytes.now) ++ render 6 0) (table_room c.args.filerow.now c.args.batchrow.now c.args.list.bytes.now c.told-filerow c.told-batchrow c.args.list.count c.args.list.counted c.requires.1))

pub returns : goal.returns
returns c =
    let rows = rw c.chunk.ensures at c.put_rows-end.ensures in
    table_put c.args.filerow.now c.args.batchrow.now c.args.list.bytes.now c.told-filerow c.told-batchrow c.args.list.count c.args.list.counted c.requires.1 c.put_head-rows.ensures rows c.put_count.ensures
