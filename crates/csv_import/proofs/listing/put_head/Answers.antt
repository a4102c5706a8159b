use Rattle.csv_import.specs.WorkListing.{front_bytes, batch_bytes}
use Rattle.table_read.proofs.Writing.{puts_both, room_front, room_rest}
use Rattle.text.specs.Decimal.{render}
use lib.ListN.{take}
use mathlib.Core.List.{◌++◌}
use native.Mathlib.Omega.{arith}
use Rattle.csv_import.proofs.listing.put_head.Goals as goal

pub put_count-file-requires : goal.put_count-file-requires
put_count-file-requires c = room_front (render 6 1) (take 85 c.args.filerow.now ++ render 6 1) (room_front (front_bytes c.args.filerow.now) (batch_bytes c.args.batchrow.now c.args.count ++ render 6 c.args.count) c.requires)

pub put_part-batches-requires : goal.put_part-batches-requires
put_part-batches-requires c = (omega arith, omega (arith, c.told-filerow), room_front (take 85 c.args.filerow.now) (render 6 1) (room_rest c.put_count-file.ensures (take 85 c.args.filerow.now ++ render 6 1) (room_front (front_bytes c.args.filerow.now) (batch_bytes c.args.batchrow.now c.args.count ++ render 6 c.args.count) c.requires)))

pub put_count-batch-requires : goal.put_count-batch-requires
put_count-batch-requires c = room_rest c.put_part-batches.ensures (render 6 1) (room_rest c.put_count-file.ensures (take 85 c.args.filerow.now ++ render 6 1) (room_front (front_bytes c.args.filerow.now) (batch_bytes c.args.batchrow.now c.args.count ++ render 6 c.args.count) c.requires))

pub put_part-own-requires : goal.put_part-own-requires
put_part-own-requires c = (omega arith, omega (arith, c.told-batchrow), room_front (take 89 c.args.batchrow.now) (render 6 c.args.count) (room_front (batch_bytes c.args.batchrow.now c.args.count) (render 6 c.args.count) (room_rest (puts_both c.put_count-file.ensures (puts_both c.put_part-batches.ensures c.put_count-batch.ensures)) (batch_bytes c.args.batchrow.now c.args.count ++ render 6 c.args.count) c.requires)))

pub put_count-entries-requires : goal.put_count-entries-requires
put_count-entries-requires c = room_rest c.put_part-own.ensures (render 6 c.args.count) (room_front (batch_bytes c.args.batchrow.now c.args.count) (render 6 c.args.count) (room_rest (puts_both c.put_count-file.ensures (puts_both c.put_part-batches.ensures c.put_count-batch.ensures)) (batch_bytes c.args.batchrow.now c.args.count ++ render 6 c.args.count) c.requires))

pub put_count-requires : goal.put_count-requires
put_count-requires c = room_rest (puts_both c.put_part-own.ensures c.put_count-entries.ensures) (render 6 c.args.count) (room_rest (puts_both c.put_count-file.ensures (puts_both c.put_part-batches.ensures c.put_count-batch.ensures)) (batch_bytes c.args.batchrow.now c.args.count ++ render 6 c.args.count) c.requires)

pub returns : goal.returns
returns c = puts_both (puts_both c.put_count-file.ensures (puts_both c.put_part-batches.ensures c.put_count-batch.ensures)) (puts_both (puts_both c.put_part-own.ensures c.put_count-entries.ensures) c.put_count.ensures)
