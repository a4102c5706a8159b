use Rattle.std.proofs.Common.{◌+◌, ◌*◌, length, sym, ap, ◌∙◌, arith}
use Rattle.table_write.proofs.WriteLaws.{no_room, granted}
use Rattle.csv_cells.specs.Cells.{lines_in}
use Rattle.csv_entry.specs.Import.{import_answer, import_table}
use Rattle.csv_import.proofs.Judging.{import_size}
use Rattle.csv_import.proofs.import.Goals as goal

pub returns-then-table-size : goal.returns-then-table-size
returns-then-table-size c =
    let list = c.in_ok-filerow.ensures.granted in
    let size = import_size c.args.filerow.now c.args.batchrow.now c.args.lines.now (sym c.in_ok-filerow.ensures.answer) c.in_ok-filerow.list.count (c.in_ok-filerow.list.counted ∙ ap (λ l. length (lines_in l)) list.2) in
    rw c.whole.ensures
    (no_room (import_answer c.args.filerow.now c.args.batchrow.now c.args.lines.now) (import_table c.args.filerow.now c.args.batchrow.now c.args.lines.now) c.args.table.now (sym c.in_ok-filerow.ensures.answer) (omega (arith, size, c.if-table-size.true)))

pub put_table-requires : goal.put_table-requires
put_table-requires c =
    let list = c.in_ok-filerow.ensures.granted in
    let size = import_size c.args.filerow.now c.args.batchrow.now c.args.lines.now (sym c.in_ok-filerow.ensures.answer) c.in_ok-filerow.list.count (c.in_ok-filerow.list.counted ∙ ap (λ l. length (lines_in l)) list.2) in
    rw (list.0, list.1, list.2) (omega (arith, list.3), omega (arith, size, c.if-table-size.false))

pub returns : goal.returns
returns c =
    let list = c.in_ok-filerow.ensures.granted in
    let size = import_size c.args.filerow.now c.args.batchrow.now c.args.lines.now (sym c.in_ok-filerow.ensures.answer) c.in_ok-filerow.list.count (c.in_ok-filerow.list.counted ∙ ap (λ l. length (lines_in l)) list.2) in
    let stands = rw (list.0, list.1, list.2) at c.put_table.ensures in
    granted (import_answer c.args.filerow.now c.args.batchrow.now c.args.lines.now) (import_table c.args.filerow.now c.args.batchrow.now c.args.lines.now) c.args.table.now (sym c.in_ok-filerow.ensures.answer)
    (204 + 93 * c.in_ok-filerow.list.count) c.put_table.new.table (sym size) (omega (arith, size, c.if-table-size.false)) stands
