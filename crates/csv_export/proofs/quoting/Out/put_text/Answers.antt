use Rattle.std.proofs.Common.{refl}
use Rattle.table_read.proofs.Writing.{puts_both, room_front, room_rest}
use Rattle.csv_export.proofs.FieldLaws.{cell_pieces, room_as, puts_as}
use Rattle.csv_export.proofs.quoting.Out.put_text.Goals as goal

pub put-requires : goal.put-requires
put-requires c =
    let r = room_as (cell_pieces _ _ c.args.behind refl) c.requires in
    room_front _ _ r

pub put_doubled-requires : goal.put_doubled-requires
put_doubled-requires c =
    let r = room_as (cell_pieces _ _ c.args.behind c.trimmed.ensures) c.requires in
    room_front _ _ (room_rest c.put.ensures.puts _ r)

pub put-requires-2 : goal.put-requires-2
put-requires-2 c =
    let r = room_as (cell_pieces _ _ c.args.behind c.trimmed.ensures) c.requires in
    room_front _ _ (room_rest c.put_doubled.ensures.puts _ (room_rest c.put.ensures.puts _ r))

pub put-requires-3 : goal.put-requires-3
put-requires-3 c =
    let r = room_as (cell_pieces _ _ c.args.behind c.trimmed.ensures) c.requires in
    room_rest c.put-2.ensures.puts _ (room_rest c.put_doubled.ensures.puts _ (room_rest c.put.ensures.puts _ r))

pub returns-clause-puts : goal.returns-clause-puts
returns-clause-puts c = puts_as (cell_pieces _ _ c.args.behind c.trimmed.ensures) (search puts_both)
