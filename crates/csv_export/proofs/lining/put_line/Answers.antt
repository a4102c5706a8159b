use Rattle.std.proofs.Common.{refl}
use Rattle.table_read.proofs.Writing.{puts_both, room_front, room_rest}
use Rattle.csv_export.proofs.FieldLaws.{room_as, puts_as}
use Rattle.csv_export.proofs.LineLaws.{line_pieces}
use Rattle.csv_export.proofs.lining.put_line.Goals as goal

pub put_text-requires : goal.put_text-requires
put_text-requires c =
    let r = room_as (line_pieces c.args.row.now _ refl) c.requires in
    room_front _ _ r

pub put_text-requires-2 : goal.put_text-requires-2
put_text-requires-2 c =
    let r = room_as (line_pieces c.args.row.now _ refl) c.requires in
    room_front _ _ (room_rest c.put_text.ensures.puts _ r)

pub put_text-requires-3 : goal.put_text-requires-3
put_text-requires-3 c =
    let r = room_as (line_pieces c.args.row.now _ refl) c.requires in
    room_front _ _ (room_rest c.put_text-2.ensures.puts _ (room_rest c.put_text.ensures.puts _ r))

pub put_amount-requires : goal.put_amount-requires
put_amount-requires c =
    let r = room_as (line_pieces c.args.row.now _ c.chunk.ensures) c.requires in
    room_front _ _ (room_rest c.put_text-3.ensures.puts _ (room_rest c.put_text-2.ensures.puts _ (room_rest c.put_text.ensures.puts _ r)))

pub put_text-requires-4 : goal.put_text-requires-4
put_text-requires-4 c =
    let r = room_as (line_pieces c.args.row.now _ c.chunk.ensures) c.requires in
    room_front _ _ (room_rest c.put_amount.ensures.puts _ (room_rest c.put_text-3.ensures.puts _ (room_rest c.put_text-2.ensures.puts _ (room_rest c.put_text.ensures.puts _ r))))

pub put_text-requires-5 : goal.put_text-requires-5
put_text-requires-5 c =
    let r = room_as (line_pieces c.args.row.now _ c.chunk.ensures) c.requires in
    room_front _ _ (room_rest c.put_text-4.ensures.puts _ (room_rest c.put_amount.ensures.puts _ (room_rest c.put_text-3.ensures.puts _ (room_rest c.put_text-2.ensures.puts _ (room_rest c.put_text.ensures.puts _ r)))))

pub put-requires : goal.put-requires
put-requires c =
    let r = room_as (line_pieces c.args.row.now _ c.chunk.ensures) c.requires in
    room_rest c.put_text-5.ensures.puts _ (room_rest c.put_text-4.ensures.puts _ (room_rest c.put_amount.ensures.puts _ (room_rest c.put_text-3.ensures.puts _ (room_rest c.put_text-2.ensures.puts _ (room_rest c.put_text.ensures.puts _ r)))))

pub returns-clause-puts : goal.returns-clause-puts
returns-clause-puts c =
    puts_as (line_pieces c.args.row.now _ c.chunk.ensures) (
    puts_both c.put_text.ensures.puts (puts_both c.put_text-2.ensures.puts (puts_both c.put_text-3.ensures.puts (puts_both c.put_amount.ensures.puts
    (puts_both c.put_text-4.ensures.puts (puts_both c.put_text-5.ensures.puts c.put.ensures.puts)))))
    )
