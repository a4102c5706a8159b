use Rattle.std.proofs.Common.{refl, ap, ◌∙◌}
use Rattle.table_read.proofs.Writing.{puts_both, room_front, room_rest}
use Rattle.csv_export.specs.Quoting.{unpadded}
use Rattle.csv_export.proofs.FieldLaws.{amount_pieces, room_as, puts_as}
use Rattle.csv_export.proofs.quoting.Out.put_amount.Goals as goal

pub put-requires : goal.put-requires
put-requires c =
    let r = room_as (amount_pieces c.args.amount.now _ _ refl refl c.args.behind) c.requires in
    room_front _ _ r

pub put_doubled-requires : goal.put_doubled-requires
put_doubled-requires c =
    let r = room_as (amount_pieces c.args.amount.now _ _ (c.unpadded.ensures ∙ ap unpadded c.split_at.ensures.front) c.split_at.ensures.back c.args.behind) c.requires in
    room_front _ _ (room_rest c.put.ensures.puts _ r)

pub put-requires-2 : goal.put-requires-2
put-requires-2 c =
    let r = room_as (amount_pieces c.args.amount.now _ _ (c.unpadded.ensures ∙ ap unpadded c.split_at.ensures.front) c.split_at.ensures.back c.args.behind) c.requires in
    room_front _ _ (room_rest c.put_doubled.ensures.puts _ (room_rest c.put.ensures.puts _ r))

pub put_doubled-requires-2 : goal.put_doubled-requires-2
put_doubled-requires-2 c =
    let r = room_as (amount_pieces c.args.amount.now _ _ (c.unpadded.ensures ∙ ap unpadded c.split_at.ensures.front) c.split_at.ensures.back c.args.behind) c.requires in
    room_front _ _ (room_rest c.put-2.ensures.puts _ (room_rest c.put_doubled.ensures.puts _ (room_rest c.put.ensures.puts _ r)))

pub put-requires-3 : goal.put-requires-3
put-requires-3 c =
    let r = room_as (amount_pieces c.args.amount.now _ _ (c.unpadded.ensures ∙ ap unpadded c.split_at.ensures.front) c.split_at.ensures.back c.args.behind) c.requires in
    room_front _ _ (room_rest c.put_doubled-2.ensures.puts _ (room_rest c.put-2.ensures.puts _ (room_rest c.put_doubled.ensures.puts _ (room_rest c.put.ensures.puts _ r))))

pub put-requires-4 : goal.put-requires-4
put-requires-4 c =
    let r = room_as (amount_pieces c.args.amount.now _ _ (c.unpadded.ensures ∙ ap unpadded c.split_at.ensures.front) c.split_at.ensures.back c.args.behind) c.requires in
    room_rest c.put-3.ensures.puts _ (room_rest c.put_doubled-2.ensures.puts _ (room_rest c.put-2.ensures.puts _ (room_rest c.put_doubled.ensures.puts _ (room_rest c.put.ensures.puts _ r))))

pub returns-clause-puts : goal.returns-clause-puts
returns-clause-puts c = puts_as (amount_pieces c.args.amount.now _ _ (c.unpadded.ensures ∙ ap unpadded c.split_at.ensures.front) c.split_at.ensures.back c.args.behind) (search puts_both)
