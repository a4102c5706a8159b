use mathlib.Core.Path.{refl, sym}
use Rattle.std.specs.Prelude.{Ok}
use Rattle.layout.specs.Answers.{checked_as}
use Rattle.recall.specs.WorkReady.{AcceptedAs}
use Rattle.recall.proofs.OutLaws.{body_told, told_few, new_accepted, new_room, out_granted, front_new, front_long, front_blanks}
use Rattle.recall.proofs.take_out.Goals as goal

pub records_before-requires : goal.records_before-requires
records_before-requires c =
    let known : AcceptedAs c.args.way c.args.file.now (checked_as (Ok c.in_ok-accepted.accepted)) = record { told = c.in_ok-accepted.ensures; granted = refl } in
    told_few c.args.way c.args.file.now _ known

pub shorten-size-requires : goal.shorten-size-requires
shorten-size-requires c =
    let known : AcceptedAs c.args.way c.args.file.now (checked_as (Ok c.in_ok-accepted.accepted)) = record { told = c.in_ok-accepted.ensures; granted = refl } in
    rw c.records_before.ensures (body_told c.args.way c.args.file.now _ known)

pub fill-requires : goal.fill-requires
fill-requires c =
    let g = sym c.in_ok-judge.ensures.0 in
    let new = front_new c.args.way c.judge.new.flags c.args.file.now c.args.entries.now c.shorten-size.new.file c.shorten-size.result (c.in_ok-judge.ensures.1 refl) c.shorten-size.ensures.0 c.shorten-size.ensures.1 in
    (new_accepted c.args.way c.args.file.now c.args.entries.now c.args.rows.now g _ new, new_room c.args.way c.args.file.now c.args.entries.now c.args.rows.now g _ new)

pub returns : goal.returns
returns c =
    let g = sym c.in_ok-judge.ensures.0 in
    let marks = c.in_ok-judge.ensures.1 refl in
    let new = front_new c.args.way c.judge.new.flags c.args.file.now c.args.entries.now c.shorten-size.new.file c.shorten-size.result marks c.shorten-size.ensures.0 c.shorten-size.ensures.1 in
    out_granted c.args.way c.args.file.now c.args.entries.now c.args.rows.now g _ new c.shorten-size.result c.shorten-size.new.file c.fill.new.rows
    (front_long c.args.way c.judge.new.flags c.args.file.now c.args.entries.now c.shorten-size.new.file c.shorten-size.result marks c.shorten-size.ensures.0 c.shorten-size.ensures.1)
    (front_blanks c.args.way c.judge.new.flags c.args.file.now c.args.entries.now c.shorten-size.new.file c.shorten-size.result marks c.shorten-size.ensures.0 c.shorten-size.ensures.1)
    c.fill.ensures
