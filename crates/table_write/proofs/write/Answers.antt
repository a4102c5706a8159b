use Rattle.std.proofs.Common.{◌*◌, sym, ◌∙◌, ap₂, arith}
use Rattle.std.proofs.lemmas.Result.{err_from_is_err_and}
use Rattle.view.specs.Table.{formed}
use Rattle.table_write.specs.Judge.{writable}
use Rattle.table_write.proofs.WriteLaws.{shape_right, file_right, not_many, formed_length, judged_refused, no_room, granted, write_gives}
use Rattle.table_write.proofs.write.Goals as goal

pub returns-in_err-judge : goal.returns-in_err-judge
returns-in_err-judge c =
    let q = err_from_is_err_and c.from_residual.result c.from_residual.ensures.1 in
    rw (q.1, q.2)
    (write_gives c.args.way c.args.table.now c.args.file.now
    (judged_refused (writable c.args.table.now) (formed c.args.way c.args.table.now) c.args.file.now c.in_err-judge.field-0.0 (sym c.in_err-judge.ensures)))

pub returns-then-file-size : goal.returns-then-file-size
returns-then-file-size c =
    let size = ap₂ (λ x y. x * y) c.record_bytes.ensures c.records_in.ensures.0 ∙ sym (formed_length c.args.way c.args.table.now c.args.file.now (sym c.in_ok-judge.ensures)) in
    rw c.whole.ensures
    (write_gives c.args.way c.args.table.now c.args.file.now
    (no_room (writable c.args.table.now) (formed c.args.way c.args.table.now) c.args.file.now (sym c.in_ok-judge.ensures) (omega (arith, size, c.if-file-size.true))))

pub put_formed-requires : goal.put_formed-requires
put_formed-requires c =
    let g = sym c.in_ok-judge.ensures in
    let size = ap₂ (λ x y. x * y) c.record_bytes.ensures c.records_in.ensures.0 ∙ sym (formed_length c.args.way c.args.table.now c.args.file.now (sym c.in_ok-judge.ensures)) in
    (shape_right c.args.table.now g, not_many c.args.table.now g, file_right c.args.table.now g, omega (arith, size, c.if-file-size.false))

pub returns : goal.returns
returns c =
    let size = ap₂ (λ x y. x * y) c.record_bytes.ensures c.records_in.ensures.0 ∙ sym (formed_length c.args.way c.args.table.now c.args.file.now (sym c.in_ok-judge.ensures)) in
    write_gives c.args.way c.args.table.now c.args.file.now
    (granted (writable c.args.table.now) (formed c.args.way c.args.table.now) c.args.file.now (sym c.in_ok-judge.ensures) (c.record_bytes.result * c.records_in.result) c.put_formed.new.file size (omega (arith, size, c.if-file-size.false)) c.put_formed.ensures)
