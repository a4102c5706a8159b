use Rattle.std.proofs.Common.{length, sym, ap, ◌∙◌, arith}
use Rattle.std.proofs.lemmas.Result.{err_from_is_err_and}
use Rattle.table_write.specs.Judge.{writable}
use Rattle.table_write.proofs.PassLaws.{right}
use Rattle.table_write.proofs.WriteLaws.{shape_right, judged_refused, no_room, granted}
use Rattle.csv_export.specs.Lining.{exported}
use Rattle.csv_export.proofs.LineLaws.{lines_exported, export_stands}
use Rattle.csv_export.proofs.export.Goals as goal

pub returns-in_err-judge : goal.returns-in_err-judge
returns-in_err-judge c =
    let p = err_from_is_err_and c.from_residual.result c.from_residual.ensures.1 in
    rw (p.1, p.2) (judged_refused (writable c.args.table.now) (exported c.args.table.now) c.args.lines.now c.in_err-judge.field-0.0 (sym c.in_err-judge.ensures))

pub sections-s-requires : goal.sections-s-requires
sections-s-requires c = (right c.args.table.now (shape_right c.args.table.now (sym c.in_ok-judge.ensures))).size

pub returns-then-lines-size : goal.returns-then-lines-size
returns-then-lines-size c =
    let size = c.lines_size-size.ensures.0 ∙ ap length (lines_exported c.args.table.now c.sections-s.result c.sections-s.ensures) in
    rw c.whole.ensures
    (no_room (writable c.args.table.now) (exported c.args.table.now) c.args.lines.now (sym c.in_ok-judge.ensures) (omega (arith, size)))

pub returns : goal.returns
returns c =
    let size = c.lines_size-size.ensures.0 ∙ ap length (lines_exported c.args.table.now c.sections-s.result c.sections-s.ensures) in
    let stands = export_stands c.args.table.now c.sections-s.result c.sections-s.ensures c.args.lines.now c.put_lines.new.lines c.put_lines.result (omega (arith, size)) c.put_lines.ensures in
    granted (writable c.args.table.now) (exported c.args.table.now) c.args.lines.now (sym c.in_ok-judge.ensures) c.lines_size-size.result c.put_lines.new.lines size (omega (arith, size)) stands
