use Rattle.std.proofs.Common.{arith, length, ◌∙◌, ap}
use Rattle.layout.specs.Fields.{rows_of}
use Rattle.mend_file.specs.WorkChanging.{listed_of, field_rows}
use Rattle.mend_file.proofs.FieldLaws.{row_read, measured_on, measured_end, table_short}
use Rattle.mend_file.proofs.fields.listed.Goals as goal

pub loop-row-preserved : goal.loop-row-preserved
loop-row-preserved c =
    let items = c.rows-row-items.ensures in
    measured_on (rows_of c.args.line) c.args.old.now c.args.new.now c.loop-row.all.rows c.loop-row.all.bytes c.loop-row.row-index c.field_listed-one.result (omega (arith, ap length items))
    (c.field_listed-one.ensures.0 ∙ ap (λ x. listed_of (field_rows 0 1 x c.args.old.now c.args.new.now)) (row_read c.args.line c.rows-row-items.result.now c.loop-row.row-index _ items c.loop-row-test.true)) c.field_listed-one.ensures.1 c.field_listed-one.ensures.2 c.loop-row.invariant

pub returns : goal.returns
returns c =
    let many = ap length c.rows-row-items.ensures in (
      measured_end (rows_of c.args.line) c.args.old.now c.args.new.now c.loop-row.all.rows c.loop-row.all.bytes c.loop-row.row-index (omega (arith, many)) c.loop-row.invariant,
      omega (arith, many, c.loop-row.invariant.few, table_short c.args.line),
      omega (arith, many, c.loop-row.invariant.short, table_short c.args.line),
    )
