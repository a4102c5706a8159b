use Rattle.std.proofs.Common.{arith, length, ap, ◌∙◌}
use Rattle.layout.specs.Fields.{rows_of}
use Rattle.layout.specs.WorkFits.{row_fits}
use Rattle.layout.proofs.Tables.{row_right}
use Rattle.mend_file.proofs.FieldLaws.{row_read, fields_room, fields_on, fields_done}
use Rattle.mend_file.proofs.fields.put.Goals as goal

pub put_field-to-requires : goal.put_field-to-requires
put_field-to-requires c = (
  ap row_fits (row_read c.args.line c.rows-row-items.result.now c.loop-k.k _ c.rows-row-items.ensures c.loop-k-test.true) ∙ row_right c.args.line c.loop-k.k,
  c.requires.0,
  c.requires.1,
  fields_room (rows_of c.args.line) c.args.old.now c.args.new.now c.args.number c.args.list.now c.args.start c.loop-k.k (omega (arith, ap length c.rows-row-items.ensures)) _ (row_read c.args.line c.rows-row-items.result.now c.loop-k.k _ c.rows-row-items.ensures c.loop-k-test.true) c.loop-k.invariant c.requires.2,
)

pub loop-k-preserved : goal.loop-k-preserved
loop-k-preserved c = fields_on (rows_of c.args.line) c.args.old.now c.args.new.now c.args.number c.args.list.now c.args.start c.loop-k.k (omega (arith, ap length c.rows-row-items.ensures)) _ (row_read c.args.line c.rows-row-items.result.now c.loop-k.k _ c.rows-row-items.ensures c.loop-k-test.true) c.loop-k.invariant c.put_field-to.ensures

pub returns : goal.returns
returns c = fields_done (rows_of c.args.line) c.args.old.now c.args.new.now c.args.number c.args.list.now c.args.start (omega (arith, ap length c.rows-row-items.ensures)) c.loop-k.invariant
