use Rattle.std.proofs.Common.{arith}
use Rattle.mend_file.proofs.FieldLaws.{field_same, field_differs, none_listed, one_listed}
use Rattle.mend_file.proofs.fields.field_listed.Goals as goal

pub returns-then-eq : goal.returns-then-eq
returns-then-eq c = (none_listed _ (field_same 0 1 c.args.row c.args.old.now c.args.new.now _ _ c.field_text-was.ensures.0 c.field_text-is.ensures.0 c.eq.result c.eq.ensures c.if-eq.true), omega arith, omega arith)

pub returns : goal.returns
returns c = (one_listed _ 0 1 _ _ (field_differs 0 1 c.args.row c.args.old.now c.args.new.now _ _ c.field_text-was.ensures.0 c.field_text-is.ensures.0 c.eq.result c.eq.ensures c.if-eq.false), omega arith, omega (arith, c.field_text-was.ensures.1, c.field_text-is.ensures.1))
