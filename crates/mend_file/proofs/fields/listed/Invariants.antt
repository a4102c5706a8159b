use Rattle.layout.specs.Fields.{rows_of}
use Rattle.mend_file.proofs.FieldLaws.{Measured}
use Rattle.mend_file.proofs.fields.listed.Given as goal

abbrev pub invariant-loop-row : goal.invariant-loop-row
invariant-loop-row l = Measured (rows_of l.fn.line) l.old l.new l.all.rows l.all.bytes l.row-index
