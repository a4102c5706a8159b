use Rattle.layout.specs.Fields.{rows_of}
use Rattle.mend_file.proofs.FieldLaws.{FieldsLeft}
use Rattle.mend_file.proofs.fields.put.Given as goal

abbrev pub invariant-loop-k : goal.invariant-loop-k
invariant-loop-k l = FieldsLeft (rows_of l.fn.line) l.old l.new l.number l.initial.list l.start l.list l.to l.k
