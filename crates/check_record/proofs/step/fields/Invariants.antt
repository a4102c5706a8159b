use Rattle.check_record.proofs.Laws.{fields_left}
use Rattle.check_record.specs.Record.{fields_from}
use Rattle.layout.specs.Fields.{rows_of, first_field}
use mathlib.Core.Path.{◌≡◌}
use Rattle.check_record.proofs.step.fields.Given as goal

abbrev pub invariant-loop-k : goal.invariant-loop-k
invariant-loop-k l = fields_left l.line l.k l.sums l.header l.rec ≡ fields_from (first_field l.line) (rows_of l.line) l.sums l.header l.rec
