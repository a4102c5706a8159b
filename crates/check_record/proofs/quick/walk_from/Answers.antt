use Rattle.check_record.proofs.Laws.{fields_end}
use Rattle.layout.specs.Fields.{first_field}
use native.Mathlib.Omega.{arith}
use Prim.Native.Nat.{◌+◌}
use mathlib.Core.Path.{sym, ◌∙◌}
use Rattle.check_record.proofs.quick.walk_from.Goals as goal

pub returns-then-passes-clause-skips : goal.returns-then-passes-clause-skips
returns-then-passes-clause-skips c = fields_end c.args.line c.rows_in.result (first_field c.args.line) c.args.sums c.args.header.now c.args.rec.now (omega arith) ∙ sym (c.passes.ensures c.if-passes.true)

pub returns-then-passes-clause-numbered : goal.returns-then-passes-clause-numbered
returns-then-passes-clause-numbered c = fields_end c.args.line c.rows_in.result (first_field c.args.line + c.rows_in.result) c.args.sums c.args.header.now c.args.rec.now (omega arith) ∙ sym (c.passes.ensures c.if-passes.true)
