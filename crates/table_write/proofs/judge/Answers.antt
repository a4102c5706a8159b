use Rattle.std.proofs.Common.{sym, ◌∙◌, arith}
use Rattle.table_write.proofs.WriteLaws.{too_many}
use Rattle.table_write.proofs.judge.Goals as goal

pub returns-then-records_in-gt1000000 : goal.returns-then-records_in-gt1000000
returns-then-records_in-gt1000000 c =
    c.whole-then-records_in-gt1000000.ensures
    ∙ too_many c.args.table.now (sym c.shaped.ensures ∙ c.if-not-shaped.false) (omega (arith, c.records_in.ensures.0, c.if-records_in-gt1000000.true))
