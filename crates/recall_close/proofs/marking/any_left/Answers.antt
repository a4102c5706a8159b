use Rattle.std.proofs.Common.{not, ◌∙◌, rules, tests, arith}
use Rattle.std.proofs.lemmas.Iterator.Search.{any_from_yields_List}
use Rattle.recall_close.specs.WorkMoving.{gone}
use Rattle.recall_close.proofs.MarkLaws.{some_in_range}
use Rattle.recall_close.proofs.RangeLaws.{YieldsList-from_inclusive}
use Rattle.recall_close.proofs.marking.any_left.Goals as goal

pub returns : goal.returns
returns c =
    any_from_yields_List (λ k. not (gone c.args.flags.now k)) _ _ _ c.any.ensures.ran (YieldsList-from_inclusive c.new.result 1 c.args.count c.args.count c.new.ensures.start c.new.ensures.end c.new.ensures.exhausted (omega arith)) (λ x b q k. search (rules, tests))
    ∙ some_in_range c.args.flags.now 1 c.args.count
