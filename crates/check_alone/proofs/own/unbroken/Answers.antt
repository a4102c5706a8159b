use Rattle.std.proofs.Common.{◌&&◌, ◌∙◌, rules, tests}
use Rattle.std.proofs.lemmas.Iterator.Consumers.{fold_from_yields_List}
use Rattle.check_alone.proofs.OwnLaws.{yields_pairs, pairs_unbroken, stays}
use Rattle.check_alone.proofs.own.unbroken.Goals as goal

pub returns : goal.returns
returns c =
    fold_from_yields_List _ (λ a w. a && stays w) _ _ c.fold.ensures.ran
    (yields_pairs c.args.p.now c.array_windows.ensures.rest c.array_windows.ensures.size) (λ a x b q k. search (rules, tests))
    ∙ pairs_unbroken c.args.p.now
