use Rattle.std.proofs.Common.{◌&&◌, ◌∙◌, rules, tests}
use Rattle.std.proofs.lemmas.Iterator.{YieldsList-from_slice}
use Rattle.std.proofs.lemmas.Iterator.Consumers.{fold_from_yields_List}
use Rattle.check_alone.specs.Kinds.{is_text}
use Rattle.check_alone.proofs.Laws.{fold_every}
use Rattle.check_alone.proofs.texts.all_text.Goals as goal

pub returns : goal.returns
returns c =
    fold_from_yields_List _ (λ a b. a && is_text b) _ _ c.fold.ensures.ran (YieldsList-from_slice c.args.p.now cc) (λ a x b q k. search (rules, tests))
    ∙ fold_every is_text c.args.p.now
