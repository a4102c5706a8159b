use Rattle.std.proofs.Common.{◌∙◌, Some, None}
use Rattle.std.proofs.lemmas.Slice.Eq.{strip_prefix_is}
use Rattle.std.proofs.lemmas.Bool.Decides.{Decides-eqb}
use Rattle.funds.proofs.WalkLaws.{compares_on, stripped, none_compared}
use Rattle.funds.proofs.filling.is_true_list.Goals as goal

pub returns-in_default : goal.returns-in_default
returns-in_default c =
    let other = strip_prefix_is Decides-eqb c.loop-row.held.now c.in-Some.row None c.in_default.ensures.cases in
    stripped _ c.in-Some.row _ _ c.in-Some.ensures.steps other ∙ c.loop-row.invariant.2

pub loop-row-preserved : goal.loop-row-preserved
loop-row-preserved c =
    let same = strip_prefix_is Decides-eqb c.loop-row.held.now c.in-Some.row (Some c.in-Some-strip_prefix.rest) c.in-Some-strip_prefix.ensures.cases in
    (tt, tt, compares_on _ c.in-Some.row _ _ _ c.in-Some.ensures.steps same ∙ c.loop-row.invariant.2)

pub returns : goal.returns
returns c = none_compared _ _ c.in-None.ensures.steps ∙ c.loop-row.invariant.2
