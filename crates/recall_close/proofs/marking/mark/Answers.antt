use Rattle.std.proofs.Common.{◌≤◌, get_or, rules}
use Rattle.view_laws.proofs.BridgeFields.{never}
use Rattle.recall_close.proofs.MarkLaws.{bad_number, marking_on, all_there, all_marked}
use Rattle.recall_close.proofs.marking.mark.Goals as goal

pub returns-then-not-contains : goal.returns-then-not-contains
returns-then-not-contains c = (bad_number c.loop-n.invariant c.loop-n-test.true (λ o p. search rules), λ e. never e)

pub loop-n-preserved : goal.loop-n-preserved
loop-n-preserved c =
    let first : 1 ≤ get_or c.args.numbers.now c.loop-n.n-index 0 = search rules in
    let last : get_or c.args.numbers.now c.loop-n.n-index 0 ≤ c.args.count = search rules in
    marking_on c.loop-n.invariant c.loop-n-test.true first last _ c.set.ensures

pub returns : goal.returns
returns c = (all_there c.loop-n.invariant c.loop-n-test.false, λ e. all_marked c.loop-n.invariant c.loop-n-test.false)
