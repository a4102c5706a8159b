use Rattle.std.proofs.Common.{arith, rules}
use Rattle.recall_close.proofs.CloseLaws.{old_few}
use Rattle.recall.proofs.CountLaws.{counted_first, counted_next, counted_end}
use Rattle.recall.proofs.batches.batches_left.Goals as goal

pub loop-rec-init : goal.loop-rec-init
loop-rec-init c = (search rules, search rules, counted_first c.args.way c.args.flags.now c.args.file.now c.args.count c.requires (cc) (cc) (cc))

pub count_record-requires : goal.count_record-requires
count_record-requires c =
    let left = c.in-Some.ensures.steps.1 in
    let few = old_few c.args.way c.args.flags.now c.args.file.now c.args.count c.requires in
    (omega (arith, c.loop-rec.invariant.2.entries), omega (arith, c.loop-rec.invariant.2.batches))

pub loop-rec-preserved : goal.loop-rec-preserved
loop-rec-preserved c =
    let h = c.in-Some.ensures.steps in
    (search rules, search rules, rw h.0.0 (counted_next c.loop-rec.invariant.2 _ _ _ _ h.0.1.0 h.0.1.1 h.1 c.count_record.ensures))

pub returns : goal.returns
returns c =
    let few = old_few c.args.way c.args.flags.now c.args.file.now c.args.count c.requires in
    (counted_end c.loop-rec.invariant.2 (λ l. (c.in-None.ensures.steps l).1.0), omega (arith, c.loop-rec.invariant.2.batches))
