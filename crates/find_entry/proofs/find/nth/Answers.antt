use Rattle.std.proofs.Common.{rules}
use Rattle.find_entry.proofs.Walk.{look_first, found_at, one_less, none_less, at_end}
use Rattle.find_entry.proofs.find.nth.Goals as goal

pub loop-i-init : goal.loop-i-init
loop-i-init c = (search rules, search rules, look_first c.args.way c.args.file.now c.args.from c.args.byte c.args.k c.record_bytes-wide.ensures (cc) (cc) (cc) c.requires)

pub returns-then-left-eq0 : goal.returns-then-left-eq0
returns-then-left-eq0 c = let h = c.in-Some.ensures.steps in rw h.1 (found_at c.loop-i.invariant.2 _ _ h.0.1.0 h.0.1.1 c.if-rec-byte.true c.if-left-eq0.true)

pub loop-i-preserved-then-rec-byte : goal.loop-i-preserved-then-rec-byte
loop-i-preserved-then-rec-byte c =
    let h = c.in-Some.ensures.steps in
    (search rules, search rules, rw (h.2, h.0.0) (one_less c.loop-i.invariant.2 _ _ h.0.1.0 h.0.1.1 c.if-rec-byte.true c.if-left-eq0.false))

pub loop-i-preserved : goal.loop-i-preserved
loop-i-preserved c =
    let h = c.in-Some.ensures.steps in
    (search rules, search rules, rw (h.2, h.0.0) (none_less c.loop-i.invariant.2 _ _ h.0.1.0 h.0.1.1 c.if-rec-byte.false))

pub returns : goal.returns
returns c = let h = c.in-None.ensures.steps in rw c.record_bytes-wide.ensures (at_end c.loop-i.invariant.2 h.0.1.0)
