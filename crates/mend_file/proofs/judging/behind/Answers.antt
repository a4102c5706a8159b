use Rattle.std.proofs.Common.{◌+◌, length, refl, sym, ap, ◌∙◌, arith}
use Rattle.std.proofs.lemmas.List.{length_push}
use Rattle.layout.specs.declared.Fault.{Fault}
use Rattle.layout.specs.Paper.{refusal}
use Rattle.check_record.specs.Record.{raw_records}
use Rattle.mend_file.proofs.RecordLaws.{other_turn, other_end}
use Rattle.mend_file.proofs.JudgeLaws.{nines_on, nines_stop, nines_end, behind_is}
use Rattle.mend_file.proofs.judging.behind.Goals as goal

pub returns-then-not-starts_with : goal.returns-then-not-starts_with
returns-then-not-starts_with c =
    let turn = other_turn c.args.way c.args.file.now (c.args.before + 1) c.into_iter-i-iterator.result (cc) (cc c.record_bytes.ensures) (cc) (cc) c.loop-i.yielded _ c.loop-i.yielded_by _ _ c.next.ensures.steps (c.in-Some.i, c.in-Some.raw) c.in-Some.is in
    c.at.ensures ∙ ap (λ n. refusal Fault.Past (n + 1) 0) turn.0
    ∙ nines_stop (raw_records c.args.way c.args.file.now) (c.args.before + 1) (length c.loop-i.yielded) c.loop-i.invariant c.in-Some.raw.now c.filler-nines.result turn.1 c.filler-nines.ensures c.starts_with.result c.starts_with.ensures.value c.if-not-starts_with.true
    ∙ behind_is c.args.way c.args.file.now c.args.before c.requires.1

pub loop-i-preserved : goal.loop-i-preserved
loop-i-preserved c =
    let turn = other_turn c.args.way c.args.file.now (c.args.before + 1) c.into_iter-i-iterator.result (cc) (cc c.record_bytes.ensures) (cc) (cc) c.loop-i.yielded _ c.loop-i.yielded_by _ _ c.next.ensures.steps (c.in-Some.i, c.in-Some.raw) c.in-Some.is in
    rw (length_push c.loop-i.yielded (c.in-Some.i, c.in-Some.raw))
    (nines_on (raw_records c.args.way c.args.file.now) (c.args.before + 1) (length c.loop-i.yielded) c.loop-i.invariant c.in-Some.raw.now c.filler-nines.result turn.1 c.filler-nines.ensures c.starts_with.result c.starts_with.ensures.value c.if-not-starts_with.false)

pub returns : goal.returns
returns c =
    let past = other_end c.args.way c.args.file.now (c.args.before + 1) c.into_iter-i-iterator.result (cc) (cc c.record_bytes.ensures) (cc) (cc) c.loop-i.yielded _ c.loop-i.yielded_by _ _ c.next.ensures.steps c.in-None.is in
    nines_end (raw_records c.args.way c.args.file.now) (c.args.before + 1) (length c.loop-i.yielded) c.loop-i.invariant past ∙ behind_is c.args.way c.args.file.now c.args.before c.requires.1
