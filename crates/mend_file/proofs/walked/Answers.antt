use Rattle.std.proofs.Common.{◌+◌, length, ap, ◌∙◌, arith}
use Rattle.std.proofs.lemmas.List.{length_push}
use Rattle.mend.specs.Mend.{sums_past, header_past}
use Rattle.mend_file.proofs.RecordLaws.{first_turn, first_end}
use Rattle.mend_file.proofs.WalkLaws.{nine_inside}
use Rattle.mend_file.proofs.ListLaws.{sizing_on, sizing_end}
use Rattle.mend_file.proofs.walked.Goals as goal

pub loop-raw-preserved : goal.loop-raw-preserved
loop-raw-preserved c =
    let turn = first_turn c.args.way c.args.file.now c.args.before c.into_iter-raw-iterator.result (cc) (cc c.record_bytes.ensures) (cc) c.loop-raw.yielded _ c.loop-raw.yielded_by _ _ c.next.ensures.steps c.in-Some.raw c.in-Some.is in
    let s = c.loop-raw.passed.sums in
    let h = c.loop-raw.passed.header in
    let one = c.control_listed-one in
    rw (length_push c.loop-raw.yielded c.in-Some.raw)
    (sizing_on c.args.way c.args.file.now s h (length c.loop-raw.yielded) c.loop-raw.listed.rows c.loop-raw.listed.bytes c.loop-raw.invariant c.in-Some.raw.now turn.1 c.pass.new.self.sums c.pass.new.self.header one.result
    (omega (arith, turn.0, c.requires.1.before)) (c.pass.ensures.0 ∙ ap (sums_past s) c.chunk.ensures) (c.pass.ensures.1 ∙ ap (header_past h) c.chunk.ensures) one.ensures.0 one.ensures.1 one.ensures.2)

pub returns : goal.returns
returns c =
    let all = first_end c.args.way c.args.file.now c.args.before c.into_iter-raw-iterator.result (cc) (cc c.record_bytes.ensures) (cc) c.loop-raw.yielded _ c.loop-raw.yielded_by _ _ c.next.ensures.steps c.in-None.is (omega (arith, nine_inside c.args.way c.args.file.now c.args.before c.requires.1)) in
    sizing_end c.args.way c.args.file.now c.loop-raw.passed.sums c.loop-raw.passed.header c.args.before (length c.loop-raw.yielded) c.loop-raw.listed c.requires.1 c.loop-raw.passed.small all c.loop-raw.invariant
