use Rattle.check_file.proofs.Laws.{Turn, left, left_next, left_more, left_few, run_stop, run_unclosed, run_on, run_end, state, state_path}
use Rattle.check_sums.proofs.SumLaws.{records_next, said_small}
use Rattle.check_sums.specs.declared.State.{State}
use Rattle.check_across.specs.declared.Sums.{Sums}
use Rattle.check_record.proofs.Laws.{fields_right_lem, fields_wrong, fields_end}
use Rattle.layout.specs.Fields.{first_field}
use Rattle.std.specs.Slice.Iter.{chunks_exact_rest}
use Prim.Native.Nat.{◌+◌}
use native.Mathlib.Omega.{arith}
use mathlib.Core.Path.{sym, ◌∙◌, ap}
use Rattle.check_file.proofs.check.Goals as goal

pub loop-k-preserved : goal.loop-k-preserved
loop-k-preserved c =
    let right = sym c.field.ensures ∙ c.in_default.is in
    sym (fields_right_lem c.line_at-line.result c.loop-k.k c.loop-raw.sums c.loop-raw.header c.chunk-rec.result.now (omega arith) right) ∙ c.loop-k.invariant

pub count_in_row-requires : goal.count_in_row-requires
count_in_row-requires c =
    let i = c.loop-raw.invariant in
    (λ k. omega (arith, i.fair.rows k, left_few c.args.way _ _ i.room), (said_small c.chunk-rec.result.now c.said-said.result c.said-said.ensures).1)

pub next_sums-sums-requires : goal.next_sums-sums-requires
next_sums-sums-requires c =
    let i = c.loop-raw.invariant in
    let s = c.in-Some.ensures.steps in
    let st : State = state c.loop-raw.place c.loop-raw.sums c.loop-raw.header c.loop-raw.bycode in
    let t : Turn _ _ _ _ _ st _ = record { parts = s.1.0; long = s.1.1 ∙ i.wide; cut = c.chunk-rec.ensures; taken = c.line_at-line.ensures } in
    (i.fair.sums, left_more c.args.way c.loop-raw.sums.records t i.room, c.said-said.ensures)

pub loop-raw-preserved : goal.loop-raw-preserved
loop-raw-preserved c =
    let i = c.loop-raw.invariant in
    let s = c.in-Some.ensures.steps in
    let st : State = state c.loop-raw.place c.loop-raw.sums c.loop-raw.header c.loop-raw.bycode in
    let t : Turn _ _ _ _ _ st _ = record { parts = s.1.0; long = s.1.1 ∙ i.wide; cut = c.chunk-rec.ensures; taken = c.line_at-line.ensures } in
    let counted = ap (λ (s : Sums). s.records) c.next_sums-sums.ensures.0 ∙ records_next c.loop-raw.sums c.line_at-line.result c.chunk-rec.result.now in
    let rows = c.count_in_row.ensures in
    let next = state_path c.next_place-place.ensures c.next_sums-sums.ensures.0 c.next_header-header.ensures (rows.1 c.chunk-rec.result.now c.said-said.ensures) in
    let right = sym c.loop-k.invariant ∙ fields_end c.line_at-line.result c.loop-k.k (first_field c.line_at-line.result + c.loop-k.k) c.loop-raw.sums c.loop-raw.header c.chunk-rec.result.now (omega arith) in
    record {
      next = rw s.0 i.next;
      ends = tt;
      wide = s.0 ∙ i.wide;
      fair = record { sums = c.next_sums-sums.ensures.1; rows = rw counted (rows.0 c.loop-raw.sums.records i.fair.rows) };
      room = rw counted (left_next c.args.way c.loop-raw.sums.records t i.room);
      rest = ap (left c.args.way (chunks_exact_rest c.next.new.self)) next ∙ sym (run_on t right (sym c.closed.ensures ∙ c.if-not-closed.false)) ∙ i.rest;
    }

pub returns-in-Err : goal.returns-in-Err
returns-in-Err c =
    let i = c.loop-raw.invariant in
    let s = c.in-Some.ensures.steps in
    let st : State = state c.loop-raw.place c.loop-raw.sums c.loop-raw.header c.loop-raw.bycode in
    let t : Turn _ _ _ _ _ st _ = record { parts = s.1.0; long = s.1.1 ∙ i.wide; cut = c.chunk-rec.ensures; taken = c.line_at-line.ensures } in
    let wrong = sym c.loop-k.invariant ∙ fields_wrong c.line_at-line.result c.loop-k.k c.loop-raw.sums c.loop-raw.header c.chunk-rec.result.now c.in-Err.fault (omega arith) (sym c.field.ensures ∙ c.in-Err.is) in
    rw (c.at.ensures, c.first_field.ensures) (sym (run_stop t _ _ wrong) ∙ i.rest)

pub returns-then-not-closed : goal.returns-then-not-closed
returns-then-not-closed c =
    let i = c.loop-raw.invariant in
    let s = c.in-Some.ensures.steps in
    let st : State = state c.loop-raw.place c.loop-raw.sums c.loop-raw.header c.loop-raw.bycode in
    let t : Turn _ _ _ _ _ st _ = record { parts = s.1.0; long = s.1.1 ∙ i.wide; cut = c.chunk-rec.ensures; taken = c.line_at-line.ensures } in
    let right = sym c.loop-k.invariant ∙ fields_end c.line_at-line.result c.loop-k.k (first_field c.line_at-line.result + c.loop-k.k) c.loop-raw.sums c.loop-raw.header c.chunk-rec.result.now (omega arith) in
    rw c.at-then-not-closed.ensures (sym (run_unclosed t right (sym c.closed.ensures ∙ c.if-not-closed.true)) ∙ i.rest)

pub returns-in-None : goal.returns-in-None
returns-in-None c =
    let i = c.loop-raw.invariant in
    let st : State = state c.loop-raw.place c.loop-raw.sums c.loop-raw.header c.loop-raw.bycode in
    c.finished.ensures ∙ sym (run_end c.args.way (chunks_exact_rest c.loop-raw.raw-iterator) st (omega (arith, c.in-None.ensures.steps.1.0, i.wide))) ∙ i.rest
