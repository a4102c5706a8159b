use Rattle.std.proofs.Common.{sym, ◌∙◌, ap, length, map, arith}
use Rattle.text.specs.Rows.{joined}
use Rattle.layout.specs.Answers.{Checked}
use Rattle.check_sums.specs.Sums.{tally}
use Rattle.view.specs.View.{closed_by}
use Rattle.table_write.proofs.PassLaws.{form_long, form_first, some_left_lem, granted_passes, step_by_lem, none_left, begun, walking_on, left_first, left_closed, left_end}
use lib.Seq.{length-sets}
use Rattle.table_write.proofs.passing.put_formed.Goals as goal

pub loop-way-init : goal.loop-way-init
loop-way-init c =
    let b = begun c.args.table.now c.opened-c.result c.start-st.result c.requires.0 c.requires.1 c.opened-c.ensures c.start-st.ensures.0 in
    record {
      walking = b.walking;
      fair = c.start-st.ensures.1;
      granted = ap (λ (x : Checked). x.answer) b.run ∙ c.requires.2;
      left = left_first _ c.args.file.now _ (ap (λ rs. joined (map (closed_by c.args.way) rs)) b.all) c.requires.3;
    }

pub copy_into-requires : goal.copy_into-requires
copy_into-requires c = omega (arith, c.loop-way.invariant.left.room, form_first c.args.table.now c.loop-way.c c.loop-way.st c.loop-way.invariant.walking.header (sym c.complete.ensures ∙ c.loop-way-test.true) c.loop-way.invariant.walking.inside c.args.way c.form-rec.result c.form-rec.ensures)

pub end_line-requires : goal.end_line-requires
end_line-requires c =
    omega (arith, c.loop-way.invariant.left.room, form_first c.args.table.now c.loop-way.c c.loop-way.st c.loop-way.invariant.walking.header (sym c.complete.ensures ∙ c.loop-way-test.true) c.loop-way.invariant.walking.inside c.args.way c.form-rec.result c.form-rec.ensures, form_long c.args.table.now c.loop-way.c c.loop-way.st c.loop-way.invariant.walking.header (sym c.complete.ensures ∙ c.loop-way-test.true) c.loop-way.invariant.walking.inside c.form-rec.result c.form-rec.ensures, ap length c.copy_into.ensures, length-sets c.loop-way.file c.loop-way.at c.form-rec.result)

pub tally-st-requires : goal.tally-st-requires
tally-st-requires c = (c.loop-way.invariant.fair, omega (arith, c.loop-way.invariant.walking.few, some_left_lem c.args.table.now c.loop-way.c c.loop-way.st c.loop-way.invariant.walking.header (sym c.complete.ensures ∙ c.loop-way-test.true) c.loop-way.invariant.walking.inside))

pub loop-way-smaller : goal.loop-way-smaller
loop-way-smaller c =
    let s = step_by_lem c.args.table.now c.loop-way.c c.loop-way.st c.loop-way.invariant.walking.header (sym c.complete.ensures ∙ c.loop-way-test.true) c.loop-way.invariant.walking.inside c.form-rec.result c.tally-st.result c.advance-c.result c.form-rec.ensures
    (granted_passes c.args.table.now c.loop-way.c c.loop-way.st c.loop-way.invariant.walking.header (sym c.complete.ensures ∙ c.loop-way-test.true) c.loop-way.invariant.walking.inside c.form-rec.result c.form-rec.ensures c.loop-way.invariant.granted)
    (c.tally-st.ensures.0 ∙ ap (λ l. tally c.loop-way.st l c.form-rec.result) c.line_at-line.ensures) c.advance-c.ensures in
    omega (arith, s.fewer)

pub loop-way-preserved : goal.loop-way-preserved
loop-way-preserved c =
    let s = step_by_lem c.args.table.now c.loop-way.c c.loop-way.st c.loop-way.invariant.walking.header (sym c.complete.ensures ∙ c.loop-way-test.true) c.loop-way.invariant.walking.inside c.form-rec.result c.tally-st.result c.advance-c.result c.form-rec.ensures
    (granted_passes c.args.table.now c.loop-way.c c.loop-way.st c.loop-way.invariant.walking.header (sym c.complete.ensures ∙ c.loop-way-test.true) c.loop-way.invariant.walking.inside c.form-rec.result c.form-rec.ensures c.loop-way.invariant.granted)
    (c.tally-st.ensures.0 ∙ ap (λ l. tally c.loop-way.st l c.form-rec.result) c.line_at-line.ensures) c.advance-c.ensures in
    record {
      walking = walking_on c.loop-way.invariant.walking s;
      fair = c.tally-st.ensures.1;
      granted = ap (λ (x : Checked). x.answer) (sym s.run) ∙ c.loop-way.invariant.granted;
      left =
          rw (c.end_line.ensures, c.copy_into.ensures, c.record_bytes-at.ensures)
          (left_closed c.args.way _ c.form-rec.result _ s.form (form_long c.args.table.now c.loop-way.c c.loop-way.st c.loop-way.invariant.walking.header (sym c.complete.ensures ∙ c.loop-way-test.true) c.loop-way.invariant.walking.inside c.form-rec.result c.form-rec.ensures) c.loop-way.invariant.left);
    }

pub returns : goal.returns
returns c = left_end c.args.way _ (none_left c.args.table.now c.loop-way.c c.loop-way.st (sym c.complete.ensures ∙ c.loop-way-test.false)) c.loop-way.invariant.left
