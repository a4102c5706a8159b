use mathlib.Core.Path.{sym, ◌∙◌, ap}
use native.Mathlib.Omega.{arith}
use Rattle.std.proofs.lemmas.Result.{err_from_is_err_and}
use Rattle.layout.specs.Answers.{Checked}
use Rattle.funds.proofs.CheckLaws.{file_refused, no_room, room_for_rows, listed}
use Rattle.funds.proofs.filling.check.Goals as goal

pub returns-in_err-accepted : goal.returns-in_err-accepted
returns-in_err-accepted c =
    let p = err_from_is_err_and c.from_residual.result c.from_residual.ensures.1 in
    let l = file_refused c.args.way c.args.file.now c.args.rows.now _ (ap (λ (x : Checked). x.answer) (sym c.in_err-accepted.ensures)) in
    rw (p.1, p.2) (c.in_err-accepted.ensures ∙ l.0, l.1)

pub returns-then-rows-accepted : goal.returns-then-rows-accepted
returns-then-rows-accepted c =
    let g = ap (λ (x : Checked). x.answer) (sym c.in_ok-accepted.ensures) in
    rw c.whole.ensures (no_room c.args.way c.args.file.now c.args.rows.now g (omega (arith, ap (λ (x : Checked). x.batches) c.in_ok-accepted.ensures)))

pub fill-requires : goal.fill-requires
fill-requires c =
    let g = ap (λ (x : Checked). x.answer) (sym c.in_ok-accepted.ensures) in
    (g, room_for_rows c.args.way c.args.file.now c.args.rows.now g (omega (arith, ap (λ (x : Checked). x.batches) c.in_ok-accepted.ensures)))

pub returns : goal.returns
returns c =
    let g = ap (λ (x : Checked). x.answer) (sym c.in_ok-accepted.ensures) in
    let l = listed c.args.way c.args.file.now c.args.rows.now g (omega (arith, ap (λ (x : Checked). x.batches) c.in_ok-accepted.ensures)) in
    (c.in_ok-accepted.ensures ∙ l.0, c.fill.ensures ∙ l.1)
