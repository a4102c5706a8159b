use mathlib.Core.Path.{refl, sym, ◌∙◌, ap}
use mir.Syntax.{w64}
use mir.Val.{to_z, of_z}
use Rattle.std.proofs.Common.{◌≡◌, rules}
use Rattle.std.proofs.lemmas.Result.{err_from_is_err_and}
use Rattle.layout.specs.Answers.{Checked}
use Rattle.alter.proofs.Listing.{file_first, other_list, refused_listed, granted_listed, ready_again}
use Rattle.alter.proofs.alter.Goals as goal

pub returns-in_err-accepted : goal.returns-in_err-accepted
returns-in_err-accepted c =
    let p = err_from_is_err_and c.from_residual.result c.from_residual.ensures.1 in
    rw (p.1, p.2) (file_first c.args.way c.args.file.now c.args.rows.now c.args.entry.0 c.args.amount _ (ap (λ (x : Checked). x.answer) (sym c.in_err-accepted.ensures)))

pub returns-then-not-is_true_list : goal.returns-then-not-is_true_list
returns-then-not-is_true_list c =
    let g = ap (λ (x : Checked). x.answer) (sym c.in_ok-accepted.ensures) in
    rw c.whole.ensures (other_list c.args.way c.args.file.now c.args.rows.now c.args.entry.0 c.args.amount g (sym c.is_true_list.ensures ∙ c.if-not-is_true_list.true))

pub returns-in_err-difference : goal.returns-in_err-difference
returns-in_err-difference c =
    let g = ap (λ (x : Checked). x.answer) (sym c.in_ok-accepted.ensures) in
    let t = sym c.is_true_list.ensures ∙ c.if-not-is_true_list.false in
    let p = err_from_is_err_and c.from_residual-in_err-difference.result c.from_residual-in_err-difference.ensures.1 in
    rw (p.1, p.2) (refused_listed c.args.way c.args.file.now c.args.rows.now c.args.entry.0 c.args.amount g t c.in_err-difference.ensures.0 c.in_err-difference.ensures.1 _ refl)

pub fill-requires : goal.fill-requires
fill-requires c =
    let g = ap (λ (x : Checked). x.answer) (sym c.in_ok-accepted.ensures) in
    let t = sym c.is_true_list.ensures ∙ c.if-not-is_true_list.false in
    ready_again c.args.way c.args.file.now c.args.rows.now c.args.entry.0 c.args.amount g t c.in_ok-difference.ensures.0 c.in_ok-difference.ensures.1 refl

pub returns : goal.returns
returns c =
    let g = ap (λ (x : Checked). x.answer) (sym c.in_ok-accepted.ensures) in
    let t = sym c.is_true_list.ensures ∙ c.if-not-is_true_list.false in
    let same : to_z w64 (of_z w64 c.in_ok-difference.difference) ≡ c.in_ok-difference.difference = search rules in
    let l = granted_listed c.args.way c.args.file.now c.args.rows.now c.args.entry.0 c.args.amount g t c.in_ok-difference.ensures.0 c.in_ok-difference.ensures.1 refl c.fill.ensures in
    rw same l
