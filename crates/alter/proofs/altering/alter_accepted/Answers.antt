use mathlib.Core.Path.{sym, ◌∙◌, ap}
use Rattle.std.proofs.lemmas.Result.{err_from_is_err_and}
use Rattle.layout.specs.Answers.{checked_as}
use Rattle.find_entry.specs.WorkAsked.{asked_of}
use Rattle.find_entry.proofs.Addenda.{asked_answer, granted_there}
use Rattle.alter.proofs.AmountLaws.{refused_first}
use Rattle.alter.proofs.altering.alter_accepted.Goals as goal

pub alter_there-requires : goal.alter_there-requires
alter_there-requires c = (
  granted_there c.args.way c.args.file.now c.args.k (sym (asked_answer c.args.way c.args.file.now c.args.k) ∙ ap (λ a. asked_of a c.args.k) (sym c.requires) ∙ sym c.in_ok-asked.ensures),
  sym (ap checked_as c.in_ok-checked.was) ∙ c.requires,
)

pub returns-in_err-asked : goal.returns-in_err-asked
returns-in_err-asked c =
    let p = err_from_is_err_and c.from_residual.result c.from_residual.ensures.1 in
    rw (p.1, p.2) (refused_first c.args.way c.args.file.now c.args.k c.args.amount _ (sym (asked_answer c.args.way c.args.file.now c.args.k) ∙ ap (λ a. asked_of a c.args.k) (sym c.requires) ∙ sym c.in_err-asked.ensures))
