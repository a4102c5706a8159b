use Rattle.find_entry.proofs.Addenda.{asked_answer}
use Rattle.find_entry.specs.WorkAsked.{asked_of}
use mathlib.Core.Path.{◌∙◌, ap}
use Rattle.find_entry.proofs.addendum_answer.Goals as goal

pub returns : goal.returns
returns c = c.asked.ensures ∙ ap (λ a. asked_of a c.args.entry.0) c.check.ensures ∙ asked_answer c.args.way c.args.file.now c.args.entry.0
