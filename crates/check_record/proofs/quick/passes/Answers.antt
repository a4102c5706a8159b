use Rattle.check_record.proofs.QuickLaws.{entry_passes, addendum_passes}
use mathlib.Core.Path.{sym, ◌∙◌}
use Rattle.check_record.proofs.quick.passes.Goals as goal

pub returns-in-Addendum : goal.returns-in-Addendum
returns-in-Addendum c = λ e. rw c.in-Addendum.is (addendum_passes c.args.sums c.args.header.now c.args.rec.now (sym c.addendum_all.ensures ∙ e))

pub returns-then-entry_front : goal.returns-then-entry_front
returns-then-entry_front c = λ e. rw c.in-Entry.is (entry_passes c.args.sums c.args.header.now c.args.rec.now (sym c.entry_front.ensures ∙ c.if-entry_front.true) (sym c.entry_back.ensures ∙ e))
