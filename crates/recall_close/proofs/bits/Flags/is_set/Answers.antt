use mathlib.Core.Path.{ap, ◌∙◌}
use Rattle.recall_close.specs.WorkBits.{flag_at}
use Rattle.recall_close.proofs.bits.Flags.is_set.Goals as goal

pub returns : goal.returns
returns c = c.is_set.ensures ∙ ap (λ bytes. flag_at bytes c.args.k) c.self.view_is
