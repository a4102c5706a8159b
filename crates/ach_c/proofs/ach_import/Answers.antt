use Rattle.ach.proofs.ToldLaws.{made_told}
use mathlib.Core.Path.{◌∙◌}
use Rattle.ach_c.proofs.ach_import.Goals as goal

pub returns : goal.returns
returns c = let e = c.import-made.ensures.0 in (c.tell.ensures.0 ∙ (made_told _ _ c.args.length.now e).0, c.import-made.ensures.1, c.tell.ensures.1 ∙ (made_told _ _ c.args.length.now e).1)
