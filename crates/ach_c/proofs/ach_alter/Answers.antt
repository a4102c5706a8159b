use Rattle.ach.proofs.ToldLaws.{altered_told}
use Rattle.alter.specs.Alter.{alter_listed_of}
use mathlib.Core.Path.{◌∙◌}
use Rattle.ach.specs.Told.{way_of}
use Rattle.ach_c.specs.Tells.{TellsAltered}
use Rattle.ach_c.proofs.Laws.{told_of}
use Rattle.ach_c.proofs.ach_alter.Goals as goal

pub returns : goal.returns
returns c =
    let gives = c.alter-altered.ensures.0 in
    told_of
    (λ o. TellsAltered o c.args.difference.now c.tell.result c.alter-altered.new.file c.alter-altered.new.rows c.tell.new.told)
    (λ w. alter_listed_of w c.args.file.now c.args.rows.now c.args.entry c.args.amount)
    c.way_of.result (way_of c.args.way) c.way_of.ensures
    (c.tell.ensures.0 ∙ (altered_told _ _ c.args.difference.now gives).0, c.alter-altered.ensures.1, c.alter-altered.ensures.2, c.tell.ensures.1 ∙ (altered_told _ _ c.args.difference.now gives).1)
