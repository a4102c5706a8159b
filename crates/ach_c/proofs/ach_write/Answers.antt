use Rattle.ach.proofs.ToldLaws.{made_told}
use Rattle.view.specs.Outcome.{write_of}
use mathlib.Core.Path.{◌∙◌}
use Rattle.ach.specs.Told.{way_of}
use Rattle.ach_c.specs.Tells.{TellsMade}
use Rattle.ach_c.proofs.Laws.{told_of}
use Rattle.ach_c.proofs.ach_write.Goals as goal

pub returns : goal.returns
returns c =
    let gives = c.write-made.ensures.0 in
    told_of
    (λ o. TellsMade o c.args.length.now c.tell.result c.write-made.new.file c.tell.new.told)
    (λ w. write_of w c.args.table.now c.args.file.now)
    c.way_of.result (way_of c.args.way) c.way_of.ensures
    (c.tell.ensures.0 ∙ (made_told _ _ c.args.length.now gives).0, c.write-made.ensures.1, c.tell.ensures.1 ∙ (made_told _ _ c.args.length.now gives).1)
