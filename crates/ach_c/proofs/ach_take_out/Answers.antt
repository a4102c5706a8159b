use Rattle.ach.proofs.ToldLaws.{made_told}
use Rattle.recall_view.specs.RecallView.{take_out_of}
use mathlib.Core.Path.{◌∙◌}
use Rattle.ach.specs.Told.{way_of}
use Rattle.ach_c.specs.Tells.{TellsTakenOut}
use Rattle.ach_c.proofs.Laws.{told_of}
use Rattle.ach_c.proofs.ach_take_out.Goals as goal

pub returns : goal.returns
returns c =
    let gives = c.take_out-made.ensures.0 in
    told_of
    (λ o. TellsTakenOut o c.args.length.now c.tell.result c.take_out-made.new.file c.take_out-made.new.rows c.tell.new.told)
    (λ w. take_out_of w c.args.file.now c.args.entries.now c.args.rows.now)
    c.way_of.result (way_of c.args.way) c.way_of.ensures
    (c.tell.ensures.0 ∙ (made_told _ _ c.args.length.now gives).0, c.take_out-made.ensures.1, c.take_out-made.ensures.2, c.tell.ensures.1 ∙ (made_told _ _ c.args.length.now gives).1)
