use Rattle.recall_close.proofs.PutLaws.{control_put, control_gone}
use Rattle.recall_close.proofs.moving.Walk.pass_control.Goals as goal
use Rattle.recall_close.proofs.moving.Walk.pass_control.Goals.{then-not-self, else-not-self}

pub returns : goal.returns
returns c =
    elim c.if-not-self.branch [
      | then-not-self w ↦ rw (w.self-is, w.file-is) (control_put c.args.way c.args.file.now c.args.self.now _ _ _ w.if-not-self.true w.batch_control-control.ensures w.put-self.ensures)
      | else-not-self w ↦ rw (w.self-is, w.file-is) (control_gone c.args.way c.args.file.now c.args.self.now w.if-not-self.false c.requires.small)
    ]
