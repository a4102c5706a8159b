use Rattle.recall_close.proofs.PutLaws.{addendum_put, addendum_gone}
use Rattle.recall_close.proofs.moving.Walk.pass_addendum.Goals as goal

pub returns-then-self : goal.returns-then-self
returns-then-self c = addendum_put c.args.way c.args.file.now c.args.rec.now c.args.self.now _ _ c.if-self.true c.put-self.ensures

pub returns-else-self : goal.returns-else-self
returns-else-self c = addendum_gone c.args.way c.args.file.now c.args.rec.now c.args.self.now c.if-self.false c.requires.small
