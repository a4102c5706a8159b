use Rattle.recall_close.proofs.PutLaws.{none_passed}
use Rattle.recall_close.proofs.moving.Walk.pass_entry.Goals as goal

pub returns-then-is_set : goal.returns-then-is_set
returns-then-is_set c = rw (← c.is_set.ensures, c.if-is_set.true) (none_passed c.args.way c.args.file.now c.args.self.now _ c.requires.0.small)
