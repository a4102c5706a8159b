use Rattle.recall_close.proofs.bits.Flags.set.Goals as goal

pub returns : goal.returns
returns c = rw (← c.self.view_is) c.set.ensures.set
