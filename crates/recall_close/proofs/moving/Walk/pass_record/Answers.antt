use Rattle.layout.specs.declared.Line.{Line}
use Rattle.recall_close.proofs.PutLaws.{none_passed, one_passed}
use Rattle.recall_close.proofs.moving.Walk.pass_record.Goals as goal

pub returns-in-File : goal.returns-in-File
returns-in-File c = rw (← c.sort_of.ensures, c.in-File.is) (one_passed c.args.way c.args.file.now _ c.args.rec.now c.args.self.now Line.FileHeader _ _ _ _ c.put-self.ensures)

pub returns-in-Batch : goal.returns-in-Batch
returns-in-Batch c = rw (← c.sort_of.ensures, c.in-Batch.is) (none_passed c.args.way c.args.file.now c.args.self.now _ c.requires.0.small)

pub returns-in-Entry : goal.returns-in-Entry
returns-in-Entry c = rw (← c.sort_of.ensures, c.in-Entry.is) c.pass_entry.ensures

pub returns-in-Addendum : goal.returns-in-Addendum
returns-in-Addendum c = rw (← c.sort_of.ensures, c.in-Addendum.is) c.pass_addendum.ensures

pub returns-in-Control : goal.returns-in-Control
returns-in-Control c = rw (← c.sort_of.ensures, c.in-Control.is) c.pass_control.ensures
