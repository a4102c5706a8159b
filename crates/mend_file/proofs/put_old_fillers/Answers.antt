use Rattle.mend_file.proofs.FillerLaws.{plus_put, plus_test, old_room}
use borrow.Author.Tests.{le-leb}
use native.Mathlib.Omega.{arith}
use Rattle.mend_file.proofs.put_old_fillers.Goals as goal

pub put_digits-requires : goal.put_digits-requires
put_digits-requires c = rw (le-leb c.args.old 9 (omega arith)) at c.requires

pub bounds-list-to : goal.bounds-list-to
bounds-list-to c = omega (arith, old_room c.args.old c.requires)

pub returns : goal.returns
returns c = plus_put c.args.old c.args.list.now c.args.to (plus_test c.args.old (omega arith))
