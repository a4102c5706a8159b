use Rattle.std.specs.Prelude.{Ok}
use Rattle.std.proofs.Common.{◌≡◌, length, map}
use Rattle.text.specs.Rows.{joined}
use Rattle.check_sums.specs.WorkFair.{Fair}
use Rattle.view.specs.View.{closed_by}
use Rattle.view.specs.Table.{formed}
use Rattle.view_laws.proofs.Ways.{bare_run}
use Rattle.table_form.proofs.WalkLaws.{todo}
use Rattle.table_write.proofs.PassLaws.{Walking, Left}
use Rattle.table_write.proofs.passing.put_formed.Given as goal

abbrev pub invariant-loop-way : goal.invariant-loop-way
invariant-loop-way l =
    record {
      walking : Walking l.table l.c l.st;
      fair : Fair l.st;
      granted : (bare_run l.st (todo l.table l.c l.st)).answer ≡ Ok tt;
      left : Left (formed l.fn.way l.table) l.initial.file l.file l.at (joined (map (closed_by l.fn.way) (todo l.table l.c l.st)));
    }

abbrev pub decreases-loop-way : goal.decreases-loop-way
decreases-loop-way l = length (todo l.table l.c l.st)
