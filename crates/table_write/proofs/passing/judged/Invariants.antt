use Rattle.std.proofs.Common.{◌≡◌, length}
use Rattle.layout.specs.declared.Way.{Way}
use Rattle.check_record.specs.Record.{checked_of}
use Rattle.check_sums.specs.WorkFair.{Fair}
use Rattle.view.specs.Table.{formed}
use Rattle.view_laws.proofs.Ways.{bare_run}
use Rattle.table_form.proofs.WalkLaws.{todo}
use Rattle.table_write.proofs.PassLaws.{Walking}
use Rattle.table_write.proofs.passing.judged.Given as goal

abbrev pub invariant-loop-groups : goal.invariant-loop-groups
invariant-loop-groups l =
    record {
      walking : Walking l.table l.c l.st;
      fair : Fair l.st;
      run : bare_run l.st (todo l.table l.c l.st) ≡ checked_of Way.Plain (formed Way.Plain l.table);
    }

abbrev pub decreases-loop-groups : goal.decreases-loop-groups
decreases-loop-groups l = length (todo l.table l.c l.st)
