use Rattle.std.proofs.Common.{rules}
use Rattle.csv_import.proofs.Steps.{failed_run}
use Rattle.csv_import.proofs.judge.behind.Goals as goal

pub returns-clause-refused : goal.returns-clause-refused
returns-clause-refused c =
    failed_run c.args.st c.args.rec.now c.check.result _ c.map_err.result c.map_err.ensures.cases c.check.ensures.step (λ wrong d e. search rules)
