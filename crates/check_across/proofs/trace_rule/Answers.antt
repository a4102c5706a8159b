use Rattle.std.proofs.Common.{rules}
use Rattle.check_alone.proofs.Laws.{need_err}
use Rattle.check_across.proofs.trace_rule.Goals as goal

pub returns-in_err-all_digits : goal.returns-in_err-all_digits
returns-in_err-all_digits c = need_err _ _ _ _ _ _ c.all_digits.ensures c.in_err-all_digits.was (search rules)
