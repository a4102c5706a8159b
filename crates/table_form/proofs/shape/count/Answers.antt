use Rattle.check_sums.proofs.SumLaws.{digits_small}
use Rattle.text.specs.Decimal.{value}
use lib.ListN.{take, drop}
use mathlib.Core.Path.{◌≡◌}
use Prim.Native.Nat.{◌+◌, ◌-◌}
use native.Mathlib.Omega.{arith}
use mathlib.Core.Path.{◌∙◌, ap}
use Rattle.table_form.proofs.shape.count.Goals as goal

pub returns : goal.returns
returns c = let wide : c.args.at + 6 - c.args.at ≡ 6 = omega arith in let e = c.number.ensures ∙ ap (λ n. value (take n (drop c.args.at c.args.table.now))) wide in (e, rw e (digits_small 6 (drop c.args.at c.args.table.now)))
