use mathlib.Core.Path.{refl}
use Rattle.std.proofs.lemmas.Result.{err_from_is_err_and}
use Rattle.std.proofs.Common.{rules}
use Rattle.alter.proofs.ExchangeLaws.{exchanged, not_exchanged}
use Rattle.alter.proofs.sides.exchange.Goals as goal

pub returns : goal.returns
returns c =
    exchanged c.args.way c.args.file.now c.args.places c.args.side c.args.total c.args.old c.args.amount c.batch_total.result _ c.batch_total.ensures c.in_ok-limits.ensures _ c.put.new.file refl
    (search rules) c.put.ensures

pub returns-in_err-limits : goal.returns-in_err-limits
returns-in_err-limits c =
    let p = err_from_is_err_and c.from_residual.result c.from_residual.ensures.1 in
    rw (p.1, p.2) (not_exchanged c.args.way c.args.file.now c.args.places c.args.side c.args.total c.args.old c.args.amount c.batch_total.result _ c.batch_total.ensures c.in_err-limits.ensures _ refl)
