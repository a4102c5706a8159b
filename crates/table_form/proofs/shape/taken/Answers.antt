use Rattle.std.proofs.Common.{◌≡◌, ◌∙◌, ap, drop, take, rules}
use Rattle.std.specs.List.{sum_by}
use Rattle.text.specs.Decimal.{value}
use Rattle.table_form.proofs.ShapeLaws.{sum_rows, number_ends}
use Rattle.table_form.proofs.shape.taken.Goals as goal

pub returns : goal.returns
returns c =
    let e : c.sum.result ≡ sum_by (λ row. value (take 6 (drop 89 row))) c.args.batches.now = search rules in
    e ∙ sum_rows 95 _ _ c.args.batches.now (λ row long. ap value (number_ends row long)) c.told-batches
