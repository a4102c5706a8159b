use Rattle.std.proofs.Common.{◌≡◌, ◌==◌, ◌∙◌, get_or, rules}
use Rattle.std.specs.List.{count_by}
use Rattle.table_form.proofs.ShapeLaws.{sum_rows, flag_in}
use Rattle.table_form.proofs.shape.due.Goals as goal

pub returns : goal.returns
returns c =
    let e : c.count.result ≡ count_by (λ row. get_or row 77 0 == 49) c.args.entries.now = search rules in
    e ∙ sum_rows 93 _ _ c.args.entries.now (λ row long. flag_in row) c.told-entries
