use Rattle.std.proofs.Common.{◌∙◌, ap, drop, take, rules, tests}
use Rattle.std.proofs.lemmas.Iterator.{YieldsList-from_slice}
use Rattle.std.proofs.lemmas.Iterator.Search.{all_from_yields_List}
use Rattle.text.specs.Decimal.{digits}
use Rattle.table_form.proofs.ShapeLaws.{test_rows, number_ends}
use Rattle.table_form.proofs.shape.numbered.Goals as goal

pub returns : goal.returns
returns c =
    all_from_yields_List (λ row. digits (take 6 (drop 89 row))) _ _ _ c.all.ensures.ran (YieldsList-from_slice c.args.batches.now cc)
    (λ x b q k. search (rules, tests))
    ∙ test_rows 95 _ _ c.args.batches.now (λ row long. ap digits (number_ends row long)) c.told-batches
