use Rattle.std.proofs.Common.{◌≡◌, ◌∙◌, length, ap, arith, rules, tests}
use Rattle.std.specs.List.{sum_by}
use Rattle.std.proofs.lemmas.Iterator.{YieldsList-from_slice}
use Rattle.std.proofs.lemmas.Iterator.Adapters.{fits_from_length, at_most_from_yields_List}
use Rattle.text.proofs.RowLaws.{length_rows}
use Rattle.csv_export.specs.Lining.{line_of_row}
use Rattle.csv_export.proofs.LineLaws.{rows_size, rows_short}
use Rattle.csv_export.proofs.lining.lines_size.Goals as goal

pub sum-requires-clause-fits : goal.sum-requires-clause-fits
sum-requires-clause-fits c =
    let many = ap length c.rows.ensures ∙ length_rows 93 c.args.entries _ in
    fits_from_length _ _ 1000000 _ (at_most_from_yields_List (YieldsList-from_slice c.rows.result.now cc) (omega arith)) c.map.ensures.closure (omega arith)
    (λ x r q k. search (rules, tests))

pub returns : goal.returns
returns c =
    let many = ap length c.rows.ensures ∙ length_rows 93 c.args.entries _ in
    let size : c.sum.result ≡ sum_by (λ row. length (line_of_row row)) c.rows.result.now = search rules in
    let all = size ∙ rows_size c.rows.result.now in
    (rw (← c.rows.ensures) all, omega (arith, all, rows_short c.rows.result.now, many))
