use Rattle.check_across.specs.declared.Sums.{Sums}
use Rattle.check_sums.proofs.SumLaws.{records_next, said_small}
use native.Mathlib.Omega.{arith}
use mathlib.Core.Path.{◌∙◌, ap}
use Rattle.check_sums.proofs.tally.Goals as goal

pub count_in_row-requires : goal.count_in_row-requires
count_in_row-requires c = (λ k. omega (arith, c.requires.0.rows k, c.requires.0.sums.few), (said_small c.args.rec.now c.said-said.result c.said-said.ensures).1)

pub returns : goal.returns
returns c =
    let counted = ap (λ (s : Sums). s.records) c.next_sums.ensures.0 ∙ records_next c.args.st.sums c.args.line c.args.rec.now in
    let rows = c.count_in_row.ensures.1 c.args.rec.now c.said-said.ensures in (
      (λ i. record { place = c.next_place.ensures i; sums = c.next_sums.ensures.0 i; header = c.next_header-header.ensures i; bycode = rows i }),
      record { sums = c.next_sums.ensures.1; rows = rw counted (c.count_in_row.ensures.0 c.args.st.sums.records c.requires.0.rows) },
      counted,
    )
