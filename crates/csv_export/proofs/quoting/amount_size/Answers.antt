use Rattle.std.proofs.Common.{length, ap, ◌∙◌, arith}
use Rattle.csv_export.specs.Quoting.{unpadded}
use Rattle.csv_export.proofs.FieldLaws.{amount_length, unpadded_short}
use Rattle.csv_export.proofs.quoting.amount_size.Goals as goal

pub returns : goal.returns
returns c =
    let dollars = c.unpadded.ensures ∙ ap unpadded c.split_at.ensures.front in
    let short = unpadded_short c.split_at.result.0.now in (
      omega (arith, amount_length c.args.amount.now _ _ dollars c.split_at.ensures.back),
      omega (arith, ap length c.unpadded.ensures, short, c.told-amount),
    )
