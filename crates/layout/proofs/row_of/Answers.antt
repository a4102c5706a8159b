use native.Mathlib.Nat.{le_refl}
use mathlib.Core.Path.{◌≡◌}
use lib.ListN.{get_or}
use Rattle.layout.specs.Fields.{rows_of, no_row}
use Rattle.layout.proofs.Tables.{row_right}
use Rattle.layout.proofs.row_of.Goals as goal

pub returns : goal.returns
returns c =
    let e : c.unwrap_or.result ≡ get_or (rows_of c.args.line) c.args.k no_row =
    rw (c.unwrap_or.ensures, c.copied.ensures, ← c.rows.ensures) (c.get.ensures.lookup.4 (le_refl c.args.k) no_row) in
    (e, rw e (row_right c.args.line c.args.k))
