use Rattle.find_entry.proofs.Parts.{cut_out_lem, counted, record_part}
use Rattle.text.specs.Decimal.{value}
use lib.ListN.{length, take, drop}
use lib.Dec.{lit≤}
use native.Mathlib.Omega.{arith}
use Prim.Native.Nat.{◌+◌, ◌*◌}
use mathlib.Core.Path.{sym, ◌∙◌, ap}
use Rattle.funds.proofs.filling.control_credit.Goals as goal

pub returns : goal.returns
returns c = c.number.ensures ∙ ap value (cut_out_lem c.args.file.now (c.record_bytes.result * c.args.i + 32) 12) ∙ ap (λ w. value (take 12 (drop (w * c.args.i + 32) c.args.file.now))) c.record_bytes.ensures ∙ ap value (sym (record_part c.args.way c.args.file.now c.args.i (omega (arith, counted c.args.way (length c.args.file.now) (c.args.i + 1) (c.requires))) 32 12 (lit≤ tt)))
