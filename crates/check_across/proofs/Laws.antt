-- Assumes nothing.
use Prim.Native.Nat.{ℕ}
use native.Mathlib.Omega.{arith}
use mathlib.Core.Path.{◌≡◌}
use mathlib.Core.List.{List}
use lib.Dec.{lit≤}
use lib.ListN.{length}
use Rattle.text.proofs.RowLaws.{length_columns}
use Rattle.layout.specs.Fields.{entry, part}

-- field 3 of an entry has eight bytes
pub bank_long : (r : List ℕ) → length r ≡ 94 → length (part entry 3 r) ≡ 8
bank_long r e = length_columns 4 11 r (lit≤ tt) (omega arith)
