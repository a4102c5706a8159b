-- Why the sums over at most a million records fit: each record adds less than 10,000,000,000.
-- Assumes nothing.
use Prim.Native.Nat.{ℕ, ◌+◌, ◌^◌, ◌<◌, ◌≤◌}
use native.Mathlib.Nat.{lt_of_lt_of_le, pow-le-pow_right}
use native.Mathlib.Omega.{arith}
use mathlib.Core.Path.{◌≡◌, refl}
use mathlib.Core.List.{List}
use lib.Dec.{lit<}
use lib.ListN.{length, take, drop, length-take}
use Rattle.text.specs.Decimal.{value}
use Rattle.text.proofs.DecimalLaws.{value_lt}
use Rattle.layout.specs.declared.Line.{Line}
use Rattle.check_codes.specs.declared.Code.{Code}
use Rattle.check_codes.specs.Codes.{debit_part, credit_part}
use Rattle.check_across.specs.declared.Sums.{Sums}
use Rattle.check_across.specs.declared.Numbers.{Numbers}
use Rattle.check_across.specs.Across.{said_of}
use Rattle.check_across.specs.WorkSmall.{Small}
use Rattle.check_sums.specs.Sums.{entered, add_batch, next_sums}

-- n digits write less than 10 ^ n
pub digits_small : (n : ℕ) (xs : List ℕ) → value (take n xs) < 10 ^ n
digits_small n xs =
    let short : length (take n xs) ≤ n = simp length-take (omega arith) in
    lt_of_lt_of_le (value_lt (take n xs)) (pow-le-pow_right (lit< tt) short)

-- an entry's numbers are small
pub said_small : (r : List ℕ) (said : Numbers) → said ≡ said_of r
    → (said.bank < 10000000000) × (said.amount < 10000000000)
said_small r said e =
    rw e
    (omega (arith, digits_small 8 (drop 3 r)), omega (arith, digits_small 10 (drop 29 r)))

-- no side of an entry has more than its amount, and the sums stay small: cited by no proof, and kept for the reader
pub debit_le : (c : Code) (a : ℕ) → debit_part c a ≤ a
debit_le Code.Unknown a = omega arith
debit_le (Code.Credit u) a = omega arith
debit_le (Code.Debit u) a = omega arith

pub credit_le : (c : Code) (a : ℕ) → credit_part c a ≤ a
credit_le Code.Unknown a = omega arith
credit_le (Code.Credit u) a = omega arith
credit_le (Code.Debit u) a = omega arith

pub small_entered : (s : Sums) (bank debit credit trace : ℕ) → Small s → s.records < 1000000
    → bank < 10000000000 → debit < 10000000000 → credit < 10000000000 → Small (entered s bank debit credit trace)
small_entered s bank debit credit trace h n b d c =
    record {
      few = omega arith;
      batches = omega arith;
      entries = omega arith;
      addenda = omega arith;
      hash = omega arith;
      debit = omega arith;
      credit = omega arith;
      batchrecords = omega arith;
      batchhash = omega arith;
      batchdebit = omega arith;
      batchcredit = omega arith;
    }

pub small_batch : (s : Sums) (r : List ℕ) → Small s → s.records < 1000000 → Small (add_batch s r)
small_batch s r h n =
    record {
      few = omega arith;
      batches = omega arith;
      entries = omega arith;
      addenda = omega arith;
      hash = omega arith;
      debit = omega arith;
      credit = omega arith;
      batchrecords = omega arith;
      batchhash = omega arith;
      batchdebit = omega arith;
      batchcredit = omega arith;
    }

-- every record counts once
pub records_next : (s : Sums) (line : Line) (r : List ℕ) → (next_sums s line r).records ≡ s.records + 1
records_next s Line.FileHeader r = refl
records_next s Line.BatchHeader r = refl
records_next s Line.Entry r = refl
records_next s Line.Addendum r = refl
records_next s Line.BatchControl r = refl
records_next s Line.FileControl r = refl
records_next s Line.Filler r = refl
records_next s Line.Past r = refl
records_next s Line.Other r = refl
