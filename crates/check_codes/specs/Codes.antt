-- "Known codes: credits 22, 23, 32, 33; debits 27, 28, 37, 38. 23, 28, 33 and 38 are prenotes with amount 0; the others carry
--  1 to 9,999,999,999." "Zero-dollar entries that carry only remittance text: codes 24 and 34 credit, 29 and 39 debit. They are known
--  from now on, .. with amount 0."
use Rattle.std.specs.Prelude.{ℕ, Bool, true, false, ◌&&◌, ◌||◌, not, leb, eqb}
use Rattle.text.specs.Decimal.{pick}
use Rattle.check_codes.specs.declared.Use.{Use}
use Rattle.check_codes.specs.declared.Code.{Code}

abbrev pub code_of : ℕ → Code
code_of n =
    pick (eqb n 22 || eqb n 32) (Code.Credit Use.Live)
    (pick (eqb n 23 || eqb n 33) (Code.Credit Use.Prenote)
    (pick (eqb n 24 || eqb n 34) (Code.Credit Use.Remittance)
    (pick (eqb n 27 || eqb n 37) (Code.Debit Use.Live)
    (pick (eqb n 28 || eqb n 38) (Code.Debit Use.Prenote)
    (pick (eqb n 29 || eqb n 39) (Code.Debit Use.Remittance) Code.Unknown)))))

abbrev pub known : Code → Bool
known Code.Unknown = false
known (Code.Credit u) = true
known (Code.Debit u) = true

-- "under 220 credit codes only, under 225 debit codes only, under 200 either"
abbrev pub allowed : ℕ → Code → Bool
allowed class Code.Unknown = false
allowed class (Code.Credit u) = not (eqb class 225)
allowed class (Code.Debit u) = not (eqb class 220)

abbrev pub use_carries : Use → ℕ → Bool
use_carries Use.Live amount = leb 1 amount && leb amount 9999999999
use_carries Use.Prenote amount = eqb amount 0
use_carries Use.Remittance amount = eqb amount 0

abbrev pub carries : Code → ℕ → Bool
carries Code.Unknown amount = false
carries (Code.Credit u) amount = use_carries u amount
carries (Code.Debit u) amount = use_carries u amount

-- a code whose entries "carry only remittance text"
abbrev pub use_remits : Use → Bool
use_remits Use.Live = false
use_remits Use.Prenote = false
use_remits Use.Remittance = true

abbrev pub remits : Code → Bool
remits Code.Unknown = false
remits (Code.Credit u) = use_remits u
remits (Code.Debit u) = use_remits u

-- what an entry's amount adds to the debits and to the credits
abbrev pub debit_part : Code → ℕ → ℕ
debit_part Code.Unknown amount = 0
debit_part (Code.Credit u) amount = 0
debit_part (Code.Debit u) amount = amount

abbrev pub credit_part : Code → ℕ → ℕ
credit_part Code.Unknown amount = 0
credit_part (Code.Credit u) amount = amount
credit_part (Code.Debit u) amount = 0

-- "The rows by code become twelve, in rising order": the row of a known code, from 0
abbrev pub code_row : ℕ → ℕ
code_row n =
    pick (eqb n 22) 0 (pick (eqb n 23) 1 (pick (eqb n 24) 2 (pick (eqb n 27) 3 (pick (eqb n 28) 4 (pick (eqb n 29) 5
    (pick (eqb n 32) 6 (pick (eqb n 33) 7 (pick (eqb n 34) 8 (pick (eqb n 37) 9 (pick (eqb n 38) 10 11))))))))))
