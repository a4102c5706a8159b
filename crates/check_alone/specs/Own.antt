-- The rules that look at their own field alone. p is the field's bytes.
use Rattle.std.specs.Prelude.{Ok}
use Rattle.std.specs.Prelude.{ℕ, ◌/◌, ◌%◌, Bool, true, ◌&&◌, ◌||◌, not, List, [], ◌∷◌, leb, eqb, get_or}
use Rattle.text.specs.Decimal.{pick, every, is_digit, digits, value}
use Rattle.text.specs.Rows.{columns}
use Rattle.text.specs.Same.{same_bytes}
use Rattle.layout.specs.declared.Fault.{Fault}
use Rattle.layout.specs.declared.Own.{Own}
use Rattle.check_digit.specs.CheckDigit.{check_digit}
use Rattle.check_alone.specs.Mark.{Mark}
use Rattle.check_alone.specs.Kinds.{need, blank, leads}

-- "hour 00-23 and minute 00-59"
abbrev pub real_time : ℕ → ℕ → Bool
real_time hour minute = leb hour 23 && leb minute 59

-- "four blanks, or digits (6) with hour 00-23 and minute 00-59 (10)"
abbrev pub time : List ℕ → Mark
time p =
    pick (blank p) (Ok tt)
    (need (digits p) Fault.Digits (need (real_time (value p / 100) (value p % 100)) Fault.Date (Ok tt)))

-- record 1, field 3: "a blank (5), nine digits (6), check digit (12)"
abbrev pub destination : List ℕ → Mark
destination p =
    need (leads p) Fault.Fixed
    (need (digits (columns 2 10 p)) Fault.Digits
    (need (eqb (value (columns 10 10 p)) (check_digit (columns 2 9 p))) Fault.CheckDigit (Ok tt)))

-- record 1, field 4: "columns 15-23 digits (6), column 14 blank or a digit (11)"
abbrev pub origin : List ℕ → Mark
origin p = need (digits (columns 2 10 p)) Fault.Digits (need (leads p || is_digit (get_or p 0 0)) Fault.Value (Ok tt))

-- record 1, field 7: "A-Z or 0-9 (11)"
abbrev pub modifier : List ℕ → Mark
modifier p = need ((leb 65 (get_or p 0 0) && leb (get_or p 0 0) 90) || is_digit (get_or p 0 0)) Fault.Value (Ok tt)

-- record 5, field 2: "digits, 200, 220 or 225 (11)"
abbrev pub class : List ℕ → Mark
class p =
    need (digits p) Fault.Digits (need (eqb (value p) 200 || eqb (value p) 220 || eqb (value p) 225) Fault.Value (Ok tt))

-- record 5, field 6: "PPD or CCD (11)"
abbrev pub entry_class : List ℕ → Mark
entry_class p = need (same_bytes p (80 ∷ 80 ∷ 68 ∷ []) || same_bytes p (67 ∷ 67 ∷ 68 ∷ [])) Fault.Value (Ok tt)

-- record 6, field 3: "digits, first digit 0 to 3 (13)"
abbrev pub bank : List ℕ → Mark
bank p = need (digits p) Fault.Digits (need (leb (get_or p 0 0) 51) Fault.Bank (Ok tt))

-- "digits, hyphens and blanks only (7)"; "The account field takes A to Z as well. Lower case stays refused."
abbrev pub is_account : ℕ → Bool
is_account b = is_digit b || eqb b 45 || eqb b 32 || (leb 65 b && leb b 90)

-- "no blank before a later non-blank (9)"
unfoldable pub unbroken : List ℕ → Bool
unbroken [] = true
unbroken (b ∷ bs) = pick (eqb b 32) (blank bs) (unbroken bs)

-- record 6, field 5: "digits, hyphens and blanks only (7)" and now letters, "not all blank (8), no blank before a later non-blank (9)"
abbrev pub account : List ℕ → Mark
account p =
    need (every is_account p) Fault.Text (need (not (blank p)) Fault.Blank (need (unbroken p) Fault.Leading (Ok tt)))

abbrev pub own_rule : Own → List ℕ → Mark
own_rule Own.Destination p = destination p
own_rule Own.Origin p = origin p
own_rule Own.Time p = time p
own_rule Own.Modifier p = modifier p
own_rule Own.Class p = class p
own_rule Own.EntryClass p = entry_class p
own_rule Own.Bank p = bank p
own_rule Own.Account p = account p
