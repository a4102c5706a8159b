-- "Kinds of field". p is the field's bytes.
use Rattle.std.specs.Prelude.{Ok, Err}
use Rattle.std.specs.Prelude.{ℕ, ◌/◌, ◌%◌, Bool, true, false, ◌&&◌, ◌||◌, not, List, leb, eqb, get_or}
use Rattle.text.specs.Decimal.{pick, every, digits, value}
use Rattle.layout.specs.declared.Fault.{Fault}
use Rattle.check_alone.specs.Mark.{Mark}

-- "Several faults in one field: the lower number is given": a test, its number if it fails, and the tests after it
abbrev pub need : Bool → Fault → Mark → Mark
need true fault rest = rest
need false fault rest = Err fault

abbrev pub blank : List ℕ → Bool
blank p = every (λ b. eqb b 32) p

abbrev pub nines : List ℕ → Bool
nines p = every (λ b. eqb b 57) p

-- "filler records of 94 nines", else 5
abbrev pub nine_filled : List ℕ → Mark
nine_filled p = need (nines p) Fault.Fixed (Ok tt)

-- "blanks, fixed"
abbrev pub blank_filled : List ℕ → Mark
blank_filled p = need (blank p) Fault.Fixed (Ok tt)

-- "Fixed: exactly the text shown (else 5)": the texts '01', '094', '10', '1', '05' and '0001' are a number in the field's width
abbrev pub fixed : ℕ → List ℕ → Mark
fixed n p = need (digits p && eqb (value p) n) Fault.Fixed (Ok tt)

-- "Digits: '0' to '9' only (else 6)"
abbrev pub all_digits : List ℕ → Mark
all_digits p = need (digits p) Fault.Digits (Ok tt)

-- "Text: bytes 0x20 to 0x7E without a to z (else 7)"
abbrev pub is_text : ℕ → Bool
is_text b = (leb 32 b && leb b 126) && not (leb 97 b && leb b 122)

abbrev pub leads : List ℕ → Bool
leads p = eqb (get_or p 0 0) 32

-- "Text that isn't all blank doesn't start with a blank (else 9)"
abbrev pub optional_text : List ℕ → Mark
optional_text p = need (every is_text p) Fault.Text (need (blank p || not (leads p)) Fault.Leading (Ok tt))

-- "Mandatory text is not all blank (else 8)"
abbrev pub mandatory_text : List ℕ → Mark
mandatory_text p =
    need (every is_text p) Fault.Text (need (not (blank p)) Fault.Blank (need (not (leads p)) Fault.Leading (Ok tt)))

-- "a real day of 2000 to 2099 as YYMMDD": every fourth year of that century is a leap year
abbrev pub days_in : ℕ → ℕ → ℕ
days_in year month =
    pick (eqb month 2) (pick (eqb (year % 4) 0) 29 28)
    (pick (eqb month 4 || eqb month 6 || eqb month 9 || eqb month 11) 30 31)

abbrev pub real_day : ℕ → ℕ → ℕ → Bool
real_day year month day = leb 1 month && leb month 12 && leb 1 day && leb day (days_in year month)

-- "Date: digits (6), then a real day (10)"
abbrev pub date : List ℕ → Mark
date p =
    need (digits p) Fault.Digits
    (need (real_day (value p / 10000) (value p / 100 % 100) (value p % 100)) Fault.Date (Ok tt))
