-- What the code relies on of every row, and no rule of the paper: the row lies in the record, and has the width that its kind is read at.
use Rattle.std.specs.Prelude.{ℕ, ◌+◌, ◌-◌, Bool, true, ◌&&◌, leb, eqb}
use Rattle.layout.specs.declared.Kind.{Kind}
use Rattle.layout.specs.declared.Own.{Own}
use Rattle.layout.specs.declared.Near.{Near}
use Rattle.layout.specs.declared.Row.{Row}
use Rattle.layout.specs.Fields.{record_columns}

-- a field that is read as a number
abbrev pub number_wide : ℕ → Bool
number_wide w = leb w 18

abbrev pub own_fits : Own → ℕ → Bool
own_fits Own.Destination w = eqb w 10
own_fits Own.Origin w = eqb w 10
own_fits Own.Time w = number_wide w
own_fits Own.Modifier w = true
own_fits Own.Class w = number_wide w
own_fits Own.EntryClass w = true
own_fits Own.Bank w = true
own_fits Own.Account w = true

abbrev pub near_fits : Near → ℕ → Bool
near_fits Near.Code w = number_wide w
near_fits Near.CheckDigit w = eqb w 1
near_fits Near.Amount w = number_wide w
near_fits Near.Trace w = eqb w 15
near_fits Near.EntryTrace w = number_wide w
near_fits Near.BatchNumber w = number_wide w
near_fits Near.Flag w = eqb w 1

abbrev pub kind_fits : Kind → ℕ → Bool
kind_fits Kind.Type w = true
kind_fits Kind.Misplaced w = true
kind_fits Kind.Past w = true
kind_fits Kind.Nines w = true
kind_fits (Kind.Fixed n) w = number_wide w
kind_fits Kind.Blanks w = true
kind_fits Kind.Digits w = true
kind_fits Kind.Optional w = true
kind_fits Kind.Mandatory w = true
kind_fits Kind.Date w = number_wide w
kind_fits (Kind.Own o) w = own_fits o w
kind_fits (Kind.Near n) w = near_fits n w
kind_fits (Kind.AsBatch c) w = leb 1 c && leb (c - 1 + w) record_columns
kind_fits (Kind.Count s) w = number_wide w
kind_fits (Kind.Hash s) w = number_wide w
kind_fits (Kind.Total s) w = number_wide w

abbrev pub row_fits : Row → Bool
row_fits r =
    leb 1 r.first && leb r.first r.last && leb r.last record_columns && kind_fits r.kind (r.last + 1 - r.first)
