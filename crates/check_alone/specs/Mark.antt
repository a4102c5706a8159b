-- What a field's rules say of it.
use Rattle.std.specs.Prelude.{Result}
use Rattle.layout.specs.declared.Fault.{Fault}

-- right, or the lowest number that applies
abbrev pub Mark : Type 0
Mark = Result (Unit {0}) Fault
