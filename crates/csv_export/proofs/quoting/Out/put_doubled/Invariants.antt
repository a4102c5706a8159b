use Rattle.std.proofs.Common.{◌≡◌, drop}
use Rattle.table_read.proofs.Writing.{Left}
use Rattle.csv_export.specs.Quoting.{doubled}
use Rattle.csv_export.proofs.quoting.Out.put_doubled.Given as goal

abbrev pub invariant-loop-b : goal.invariant-loop-b
invariant-loop-b l =
    Left (doubled (drop l.b-index l.text)) (doubled l.text) l.initial.self.bytes.now l.self.bytes.now l.initial.self.to l.self.to
    × (l.self.bytes.ghost_name ≡ l.initial.self.bytes.ghost_name)
