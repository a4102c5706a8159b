use Rattle.csv_entry.proofs.EntryLaws.{Tested}
use Rattle.csv_entry.proofs.entries.fields_verdict.Given as goal

abbrev pub invariant-loop-i : goal.invariant-loop-i
invariant-loop-i l = Tested l.fields l.i
