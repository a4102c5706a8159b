use Rattle.std.specs.Iterator.Adapters.{enumerate_source, enumerate_count}
use Rattle.std.specs.Slice.Iter.{chunks_exact_rest, chunks_exact_size}
use Rattle.find_entry.proofs.Walk.{Looking}
use Rattle.find_entry.proofs.find.nth.Given as goal

abbrev pub invariant-loop-i : goal.invariant-loop-i
invariant-loop-i l =
    (goal.iterator-loop-i).can_next l.i-iterator × (goal.iterator-loop-i).is_finite l.i-iterator
    × Looking l.fn.way l.file l.from l.byte l.k l.left (enumerate_count l.i-iterator) (chunks_exact_size (enumerate_source l.i-iterator)) (chunks_exact_rest (enumerate_source l.i-iterator))
