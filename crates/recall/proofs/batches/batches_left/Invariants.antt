use Rattle.std.specs.Iterator.Adapters.{take_source, take_count}
use Rattle.std.specs.Slice.Iter.{chunks_exact_rest, chunks_exact_size}
use Rattle.recall.proofs.CountLaws.{Counted}
use Rattle.recall.proofs.batches.batches_left.Given as goal

abbrev pub invariant-loop-rec : goal.invariant-loop-rec
invariant-loop-rec l =
    (goal.iterator-loop-rec).can_next l.rec-iterator × (goal.iterator-loop-rec).is_finite l.rec-iterator
    × Counted l.fn.way l.flags l.fn.file l.fn.count l.kept (take_count l.rec-iterator) (chunks_exact_size (take_source l.rec-iterator)) (chunks_exact_rest (take_source l.rec-iterator))
