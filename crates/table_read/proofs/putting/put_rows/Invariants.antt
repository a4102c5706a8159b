use Rattle.std.proofs.Common.{◌≡◌}
use Rattle.std.specs.Slice.Iter.{chunks_exact_rest, chunks_exact_size}
use Rattle.layout.specs.Ways.{record_bytes}
use Rattle.table_read.proofs.Writing.{RowsLeft}
use Rattle.table_read.proofs.putting.put_rows.Given as goal

abbrev pub invariant-loop-raw : goal.invariant-loop-raw
invariant-loop-raw l =
    record {
      next : (goal.iterator-loop-raw).can_next l.raw-iterator;
      ends : (goal.iterator-loop-raw).is_finite l.raw-iterator;
      wide : chunks_exact_size l.raw-iterator ≡ record_bytes l.fn.way;
      left : RowsLeft l.fn.way l.kind l.from l.end l.file l.initial.table l.start (chunks_exact_rest l.raw-iterator) l.table l.to;
    }
