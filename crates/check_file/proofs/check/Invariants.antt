use Rattle.check_file.proofs.Laws.{Left, left, state}
use Rattle.check_record.proofs.Laws.{fields_left}
use Rattle.check_sums.specs.WorkFair.{Fair}
use Rattle.check_record.specs.Record.{fields_from, checked_of}
use Rattle.layout.specs.Ways.{record_bytes}
use Rattle.layout.specs.Fields.{rows_of, first_field}
use Rattle.std.specs.Slice.Iter.{chunks_exact_rest, chunks_exact_size}
use lib.ListN.{length}
use mathlib.Core.Path.{◌≡◌}
use Rattle.check_file.proofs.check.Given as goal

abbrev pub invariant-loop-k : goal.invariant-loop-k
invariant-loop-k l = fields_left l.line l.k l.sums l.header l.rec ≡ fields_from (first_field l.line) (rows_of l.line) l.sums l.header l.rec

abbrev pub invariant-loop-raw : goal.invariant-loop-raw
invariant-loop-raw l =
    record {
      next : (goal.iterator-loop-raw).can_next l.raw-iterator;
      ends : (goal.iterator-loop-raw).is_finite l.raw-iterator;
      wide : chunks_exact_size l.raw-iterator ≡ record_bytes l.way;
      fair : Fair (state l.place l.sums l.header l.bycode);
      room : Left l.way (length (chunks_exact_rest l.raw-iterator)) l.sums.records;
      rest : left l.way (chunks_exact_rest l.raw-iterator) (state l.place l.sums l.header l.bycode) ≡ checked_of l.way l.file;
    }
