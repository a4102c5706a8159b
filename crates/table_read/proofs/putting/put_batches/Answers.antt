use Rattle.std.proofs.Common.{◌∙◌, length, arith, refl}
use Rattle.check_record.proofs.Ways.{some_bytes}
use Rattle.table_read.proofs.Writing.{Turn, left_start, batches_room, batches_next, batches_end, count_under, count_less}
use Rattle.table_read.proofs.putting.put_batches.Goals as goal

pub loop-raw-init : goal.loop-raw-init
loop-raw-init c =
    rw (c.into_iter-raw-iterator.ensures.into_iter_gives, c.chunks_exact-raw-items.ensures.rest, c.chunks_exact-raw-items.ensures.size, c.record_bytes.ensures)
    (record { next = some_bytes c.args.way; ends = tt; wide = refl; few = omega arith; left = left_start _ c.args.table.now c.args.start })

pub put_batch_piece-to-requires : goal.put_batch_piece-to-requires
put_batch_piece-to-requires c =
    let t : Turn c.args.way _ _ _ _ = record { parts = c.in-Some.ensures.steps.1.0; long = c.in-Some.ensures.steps.1.1 ∙ c.loop-raw.invariant.wide; cut = c.chunk-rec.ensures } in
    batches_room c.args.way c.args.file.now c.args.table.now c.args.start t c.loop-raw.count c.loop-raw.invariant.left c.requires.1

pub count_after-count-requires : goal.count_after-count-requires
count_after-count-requires c =
    let t : Turn c.args.way _ _ _ _ = record { parts = c.in-Some.ensures.steps.1.0; long = c.in-Some.ensures.steps.1.1 ∙ c.loop-raw.invariant.wide; cut = c.chunk-rec.ensures } in
    omega (arith, count_under c.args.way c.args.file.now c.args.table.now c.args.start t c.loop-raw.count (length c.args.file.now) c.loop-raw.invariant.few, c.requires.0)

pub loop-raw-preserved : goal.loop-raw-preserved
loop-raw-preserved c =
    let s = c.in-Some.ensures.steps in
    let t : Turn c.args.way _ _ _ _ = record { parts = c.in-Some.ensures.steps.1.0; long = c.in-Some.ensures.steps.1.1 ∙ c.loop-raw.invariant.wide; cut = c.chunk-rec.ensures } in
    rw c.count_after-count.ensures
    (record {
      next = rw s.0 c.loop-raw.invariant.next;
      ends = tt;
      wide = s.0 ∙ c.loop-raw.invariant.wide;
      few = count_less c.args.way c.args.file.now c.args.table.now c.args.start t c.loop-raw.count (length c.args.file.now) c.loop-raw.invariant.few;
      left = batches_next c.args.way c.args.file.now c.args.table.now c.args.start t c.loop-raw.count c.loop-raw.invariant.left c.put_batch_piece-to.ensures;
    })

pub returns : goal.returns
returns c = batches_end c.args.way c.args.file.now c.args.table.now c.args.start c.loop-raw.count _ c.loop-raw.invariant.left (omega (arith, c.in-None.ensures.steps.1.0, c.loop-raw.invariant.wide))
