use Rattle.std.proofs.Common.{◌∙◌, refl, arith}
use Rattle.check_record.proofs.Ways.{some_bytes}
use Rattle.table_read.proofs.Writing.{Turn, left_start, rows_room, rows_next, rows_end}
use Rattle.table_read.proofs.putting.put_rows.Goals as goal

pub loop-raw-init : goal.loop-raw-init
loop-raw-init c =
    rw (c.into_iter-raw-iterator.ensures.into_iter_gives, c.chunks_exact-raw-items.ensures.rest, c.chunks_exact-raw-items.ensures.size, c.record_bytes.ensures)
    (record { next = some_bytes c.args.way; ends = tt; wide = refl; left = left_start _ c.args.table.now c.args.start })

pub put_row-to-requires : goal.put_row-to-requires
put_row-to-requires c =
    let t : Turn c.args.way _ _ _ _ = record { parts = c.in-Some.ensures.steps.1.0; long = c.in-Some.ensures.steps.1.1 ∙ c.loop-raw.invariant.wide; cut = c.chunk.ensures } in
    (c.requires.0, c.requires.1, rows_room c.args.way c.args.kind c.args.from c.args.end c.args.file.now c.args.table.now c.args.start t c.loop-raw.invariant.left c.requires.2)

pub loop-raw-preserved : goal.loop-raw-preserved
loop-raw-preserved c =
    let s = c.in-Some.ensures.steps in
    let t : Turn c.args.way _ _ _ _ = record { parts = c.in-Some.ensures.steps.1.0; long = c.in-Some.ensures.steps.1.1 ∙ c.loop-raw.invariant.wide; cut = c.chunk.ensures } in
    record {
      next = rw s.0 c.loop-raw.invariant.next;
      ends = tt;
      wide = s.0 ∙ c.loop-raw.invariant.wide;
      left = rows_next c.args.way c.args.kind c.args.from c.args.end c.args.file.now c.args.table.now c.args.start t c.loop-raw.invariant.left c.put_row-to.ensures;
    }

pub returns : goal.returns
returns c = rows_end c.args.way c.args.kind c.args.from c.args.end c.args.file.now c.args.table.now c.args.start _ c.loop-raw.invariant.left (omega (arith, c.in-None.ensures.steps.1.0, c.loop-raw.invariant.wide))
