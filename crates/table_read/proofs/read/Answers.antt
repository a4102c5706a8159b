use Rattle.std.proofs.Common.{arith}
use Rattle.table_read.proofs.Outcomes.{accepted, read_short, read_room, read_made}
use Rattle.table_read.proofs.read.Goals as goal

pub overflow_mul-size : goal.overflow_mul-size
overflow_mul-size c = record { fits = omega (arith, (accepted c.args.way c.args.file.now c.in_ok-accepted.accepted c.in_ok-accepted.ensures).batches) }

pub overflow_add-size : goal.overflow_add-size
overflow_add-size c = record { fits = omega (arith, (accepted c.args.way c.args.file.now c.in_ok-accepted.accepted c.in_ok-accepted.ensures).batches) }

pub overflow_mul-size-2 : goal.overflow_mul-size-2
overflow_mul-size-2 c = record { fits = omega (arith, (accepted c.args.way c.args.file.now c.in_ok-accepted.accepted c.in_ok-accepted.ensures).entries) }

pub overflow_add-size-2 : goal.overflow_add-size-2
overflow_add-size-2 c = let g = accepted c.args.way c.args.file.now c.in_ok-accepted.accepted c.in_ok-accepted.ensures in record { fits = omega (arith, g.batches, g.entries) }

pub overflow_mul-size-3 : goal.overflow_mul-size-3
overflow_mul-size-3 c = record { fits = omega (arith, (accepted c.args.way c.args.file.now c.in_ok-accepted.accepted c.in_ok-accepted.ensures).addenda) }

pub overflow_add-size-3 : goal.overflow_add-size-3
overflow_add-size-3 c = let g = accepted c.args.way c.args.file.now c.in_ok-accepted.accepted c.in_ok-accepted.ensures in record { fits = omega (arith, g.batches, g.entries, g.addenda) }

pub put_table-requires : goal.put_table-requires
put_table-requires c =
    let g = accepted c.args.way c.args.file.now c.in_ok-accepted.accepted c.in_ok-accepted.ensures in
    (g.long, g.short, read_room c.args.way c.args.file.now c.args.table.now c.in_ok-accepted.accepted g c.if-table-size.false)

pub returns-then-table-size : goal.returns-then-table-size
returns-then-table-size c =
    rw c.whole.ensures (read_short c.args.way c.args.file.now c.args.table.now c.in_ok-accepted.accepted (accepted c.args.way c.args.file.now c.in_ok-accepted.accepted c.in_ok-accepted.ensures) c.if-table-size.true)

pub returns : goal.returns
returns c =
    read_made c.args.way c.args.file.now c.args.table.now c.in_ok-accepted.accepted (accepted c.args.way c.args.file.now c.in_ok-accepted.accepted c.in_ok-accepted.ensures) c.if-table-size.false c.put_table.ensures
