use Rattle.mend_file.proofs.FillerLaws.{old_fillers, none_section, some_section}
use Rattle.table_read.proofs.Writing.{puts_both, room_front, room_rest}
use Rattle.text.specs.Decimal.{render}
use mathlib.Core.List.{◌++◌}
use Rattle.mend_file.proofs.put_fillers.Goals as goal

pub put_digits-requires : goal.put_digits-requires
put_digits-requires c = rw (none_section c.args.old c.args.new c.if-old-new.true) at (c.requires)

pub returns-then-old-new : goal.returns-then-old-new
returns-then-old-new c = rw (none_section c.args.old c.args.new c.if-old-new.true) c.put_digits.ensures

pub put_digits-row-requires : goal.put_digits-row-requires
put_digits-row-requires c = room_front (render 7 1) (old_fillers c.args.old ++ render 1 c.args.new) (rw (some_section c.args.old c.args.new c.if-old-new.false) at (c.requires))

pub put_old_fillers-digit-requires : goal.put_old_fillers-digit-requires
put_old_fillers-digit-requires c = room_front (old_fillers c.args.old) (render 1 c.args.new) (room_rest c.put_digits-row.ensures (old_fillers c.args.old ++ render 1 c.args.new) (rw (some_section c.args.old c.args.new c.if-old-new.false) at (c.requires)))

pub put_digits-requires-2 : goal.put_digits-requires-2
put_digits-requires-2 c = room_rest c.put_old_fillers-digit.ensures (render 1 c.args.new) (room_rest c.put_digits-row.ensures (old_fillers c.args.old ++ render 1 c.args.new) (rw (some_section c.args.old c.args.new c.if-old-new.false) at (c.requires)))

pub returns : goal.returns
returns c = rw (some_section c.args.old c.args.new c.if-old-new.false) (puts_both c.put_digits-row.ensures (puts_both c.put_old_fillers-digit.ensures c.put_digits-2.ensures))
