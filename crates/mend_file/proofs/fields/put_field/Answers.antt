use Rattle.table_read.proofs.Writing.{puts_none}
use Rattle.mend_file.proofs.FieldLaws.{field_same, row_nothing, number_room, field_room, old_room, new_room, row_put}
use Rattle.mend_file.proofs.fields.put_field.Goals as goal

pub returns-then-eq : goal.returns-then-eq
returns-then-eq c = puts_none (row_nothing _ (field_same c.args.number c.args.k c.args.row c.args.old.now c.args.new.now _ _ c.field_text-was.ensures.0 c.field_text-is.ensures.0 c.eq.result c.eq.ensures c.if-eq.true))

pub put_digits-field-requires : goal.put_digits-field-requires
put_digits-field-requires c = number_room c.args.number c.args.k c.args.row c.args.old.now c.args.new.now _ _ c.field_text-was.ensures.0 c.field_text-is.ensures.0 c.eq.result c.eq.ensures c.if-eq.false c.requires.3

pub put_digits-texts-requires : goal.put_digits-texts-requires
put_digits-texts-requires c = field_room c.args.number c.args.k c.args.row c.args.old.now c.args.new.now _ _ c.field_text-was.ensures.0 c.field_text-is.ensures.0 c.eq.result c.eq.ensures c.if-eq.false c.requires.3 c.put_digits-field.ensures

pub put_text-second-requires : goal.put_text-second-requires
put_text-second-requires c = old_room c.args.number c.args.k c.args.row c.args.old.now c.args.new.now _ _ c.field_text-was.ensures.0 c.field_text-is.ensures.0 c.eq.result c.eq.ensures c.if-eq.false c.requires.3 c.put_digits-field.ensures c.put_digits-texts.ensures

pub put_text-requires : goal.put_text-requires
put_text-requires c = new_room c.args.number c.args.k c.args.row c.args.old.now c.args.new.now _ _ c.field_text-was.ensures.0 c.field_text-is.ensures.0 c.eq.result c.eq.ensures c.if-eq.false c.requires.3 c.put_digits-field.ensures c.put_digits-texts.ensures c.put_text-second.ensures

pub returns : goal.returns
returns c = row_put c.args.number c.args.k c.args.row c.args.old.now c.args.new.now _ _ c.field_text-was.ensures.0 c.field_text-is.ensures.0 c.eq.result c.eq.ensures c.if-eq.false c.requires.3 c.put_digits-field.ensures c.put_digits-texts.ensures c.put_text-second.ensures c.put_text.ensures
