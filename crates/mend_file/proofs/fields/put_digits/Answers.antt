use Rattle.mend_file.proofs.FieldLaws.{digits_put}
use mathlib.Core.Path.{refl}
use Rattle.text.proofs.DecimalLaws.{length_render}
use native.Mathlib.Omega.{arith}
use Rattle.mend_file.proofs.fields.put_digits.Goals as goal

pub overflow_add-end : goal.overflow_add-end
overflow_add-end c = record { fits = omega (arith, c.requires.fits, length_render c.args.wide c.args.n) }

pub slice_bounds-put_number-end : goal.slice_bounds-put_number-end
slice_bounds-put_number-end c = omega (arith, c.requires.fits, length_render c.args.wide c.args.n)

pub returns : goal.returns
returns c = digits_put c.args.list.now c.put_number.new.s c.args.wide c.args.n c.args.to _ refl c.requires.fits c.put_number.ensures
