use Rattle.mend_file.proofs.SizeLaws.{size_few}
use mathlib.Core.Path.{refl}
use Rattle.mend_file.proofs.renewing.size.Goals as goal

pub overflow_mul-result : goal.overflow_mul-result
overflow_mul-result c = rw c.record_bytes.ensures (record { fits = size_few c.args.way c.args.before c.fillers.result (c.requires) c.fillers.ensures.1 })

pub returns : goal.returns
returns c = rw (c.record_bytes.ensures, c.fillers.ensures.0) refl
