use Rattle.std.proofs.Common.{rules}
use Rattle.table_form.proofs.FormLaws.{number_put}
use Rattle.table_form.proofs.forms.put_number.Goals as goal

pub returns : goal.returns
returns c = number_put c.args.rec.now c.put_number.new.s c.args.from c.args.to c.args.n c.requires.0 (search rules) c.put_number.ensures
