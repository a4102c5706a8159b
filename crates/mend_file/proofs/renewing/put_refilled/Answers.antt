use Rattle.std.proofs.Common.{ap, ◌∙◌, ◌-◌, ◌+◌, length, take, drop}
use lib.Seq.{sets}
use Rattle.mend_file.proofs.PutLaws.{refilled_put}
use Rattle.mend_file.proofs.renewing.put_refilled.Goals as goal

pub returns : goal.returns
returns c = c.copy_into-2.ensures ∙ ap (λ x. sets x (c.args.at + 94) (take (length c.args.raw.now - 94) (drop 94 c.args.raw.now))) c.copy_into.ensures ∙ refilled_put c.args.mended.now c.args.columns.now c.args.raw.now c.args.at c.told-columns c.requires.0
