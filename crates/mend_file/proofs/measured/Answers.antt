use Rattle.std.proofs.Common.{length, ap, ap₂, ◌∙◌}
use Rattle.text.specs.Rows.{joined}
use Rattle.layout.specs.Fields.{file_control}
use Rattle.mend.specs.Mend.{field_changes, filler_changes}
use Rattle.mend_file.specs.WorkChanging.{listed_of}
use Rattle.mend_file.proofs.WholeLaws.{all_counted}
use Rattle.mend_file.proofs.measured.Goals as goal

pub returns : goal.returns
returns c =
    all_counted c.args.way c.args.file.now c.args.before c.walked.result c.file_control-control.result c.listed-last.result c.fillers_listed-fillers.result c.requires.1 c.walked.ensures c.file_control-control.ensures
    (c.listed-last.ensures.0 ∙ ap (λ r. listed_of (field_changes 0 1 file_control r c.file_control-control.result)) c.record.ensures.0)
    (c.fillers_listed-fillers.ensures.0 ∙ ap (λ rs. length (joined rs)) (ap₂ filler_changes c.fillers_in.ensures c.fillers.ensures.0))
