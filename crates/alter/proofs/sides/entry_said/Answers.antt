use mathlib.Core.Path.{◌∙◌, ap}
use Rattle.check_across.specs.Across.{entry_code, entry_amount}
use Rattle.check_codes.specs.Codes.{code_of}
use Rattle.find_entry.proofs.Parts.{record_cut}
use Rattle.alter.proofs.sides.entry_said.Goals as goal

pub returns : goal.returns
returns c =
    let cut = c.chunk-rec.ensures ∙ record_cut c.args.way c.args.file.now c.args.i c.record_bytes.result c.record_bytes.ensures c.requires in
    (c.code_of.ensures ∙ ap code_of (c.entry_code.ensures ∙ ap entry_code cut), c.entry_amount.ensures ∙ ap entry_amount cut)
