use Rattle.std.proofs.Common.{◌-◌, ◌≡◌, length, take, drop, length-drop, arith}
use Rattle.std.proofs.lemmas.List.{take_all}
use Rattle.text.proofs.DecimalLaws.{same_is}
use Rattle.check_field.proofs.field.as_batch.Goals as goal

pub returns : goal.returns
returns c =
    let rest = drop (c.args.column - 1) c.args.header.now in
    let whole : take (94 - (c.args.column - 1)) rest ≡ rest = take_all _ rest (omega (arith, length-drop (c.args.column - 1) c.args.header.now)) in
    rw (same_is c.args.p.now (take (length c.args.p.now) rest), ← rw whole at c.starts_with.ensures.value) c.need.ensures
