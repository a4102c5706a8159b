use Rattle.std.proofs.Common.{◌≡◌, ◌+◌, ◌*◌, sym, ◌∙◌, arith}
use Rattle.view.specs.Table.{count_of, batch_part, entry_part, addendum_part}
use Rattle.table_write.proofs.PassLaws.{right, records_count}
use Rattle.table_write.proofs.records_in.Goals as goal

pub returns : goal.returns
returns c =
    let t = c.args.table.now in
    let s = c.sections-s.result in
    let n : 2 + 2 * s.batches + s.entries + s.addenda ≡ 2 + 2 * count_of (batch_part t) + count_of (entry_part t) + count_of (addendum_part t) =
    omega (arith, c.sections-s.ensures.batches, c.sections-s.ensures.entries, c.sections-s.ensures.addenda) in (
      c.next_multiple_of.ensures.value ∙ sym (records_count t (right t c.requires) _ n),
      omega (arith, c.next_multiple_of.ensures.upper_bound, c.sections-s.ensures.batchesfew, c.sections-s.ensures.entriesfew, c.sections-s.ensures.addendafew),
    )
