use Rattle.std.proofs.Common.{refl, arith, rules}
use Rattle.csv_entry.proofs.EntryLaws.{texts_many, text_at, place_first, place_put, place_end, field_passed}
use Rattle.csv_entry.proofs.entries.placed.Goals as goal
use Rattle.csv_entry.proofs.entries.placed.Goals.{After-loop-i}

pub loop-i-init : goal.loop-i-init
loop-i-init c = place_first _ _ _ _ c.requires (search rules) c.empty_row-row.ensures

pub put_field-requires-clause-right : goal.put_field-requires-clause-right
put_field-requires-clause-right c =
    let texts = rw c.unwrap-line.ensures at c.six_fields.ensures.texts in
    let six = texts_many 5 c.args.s.now 0 in
    rw (text_at _ _ c.loop-i.i _ texts (omega arith)) (field_passed _ _ _ _ c.loop-i.invariant (omega arith)).0

pub loop-i-preserved : goal.loop-i-preserved
loop-i-preserved c =
    let texts = rw c.unwrap-line.ensures at c.six_fields.ensures.texts in
    let six = texts_many 5 c.args.s.now 0 in
    place_put _ _ _ _ c.loop-i.invariant _ _ _ _ c.loop-i-test.true six refl refl c.put_field.ensures (text_at _ _ c.loop-i.i _ texts (omega arith))

pub returns : goal.returns
returns c =
    let size = rw c.unwrap-line.ensures at c.six_fields.ensures.size in
    (place_end _ _ _ _ c.loop-i.invariant (omega arith) (omega arith) (texts_many 5 c.args.s.now 0), size)
