use mathlib.Core.Path.{sym}
use Rattle.find_entry.proofs.Addenda.{granted_there, part_there, part_none, both}
use Rattle.find_entry.proofs.asked_span.Goals as goal

pub returns-then-file-at-ne49 : goal.returns-then-file-at-ne49
returns-then-file-at-ne49 c =
    let g = sym c.in_ok-addendum_answer.ensures in
    let b = both (part_none c.args.way c.args.file.now c.args.entry.0 c.entry_at.result (granted_there c.args.way c.args.file.now c.args.entry.0 g) c.entry_at.ensures g (rw c.record_bytes-wide.ensures at c.if-file-at-ne49.true)) in
    record { answer = c.in_ok-addendum_answer.ensures; from = b.0; size = b.1 }

pub returns : goal.returns
returns c =
    let g = sym c.in_ok-addendum_answer.ensures in
    let b = both (part_there c.args.way c.args.file.now c.args.entry.0 c.entry_at.result (granted_there c.args.way c.args.file.now c.args.entry.0 g) c.entry_at.ensures g (rw c.record_bytes-wide.ensures at c.if-file-at-ne49.false)) in
    record { answer = c.in_ok-addendum_answer.ensures; from = rw c.record_bytes-wide.ensures b.0; size = b.1 }
