use native.Mathlib.Omega.{arith}
use mathlib.Core.Path.{sym, ◌∙◌}
use Rattle.view.specs.View.{view_of}
use Rattle.view_laws.proofs.Answers.{not_granted}
use Rattle.recall_close.proofs.MarkLaws.{some_without}
use Rattle.recall.proofs.CountLaws.{counted_whole}
use Rattle.recall.proofs.OutLaws.{accepted, entries_told, body_told, told_few, asked_missing, asked_none, asked_short, asked_granted}
use Rattle.recall.proofs.judge.Goals as goal

pub mark-requires : goal.mark-requires
mark-requires c = (omega (arith, told_few c.args.way c.args.file.now _ c.requires.0), c.requires.1)

pub any_left-requires : goal.any_left-requires
any_left-requires c = omega (arith, told_few c.args.way c.args.file.now _ c.requires.0)

pub records_before-requires : goal.records_before-requires
records_before-requires c = told_few c.args.way c.args.file.now _ c.requires.0

pub batches_left-left-requires : goal.batches_left-left-requires
batches_left-left-requires c = rw c.records_before.ensures (body_told c.args.way c.args.file.now _ c.requires.0)

pub returns-then-not-mark : goal.returns-then-not-mark
returns-then-not-mark c =
    let v = view_of c.args.way c.args.file.now in
    let g = accepted c.args.way c.args.file.now _ c.requires.0 in
    let there = sym (c.mark.ensures.0 v (entries_told c.args.way c.args.file.now _ c.requires.0)) ∙ c.if-not-mark.true in
    (c.whole.ensures ∙ asked_missing c.args.way c.args.file.now c.args.entries.now c.args.room g there, λ e. not_granted e)

pub returns-then-not-any_left : goal.returns-then-not-any_left
returns-then-not-any_left c =
    let v = view_of c.args.way c.args.file.now in
    let g = accepted c.args.way c.args.file.now _ c.requires.0 in
    let many = entries_told c.args.way c.args.file.now _ c.requires.0 in
    let there = sym (c.mark.ensures.0 v many) ∙ c.if-not-mark.false in
    let some = some_without c.mark.new.flags c.args.entries.now (c.mark.ensures.1 c.if-not-mark.false) v _ many ∙ sym c.any_left.ensures ∙ c.if-not-any_left.true in
    (c.whole-then-not-any_left.ensures ∙ asked_none c.args.way c.args.file.now c.args.entries.now c.args.room g there some, λ e. not_granted e)

pub returns-then-room-left : goal.returns-then-room-left
returns-then-room-left c =
    let v = view_of c.args.way c.args.file.now in
    let g = accepted c.args.way c.args.file.now _ c.requires.0 in
    let many = entries_told c.args.way c.args.file.now _ c.requires.0 in
    let marks = c.mark.ensures.1 c.if-not-mark.false in
    let there = sym (c.mark.ensures.0 v many) ∙ c.if-not-mark.false in
    let some = some_without c.mark.new.flags c.args.entries.now marks v _ many ∙ sym c.any_left.ensures ∙ c.if-not-any_left.false in
    let left = c.batches_left-left.ensures.0 ∙ counted_whole c.mark.new.flags c.args.entries.now marks v in
    (c.whole-then-room-left.ensures ∙ asked_short c.args.way c.args.file.now c.args.entries.now c.args.room g there some c.batches_left-left.result left c.if-room-left.true, λ e. not_granted e)

pub returns : goal.returns
returns c =
    let v = view_of c.args.way c.args.file.now in
    let g = accepted c.args.way c.args.file.now _ c.requires.0 in
    let many = entries_told c.args.way c.args.file.now _ c.requires.0 in
    let marks = c.mark.ensures.1 c.if-not-mark.false in
    let there = sym (c.mark.ensures.0 v many) ∙ c.if-not-mark.false in
    let some = some_without c.mark.new.flags c.args.entries.now marks v _ many ∙ sym c.any_left.ensures ∙ c.if-not-any_left.false in
    let left = c.batches_left-left.ensures.0 ∙ counted_whole c.mark.new.flags c.args.entries.now marks v in
    (asked_granted c.args.way c.args.file.now c.args.entries.now c.args.room g there some c.batches_left-left.result left c.if-room-left.false, λ e. marks)
