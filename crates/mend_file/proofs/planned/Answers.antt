use Rattle.std.proofs.Common.{length, sym, ◌∙◌, arith}
use Rattle.mend.specs.Mend.{mended_file, changes_of}
use Rattle.mend.proofs.Granted.{refused_room, exactly_granted}
use Rattle.mend_file.proofs.SizeLaws.{mended_size}
use Rattle.mend_file.proofs.MendLaws.{rooms_short}
use Rattle.mend_file.proofs.planned.Goals as goal

pub returns-then-room-size-clause-answer : goal.returns-then-room-size-clause-answer
returns-then-room-size-clause-answer c =
    let size = c.size-size.ensures ∙ sym (mended_size c.args.way c.args.file.now c.in_ok-before.before c.in_ok-before.ensures.before) in
    c.whole-then-room-size.ensures
    ∙ sym
    (refused_room c.args.way c.args.file.now c.args.room c.args.list (sym c.whole_records.ensures ∙ c.if-not-whole_records.false) (sym c.in_ok-before.ensures.answer) (sym c.in_ok-behind.ensures)
    (rooms_short (length (mended_file c.args.way c.args.file.now)) c.args.room (length (changes_of c.args.way c.args.file.now)) c.args.list (rw (size, c.measured-counts.ensures.bytes) at c.then-room-size.either)))

pub returns-clause-answer : goal.returns-clause-answer
returns-clause-answer c =
    let size = c.size-size.ensures ∙ sym (mended_size c.args.way c.args.file.now c.in_ok-before.before c.in_ok-before.ensures.before) in
    sym
    ((exactly_granted c.args.way c.args.file.now c.args.room c.args.list).1
    record {
      whole = sym c.whole_records.ensures ∙ c.if-not-whole_records.false;
      accepted = sym c.in_ok-before.ensures.answer;
      nines = sym c.in_ok-behind.ensures;
      room = omega (arith, size);
      listed = omega (arith, c.measured-counts.ensures.bytes);
    })

pub returns-clause-ready : goal.returns-clause-ready
returns-clause-ready c =
    record {
      fits = sym c.whole_records.ensures ∙ c.if-not-whole_records.false;
      nine = c.in_ok-before.ensures.before;
      size = c.size-size.ensures ∙ sym (mended_size c.args.way c.args.file.now c.in_ok-before.before c.in_ok-before.ensures.before);
      counts = c.measured-counts.ensures;
    }
