use lib.ListN.{length}
use mathlib.Core.List.{[], ◌∷◌}
use mathlib.Core.Bool.{false}
use mathlib.Core.Path.{◌∙◌, ap}
use Rattle.layout.specs.declared.Line.{Line}
use Rattle.check_across.specs.declared.Sums.{Sums}
use Rattle.recall_close.specs.WorkMoving.{walk}
use Rattle.recall_close.proofs.PutLaws.{room_on, put_none, put_length, begun_none}
use Rattle.recall_close.proofs.moving.Walk.begin_batch.Goals as goal

pub returns-then-self : goal.returns-then-self
returns-then-self c =
    let w = c.args.self.now in
    rw c.if-self.true (
      ap (λ (s : Sums). walk s w.header w.entries false w.stays) c.put-self.ensures.0,
      c.put-self.ensures.2,
      room_on c.args.way c.args.file.now _ w.sums _ Line.BatchHeader w.header (rw c.if-self.true at c.requires) c.put-self.ensures.0 c.put-self.ensures.1 (ap length c.put-self.ensures.2 ∙ put_length c.args.way c.args.file.now w.sums.records (w.header ∷ [])),
    )

pub returns-else-self : goal.returns-else-self
returns-else-self c =
    let w = c.args.self.now in
    (begun_none w c.if-self.false, rw c.if-self.false (put_none c.args.way c.args.file.now w.sums.records), rw c.if-self.false at c.requires)
