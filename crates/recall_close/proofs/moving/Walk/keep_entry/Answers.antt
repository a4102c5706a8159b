use Rattle.std.proofs.Common.{rules}
use mathlib.Core.Path.{ap}
use Rattle.recall_close.specs.declared.moving.Walk.{Walk}
use Rattle.recall_close.proofs.PutLaws.{put_behind, kept_as}
use Rattle.recall_close.proofs.moving.Walk.keep_entry.Goals as goal

pub returns : goal.returns
returns c =
    let w = c.args.self.now in
    let b = c.begin_batch.new.self in
    record {
      known = kept_as w b _ c.args.rec.now c.begin_batch.ensures.0 c.put-self.ensures.0;
      put = put_behind c.args.way c.args.file.now _ _ w b.sums _ (search rules) (ap (λ (x : Walk). x.sums) c.begin_batch.ensures.0) c.begin_batch.ensures.1 c.put-self.ensures.2;
      small = c.put-self.ensures.1;
    }
