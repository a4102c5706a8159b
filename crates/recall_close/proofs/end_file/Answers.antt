use Rattle.recall_close.proofs.PutLaws.{put_length}
use Rattle.check_across.specs.declared.Sums.{Sums}
use mathlib.Core.List.{[], ◌∷◌}
use mathlib.Core.Path.{◌∙◌, ap}
use Rattle.recall_close.proofs.CloseLaws.{filling_room, filling_less, filling_next, filled_many, filled_whole, control_filling, ended}
use Rattle.view.specs.View.{fillers_after}
use lib.ListN.{length}
use Prim.Native.Nat.{◌+◌}
use Rattle.recall_close.proofs.end_file.Goals as goal

pub loop-so_far-init : goal.loop-so_far-init
loop-so_far-init c = (control_filling c.args.way c.args.file.now _ c.file_control-control.result c.args.sums c.put-so_far.result c.file_control-control.ensures c.put-so_far.ensures.0 c.put-so_far.ensures.2 c.requires.2 c.put-so_far.ensures.1 c.requires.1, c.filler-filler.ensures)

pub put-so_far-requires-in-loop-so_far : goal.put-so_far-requires-in-loop-so_far
put-so_far-requires-in-loop-so_far c = filling_room c.args.way _ _ c.loop-so_far.file c.loop-so_far.so_far c.loop-so_far.invariant.0 c.loop-so_far-test.true

pub loop-so_far-smaller : goal.loop-so_far-smaller
loop-so_far-smaller c = filling_less c.args.way _ _ c.loop-so_far.file c.loop-so_far.so_far c.loop-so_far.invariant.0 c.loop-so_far-test.true c.put-so_far-in-loop-so_far.result c.filler-filler.result c.put-so_far-in-loop-so_far.ensures.0

pub loop-so_far-preserved : goal.loop-so_far-preserved
loop-so_far-preserved c = (filling_next c.args.way _ _ c.loop-so_far.file c.loop-so_far.so_far c.loop-so_far.invariant.0 c.loop-so_far-test.true c.put-so_far-in-loop-so_far.result _ c.filler-filler.result c.loop-so_far.invariant.1 c.put-so_far-in-loop-so_far.ensures.0 c.put-so_far-in-loop-so_far.ensures.1 c.put-so_far-in-loop-so_far.ensures.2, c.loop-so_far.invariant.1)

pub shape_of-file : goal.shape_of-file
shape_of-file c = c.loop-so_far.invariant.0.long ∙ ap length c.put-so_far.ensures.2 ∙ put_length c.args.way c.args.file.now c.args.sums.records (c.file_control-control.result ∷ [])

pub returns : goal.returns
returns c = (filled_many c.args.way _ _ c.loop-so_far.file c.loop-so_far.so_far c.loop-so_far.invariant.0 c.loop-so_far-test.false ∙ ap (λ (x : Sums). x.records + fillers_after x.records) c.put-so_far.ensures.0, c.loop-so_far.invariant.0.long ∙ ap length c.put-so_far.ensures.2 ∙ put_length c.args.way c.args.file.now c.args.sums.records (c.file_control-control.result ∷ []), ended c.args.way c.args.file.now _ c.file_control-control.result c.args.sums c.put-so_far.result c.file_control-control.ensures c.put-so_far.ensures.0 c.put-so_far.ensures.2 c.requires.2 c.loop-so_far.so_far.records c.loop-so_far.file (filled_whole c.args.way _ _ c.loop-so_far.file c.loop-so_far.so_far c.loop-so_far.invariant.0 c.loop-so_far-test.false))
