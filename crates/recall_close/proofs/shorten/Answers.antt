use native.Mathlib.Omega.{arith}
use mathlib.Core.List.{[]}
use mathlib.Core.Path.{ap}
use Prim.Native.Nat.{◌*◌}
use Rattle.recall_close.proofs.CloseLaws.{end_few, end_inside, size_inside, size_whole, blanked}
use Rattle.recall_close.proofs.shorten.Goals as goal

pub end_file-requires : goal.end_file-requires
end_file-requires c = (
  c.close_up-sums.ensures.small,
  end_few c.args.way c.args.flags.now c.args.file.now c.args.count c.requires c.close_up-sums.result _ c.close_up-sums.ensures,
  end_inside c.args.way c.args.flags.now c.args.file.now c.args.count c.requires c.close_up-sums.result _ c.close_up-sums.ensures,
)

pub slice_bounds-fill-count : goal.slice_bounds-fill-count
slice_bounds-fill-count c = omega (arith, size_inside c.args.way c.args.flags.now c.args.file.now c.args.count c.requires c.close_up-sums.result _ c.close_up-sums.ensures c.end_file.result _ c.end_file.new.file [] c.end_file.ensures.0 (ap (λ w. w * c.end_file.result) c.record_bytes.ensures) c.end_file.ensures.1 c.end_file.ensures.2)

pub slice_bounds-fill-start : goal.slice_bounds-fill-start
slice_bounds-fill-start c = omega (arith, size_inside c.args.way c.args.flags.now c.args.file.now c.args.count c.requires c.close_up-sums.result _ c.close_up-sums.ensures c.end_file.result _ c.end_file.new.file [] c.end_file.ensures.0 (ap (λ w. w * c.end_file.result) c.record_bytes.ensures) c.end_file.ensures.1 c.end_file.ensures.2)

pub returns : goal.returns
returns c = (
  size_whole c.args.way c.args.flags.now c.args.file.now c.args.count c.requires c.close_up-sums.result _ c.close_up-sums.ensures c.end_file.result _ c.end_file.new.file [] c.end_file.ensures.0 (ap (λ w. w * c.end_file.result) c.record_bytes.ensures) c.end_file.ensures.1 c.end_file.ensures.2,
  blanked c.args.way c.args.flags.now c.args.file.now c.args.count c.requires c.close_up-sums.result _ c.close_up-sums.ensures c.end_file.result _ c.end_file.new.file _ c.end_file.ensures.0 (ap (λ w. w * c.end_file.result) c.record_bytes.ensures) c.end_file.ensures.1 c.end_file.ensures.2 (c.fill.ensures.after (λ y e. e)),
)
