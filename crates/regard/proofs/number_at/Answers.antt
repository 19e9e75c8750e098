-- `regard::number_at` tells the number that the image has at an index. Assumes nothing.
use native.Mathlib.Omega.{arith}
use Rattle.summary.proofs.Laws.{segment_inside}
use Rattle.regard.proofs.Laws.{number_used, number_unused}
use Rattle.regard.proofs.number_at.Goals as goal

pub overflow_mul-at : goal.overflow_mul-at
overflow_mul-at c = omega (arith, c.requires, segment_inside c.args.geometry.segments c.args.geometry.slots c.args.index c.requires.1)

pub overflow_mul-at-2 : goal.overflow_mul-at-2
overflow_mul-at-2 c = omega (arith, c.requires, segment_inside c.args.geometry.segments c.args.geometry.slots c.args.index c.requires.1)

pub overflow_add-end : goal.overflow_add-end
overflow_add-end c = omega (arith, c.requires, segment_inside c.args.geometry.segments c.args.geometry.slots c.args.index c.requires.1)

pub slice_bounds-see_header-end : goal.slice_bounds-see_header-end
slice_bounds-see_header-end c = omega (arith, c.requires, segment_inside c.args.geometry.segments c.args.geometry.slots c.args.index c.requires.1)

pub returns-in_default : goal.returns-in_default
returns-in_default c =
    number_unused c.args.geometry.segments c.args.geometry.slots c.args.index c.args.image.now c.requires.1 _ c.see_header.ensures c.in_default.is

pub returns : goal.returns
returns c =
    number_used c.args.geometry.segments c.args.geometry.slots c.args.index c.args.image.now c.requires.1 _ _ c.see_header.ensures c.in-Some.is
