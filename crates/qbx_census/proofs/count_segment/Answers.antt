-- `qbx_census::count_segment`: the segment that the image has at an index. Assumes nothing.
use mathlib.Core.Path.{◌∙◌}
use native.Mathlib.Omega.{arith}
use Rattle.summary.proofs.Laws.{segment_inside}
use Rattle.qbx_census.proofs.Laws.{segment_unused, segment_used}
use Rattle.qbx_census.proofs.count_segment.Goals as goal

pub overflow_mul-at : goal.overflow_mul-at
overflow_mul-at c = omega (arith, c.requires, segment_inside c.args.geometry.segments c.args.geometry.slots c.args.index c.requires.1)

pub overflow_mul-at-2 : goal.overflow_mul-at-2
overflow_mul-at-2 c = omega (arith, c.requires, segment_inside c.args.geometry.segments c.args.geometry.slots c.args.index c.requires.1)

pub overflow_add-first : goal.overflow_add-first
overflow_add-first c = omega (arith, c.requires, segment_inside c.args.geometry.segments c.args.geometry.slots c.args.index c.requires.1)

pub slice_bounds-see_header-end : goal.slice_bounds-see_header-end
slice_bounds-see_header-end c = omega (arith, c.requires, segment_inside c.args.geometry.segments c.args.geometry.slots c.args.index c.requires.1)

pub count_slots-requires : goal.count_slots-requires
count_slots-requires c =
    let i = segment_inside c.args.geometry.segments c.args.geometry.slots c.args.index c.requires.1 in
    (omega (arith, c.requires), omega (arith, c.requires), omega (arith, c.requires))

pub returns-in_default : goal.returns-in_default
returns-in_default c = (segment_unused c.args.geometry.segments c.args.geometry.slots c.args.index c.args.image.now c.requires.1 _ c.see_header.ensures c.args.census c.in_default.is, omega arith)

pub returns : goal.returns
returns c = (c.count_slots.ensures.0 ∙ segment_used c.args.geometry.segments c.args.geometry.slots c.args.index c.args.image.now c.requires.1 _ c.see_header.ensures c.args.census _ c.in-Some.is, omega (arith, c.requires, c.count_slots.ensures.1))
