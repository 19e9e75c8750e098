-- `summary::see_segment` shows the segment that the image has at an index. Assumes nothing.
use mathlib.Core.Path.{sym, ap, ◌∙◌}
use mathlib.Core.Bool.{true, false}
use native.Mathlib.Omega.{arith}
use Rattle.judge.specs.declared.SegmentState.{SegmentState}
use Rattle.judge.specs.Heads.{bare_of}
use Rattle.summary.proofs.Laws.{segment_inside, seen_in_use, seen_unused}
use Rattle.summary.proofs.see_segment.Goals as goal

pub overflow_mul-at : goal.overflow_mul-at
overflow_mul-at c = omega (arith, c.requires, segment_inside c.args.geometry.segments c.args.geometry.slots c.args.index c.requires.1)

pub overflow_mul-at-2 : goal.overflow_mul-at-2
overflow_mul-at-2 c = omega (arith, c.requires, segment_inside c.args.geometry.segments c.args.geometry.slots c.args.index c.requires.1)

pub overflow_add-first : goal.overflow_add-first
overflow_add-first c = omega (arith, c.requires, segment_inside c.args.geometry.segments c.args.geometry.slots c.args.index c.requires.1)

pub slice_bounds-see_header-end : goal.slice_bounds-see_header-end
slice_bounds-see_header-end c = omega (arith, c.requires, segment_inside c.args.geometry.segments c.args.geometry.slots c.args.index c.requires.1)

pub overflow_add-end-in_default : goal.overflow_add-end-in_default
overflow_add-end-in_default c = omega (arith, c.requires, segment_inside c.args.geometry.segments c.args.geometry.slots c.args.index c.requires.1)

pub slice_bounds-blank_test-end : goal.slice_bounds-blank_test-end
slice_bounds-blank_test-end c = omega (arith, c.requires, segment_inside c.args.geometry.segments c.args.geometry.slots c.args.index c.requires.1)

pub returns-then-whole : goal.returns-then-whole
unfolding bare_of
returns-then-whole c =
    c.head.ensures ∙ seen_unused c.args.geometry.segments c.args.geometry.slots c.args.index c.args.image.now c.requires.1 _ true c.see_header.ensures c.in_default.is
    (sym c.if-whole.true ∙ c.blank_test-whole.ensures.0)

pub returns-in_default : goal.returns-in_default
unfolding bare_of
returns-in_default c =
    c.head-in_default.ensures ∙ seen_unused c.args.geometry.segments c.args.geometry.slots c.args.index c.args.image.now c.requires.1 _ false c.see_header.ensures c.in_default.is
    (sym c.if-whole.false ∙ c.blank_test-whole.ensures.0)

pub returns : goal.returns
returns c =
    let h = c.in-Some in
    c.head-2.ensures ∙ (ap (λ (x : SegmentState). bare_of x h.seen.former h.seen.number.0) c.state_seen.ensures
    ∙ seen_in_use c.args.geometry.segments c.args.geometry.slots c.args.index c.args.image.now c.requires.1 _ _ c.see_header.ensures h.is)
