-- `request::in_range`: the tests of the definition, in its order. Assumes nothing.
use native.Mathlib.Omega.{arith}
use borrow.Author.Tests.{le-leb, lt-leb}
use Rattle.model.specs.Chip.{most_segments, in_range}
use Rattle.request.proofs.in_range.Goals as goal

pub returns-then-segments-lt2 : goal.returns-then-segments-lt2
unfolding in_range
returns-then-segments-lt2 c = rw (lt-leb 2 _ c.if-segments-lt2.true)

pub returns-then-segments-gt-MOST_SEGMENTS : goal.returns-then-segments-gt-MOST_SEGMENTS
unfolding in_range
returns-then-segments-gt-MOST_SEGMENTS c = rw (le-leb 2 _ c.if-segments-lt2.false, lt-leb c.args.segments most_segments (omega (arith, c.if-segments-gt-MOST_SEGMENTS.true)))

-- what is in range stands before what is not: an edit is refused for that
pub returns : goal.returns
unfolding in_range
returns c = rw (le-leb 2 _ c.if-segments-lt2.false, le-leb c.args.segments most_segments (omega (arith, c.if-segments-gt-MOST_SEGMENTS.false)), le-leb 2 _ c.if-slots-lt2.false)

pub returns-then-slots-lt2 : goal.returns-then-slots-lt2
unfolding in_range
returns-then-slots-lt2 c = rw (le-leb 2 _ c.if-segments-lt2.false, le-leb c.args.segments most_segments (omega (arith, c.if-segments-gt-MOST_SEGMENTS.false)), lt-leb 2 _ c.if-slots-lt2.true)
