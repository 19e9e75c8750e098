-- `regard::regarded` has the numbers of the segments that are looked at. Assumes nothing.
use Prim.Native.Nat.{◌-◌}
use native.Mathlib.Omega.{arith}
use native.Mathlib.Nat.{mod-lt}
use Rattle.summary.proofs.Laws.{segment_inside}
use Rattle.regard.proofs.Laws.{regards_none, regards_owing, regards_settled}
use Rattle.regard.proofs.regarded.Goals as goal

pub returns-then-next-eq0 : goal.returns-then-next-eq0
returns-then-next-eq0 c =
    regards_none c.args.geometry.segments c.args.geometry.slots c.args.image.now c.requires.some _ c.largest-next.result c.numbers-left.ensures.0 c.numbers-left.ensures.1 c.largest-next.ensures c.if-next-eq0.true

pub overflow_mul-top : goal.overflow_mul-top
overflow_mul-top c =
    let t = mod-lt (c.largest-next.result - 1) c.requires.some in
    omega (arith, c.requires, t, segment_inside c.args.geometry.segments c.args.geometry.slots _ t)

pub overflow_mul-top-2 : goal.overflow_mul-top-2
overflow_mul-top-2 c =
    let t = mod-lt (c.largest-next.result - 1) c.requires.some in
    omega (arith, c.requires, t, segment_inside c.args.geometry.segments c.args.geometry.slots _ t)

pub overflow_add-top : goal.overflow_add-top
overflow_add-top c =
    let t = mod-lt (c.largest-next.result - 1) c.requires.some in
    omega (arith, c.requires, t, segment_inside c.args.geometry.segments c.args.geometry.slots _ t)

pub bounds-image-top : goal.bounds-image-top
bounds-image-top c =
    let t = mod-lt (c.largest-next.result - 1) c.requires.some in
    omega (arith, c.requires, t, segment_inside c.args.geometry.segments c.args.geometry.slots _ t)

pub offset_bounds-left-next : goal.offset_bounds-left-next
offset_bounds-left-next c =
    omega (arith, c.requires.segments, mod-lt c.largest-next.result c.requires.some)

pub bounds-left-next : goal.bounds-left-next
bounds-left-next c =
    omega (arith, c.requires.segments, mod-lt c.largest-next.result c.requires.some)

pub returns-then-image-top : goal.returns-then-image-top
returns-then-image-top c =
    regards_owing c.args.geometry.segments c.args.geometry.slots c.args.image.now c.requires.some _ c.largest-next.result c.numbers-left.ensures.0 c.numbers-left.ensures.1 c.largest-next.ensures (omega (arith, c.if-next-eq0.false)) c.if-image-top.true

pub returns-else-image-top : goal.returns-else-image-top
returns-else-image-top c =
    regards_settled c.args.geometry.segments c.args.geometry.slots c.args.image.now c.requires.some _ c.largest-next.result c.numbers-left.ensures.0 c.numbers-left.ensures.1 c.largest-next.ensures (omega (arith, c.if-next-eq0.false)) c.if-image-top.false
