-- `sums::gather` gathers the summaries of the segments in use, oldest first. Assumes nothing.
use Prim.Native.Nat.{◌+◌, ◌%◌, ◌<◌}
use mathlib.Core.Path.{refl}
use native.Mathlib.Omega.{arith}
use native.Mathlib.Nat.{mod-lt}
use lib.ListN.{length, length-set}
use Rattle.sums.proofs.Laws.{slots_inside, gather_start, gather_turn, gather_end}
use Rattle.sums.proofs.gather.Goals as goal

pub loop-i-init : goal.loop-i-init
loop-i-init c = (gather_start c.args.image.now c.args.geometry.segments c.args.geometry.slots c.args.used c.args.first _, omega arith, refl)

pub overflow_add-number : goal.overflow_add-number
overflow_add-number c = omega (arith, c.requires)

pub overflow_add-at : goal.overflow_add-at
overflow_add-at c =
    let n = c.args.first + c.loop-i.i in
    let m = mod-lt n c.requires.0.some in
    omega (arith, c.requires.0.slots, c.requires.0.whole, slots_inside c.args.geometry.segments c.args.geometry.slots (n % c.args.geometry.segments) m)

pub overflow_mul-at : goal.overflow_mul-at
overflow_mul-at c =
    let n = c.args.first + c.loop-i.i in
    let m = mod-lt n c.requires.0.some in
    omega (arith, c.requires.0.slots, c.requires.0.whole, slots_inside c.args.geometry.segments c.args.geometry.slots (n % c.args.geometry.segments) m)

pub overflow_add-at-in-loop-i : goal.overflow_add-at-in-loop-i
overflow_add-at-in-loop-i c =
    let n = c.args.first + c.loop-i.i in
    let m = mod-lt n c.requires.0.some in
    omega (arith, c.requires.0.slots, c.requires.0.whole, slots_inside c.args.geometry.segments c.args.geometry.slots (n % c.args.geometry.segments) m)

pub overflow_mul-at-in-loop-i : goal.overflow_mul-at-in-loop-i
overflow_mul-at-in-loop-i c =
    let n = c.args.first + c.loop-i.i in
    let m = mod-lt n c.requires.0.some in
    omega (arith, c.requires.0.slots, c.requires.0.whole, slots_inside c.args.geometry.segments c.args.geometry.slots (n % c.args.geometry.segments) m)

pub scan_row-row-requires : goal.scan_row-row-requires
scan_row-row-requires c =
    let n = c.args.first + c.loop-i.i in
    let m = mod-lt n c.requires.0.some in
    (omega (arith, c.requires.0.whole, slots_inside c.args.geometry.segments c.args.geometry.slots (n % c.args.geometry.segments) m), c.requires.0.slots)

pub overflow_cast-number : goal.overflow_cast-number
overflow_cast-number c = omega (arith, c.requires)

pub offset_bounds-ring-i : goal.offset_bounds-ring-i
offset_bounds-ring-i c = omega (arith, c.requires)

pub bounds-ring-i : goal.bounds-ring-i
bounds-ring-i c = omega (arith, c.requires)

pub loop-i-preserved : goal.loop-i-preserved
loop-i-preserved c =
    let l = c.loop-i in
    let t = c.loop-i-test.true in
    let k : l.i < length l.ring = omega (arith, l.invariant.2, c.requires) in (
      gather_turn c.args.image.now c.args.geometry.segments c.args.geometry.slots c.args.used c.args.first l.i l.ring l.seen _ _ c.in_use.result _ t k c.in_use.ensures c.scan_row-row.ensures.0 l.invariant.0,
      omega arith,
      simp length-set l.invariant.2,
    )

pub returns : goal.returns
returns c =
    let l = c.loop-i in
    gather_end c.args.image.now c.args.geometry.segments c.args.geometry.slots c.args.used c.args.first l.i l.ring l.seen _ (omega arith) l.invariant.0
