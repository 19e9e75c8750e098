-- `faults::test_rows`. The invariant: what is left of the rows, behind what was tested, gives the whole. Assumes nothing.
use Prim.Native.Nat.{◌+◌}
use native.Mathlib.Omega.{arith}
use native.Mathlib.Nat.{mod-lt}
use Rattle.sums.proofs.Laws.{slots_inside}
use Rattle.faults.specs.Tests.{no_tests}
use Rattle.faults.proofs.Laws.Slots.{next_live, rows_start, rows_turn, rows_end}
use Rattle.faults.proofs.test_rows.Goals as goal

pub loop-k-init : goal.loop-k-init
unfolding no_tests
loop-k-init c = let a = c.args in (rows_start a.image.now a.segments a.slots a.used a.first, omega arith, omega arith)

pub overflow_add-at : goal.overflow_add-at
overflow_add-at c = omega (arith, c.requires)

pub nonzero_rem-at : goal.nonzero_rem-at
nonzero_rem-at c = omega (arith, c.requires.0.some)

pub overflow_add-at-in-loop-k : goal.overflow_add-at-in-loop-k
overflow_add-at-in-loop-k c = omega (arith, c.requires.0.slots)

pub overflow_mul-at : goal.overflow_mul-at
overflow_mul-at c =
    let m = mod-lt (c.args.first + c.loop-k.k) c.requires.0.some in
    omega (arith, c.requires.0.whole, slots_inside c.args.segments c.args.slots _ m)

pub overflow_add-at-in-loop-k-2 : goal.overflow_add-at-in-loop-k-2
overflow_add-at-in-loop-k-2 c =
    let m = mod-lt (c.args.first + c.loop-k.k) c.requires.0.some in
    omega (arith, c.requires.0.whole, slots_inside c.args.segments c.args.slots _ m)

pub overflow_mul-at-in-loop-k : goal.overflow_mul-at-in-loop-k
overflow_mul-at-in-loop-k c =
    let m = mod-lt (c.args.first + c.loop-k.k) c.requires.0.some in
    omega (arith, c.requires.0.whole, slots_inside c.args.segments c.args.slots _ m)

pub test_row-tests-requires : goal.test_row-tests-requires
test_row-tests-requires c =
    let l = c.loop-k in
    let m = mod-lt (c.args.first + l.k) c.requires.0.some in
    (omega (arith, c.requires.0.whole, slots_inside c.args.segments c.args.slots _ m), c.requires.0.slots, omega (arith, l.invariant, c.requires.2, next_live _ _ c.next_row.ensures))

pub loop-k-preserved : goal.loop-k-preserved
loop-k-preserved c =
    let a = c.args in
    let l = c.loop-k in
    let z = c.next_row in
    let r = c.test_row-tests in (
      rows_turn a.image.now a.segments a.slots a.used a.first l.k l.tests z.result r.result l.seen _ _ c.loop-k-test.true z.ensures r.ensures.0 l.invariant.0,
      omega arith,
      omega (arith, l.invariant.2, c.requires.0.slots, r.ensures.1, next_live _ _ z.ensures),
    )

pub returns : goal.returns
returns c =
    let a = c.args in
    let l = c.loop-k in
    rows_end a.image.now a.segments a.slots a.used a.first l.k l.tests _ l.seen c.loop-k-test.false l.invariant.0
