-- `plan::first_free` halves. The invariant: the slots from `high` on begin with a free one, and those below `low` end with one that is not. Assumes nothing.
use native.Mathlib.Omega.{arith}
use Rattle.plan.proofs.Laws.Walks.{halving_start, halving_low, halving_high, halving_end}
use Rattle.plan.proofs.first_free.Goals as goal

pub loop-low-init : goal.loop-low-init
loop-low-init c =
    halving_start c.args.geometry.segments c.args.geometry.slots c.args.number.0 _ c.args.image.now c.requires c.first_slot-from.ensures

pub loop-low-preserved-then-image-from : goal.loop-low-preserved-then-image-from
loop-low-preserved-then-image-from c =
    halving_low _ _ _ _ _ c.loop-low.invariant c.loop-low-test.true _ (omega (arith, c.loop-low-test.true)) (omega (arith, c.loop-low-test.true)) c.if-image-from.true

pub loop-low-preserved : goal.loop-low-preserved
loop-low-preserved c =
    halving_high _ _ _ _ _ c.loop-low.invariant c.loop-low-test.true _ (omega (arith, c.loop-low-test.true)) (omega (arith, c.loop-low-test.true)) c.if-image-from.false

pub returns : goal.returns
returns c =
    let a = c.args in
    halving_end a.geometry.segments a.geometry.slots a.number.0 _ _ _ a.image.now c.first_slot-from.ensures c.loop-low.invariant c.loop-low-test.false
