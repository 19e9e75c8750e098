-- `plan::count_not_live` counts to 2. The invariant: with the slots from `slot` on the count is whole. Assumes nothing.
use mathlib.Core.Path.{ap}
use native.Mathlib.Omega.{arith}
use Rattle.model.specs.Lists.{count}
use Rattle.plan.specs.Statuses.{not_live}
use Rattle.plan.proofs.Laws.Walks.{row_inside, row_read, not_live_start, not_live_more, not_live_same, not_live_end}
use Rattle.plan.proofs.count_not_live.Goals as goal

pub loop-slot-init : goal.loop-slot-init
loop-slot-init c =
    (omega arith, row_inside c.args.geometry.segments c.args.geometry.slots c.args.number.0 _ _ c.requires.0 c.first_slot-from.ensures, c.requires.1, omega (arith, not_live_start c.args.image.now c.args.geometry.slots c.first_slot-from.result))

pub loop-slot-preserved-then-status-eq-WRITTEN : goal.loop-slot-preserved-then-status-eq-WRITTEN
loop-slot-preserved-then-status-eq-WRITTEN c =
    let a = c.args in
    (omega arith, c.loop-slot.invariant.1, c.loop-slot.invariant.2, omega (arith, c.loop-slot.invariant.3, not_live_same a.image.now a.geometry.slots c.first_slot-from.result c.loop-slot.slot c.loop-slot-test.true c.if-status-eq-WRITTEN.true))

pub returns-then-found-gt1 : goal.returns-then-found-gt1
returns-then-found-gt1 c =
    let a = c.args in
    omega (
      arith,
      c.if-found-gt1.true,
      c.loop-slot.invariant.2,
      c.loop-slot.invariant.3,
      not_live_more a.image.now a.geometry.slots c.first_slot-from.result c.loop-slot.slot c.loop-slot-test.true c.if-status-eq-WRITTEN.false,
      ap (count not_live) (row_read a.geometry.segments a.geometry.slots a.number.0 _ a.image.now c.first_slot-from.ensures),
    )

pub loop-slot-preserved : goal.loop-slot-preserved
loop-slot-preserved c =
    let a = c.args in
    (omega arith, c.loop-slot.invariant.1, omega (arith, c.if-found-gt1.false), omega (arith, c.loop-slot.invariant.3, not_live_more a.image.now a.geometry.slots c.first_slot-from.result c.loop-slot.slot c.loop-slot-test.true c.if-status-eq-WRITTEN.false))

pub returns : goal.returns
returns c =
    let a = c.args in
    omega (
      arith,
      c.loop-slot.invariant.2,
      c.loop-slot.invariant.3,
      not_live_end a.image.now a.geometry.slots c.first_slot-from.result c.loop-slot.slot c.loop-slot-test.false,
      ap (count not_live) (row_read a.geometry.segments a.geometry.slots a.number.0 _ a.image.now c.first_slot-from.ensures),
    )
