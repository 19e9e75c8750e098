-- `places::enter_slots` enters the slots of the definition. The invariant: those that are left, entered, give the whole. Assumes nothing.
use Prim.Native.Nat.{◌+◌, ◌*◌}
use mathlib.Core.Path.{◌≡◌}
use native.Mathlib.Omega.{arith}
use lib.ListN.{get_or}
use Rattle.places.proofs.Laws.Walk.{entering_start, entering_stop, entering_over, entering_live, entering_end}
use Rattle.places.proofs.enter_slots.Goals as goal

pub loop-slot-init : goal.loop-slot-init
loop-slot-init c = entering_start _ _ _ _

pub shape_of-places-then-status : goal.shape_of-places-then-status
shape_of-places-then-status c = c.loop-slot.invariant.long

-- what is entered stands before the ranges: an edit is refused for that
pub loop-slot-preserved : goal.loop-slot-preserved
loop-slot-preserved c =
    let at = c.args.from.0 + c.loop-slot.slot * 256 in
    let e : c.from_le_bytes-block.result ≡ get_or c.args.image.now (at + 2) 0 + 256 * get_or c.args.image.now (at + 3) 0 = omega (arith, c.from_le_bytes-block.ensures) in
    entering_live _ _ _ _ _ _ c.loop-slot.invariant c.loop-slot-test.true c.if-status-ne-WRITTEN.false _ e

pub returns-then-status : goal.returns-then-status
returns-then-status c =
    entering_stop _ _ _ _ _ _ c.loop-slot.invariant c.loop-slot-test.true c.if-status.true

pub loop-slot-preserved-then-status-ne-WRITTEN : goal.loop-slot-preserved-then-status-ne-WRITTEN
loop-slot-preserved-then-status-ne-WRITTEN c =
    entering_over _ _ _ _ _ _ c.loop-slot.invariant c.loop-slot-test.true c.if-status.false c.if-status-ne-WRITTEN.true

pub shape_of-places : goal.shape_of-places
shape_of-places c = c.loop-slot.invariant.long

pub returns : goal.returns
returns c = entering_end _ _ _ _ _ _ c.loop-slot.invariant c.loop-slot-test.false
