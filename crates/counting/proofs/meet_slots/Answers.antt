-- `counting::meet_slots` meets the numbers of the definition. The invariant: those that are left, met by what there is, give the whole. Assumes nothing.
use Prim.Native.Nat.{◌+◌, ◌*◌}
use mathlib.Core.Path.{◌≡◌}
use native.Mathlib.Omega.{arith}
use lib.ListN.{get_or}
use Rattle.counting.proofs.Laws.Walk.{meeting_start, meeting_stop, meeting_next, meeting_end}
use Rattle.counting.proofs.meet_slots.Goals as goal

pub loop-slot-init : goal.loop-slot-init
loop-slot-init c = meeting_start _ _ _ _ _

-- what is met stands before the ranges: an edit is refused for that
pub loop-slot-preserved : goal.loop-slot-preserved
loop-slot-preserved c =
    let at = c.args.from.0 + c.loop-slot.slot * 256 in
    let e : c.from_le_bytes-block.result ≡ get_or c.args.image.now (at + 2) 0 + 256 * get_or c.args.image.now (at + 3) 0 = omega (arith, c.from_le_bytes-block.ensures) in
    meeting_next _ _ _ _ _ _ _ c.loop-slot.invariant c.loop-slot-test.true c.if-status.false _ e _ c.meet-met.ensures

pub returns-then-status : goal.returns-then-status
returns-then-status c =
    let w = c.loop-slot.invariant in
    (meeting_stop _ _ _ _ _ _ _ w c.loop-slot-test.true c.if-status.true, omega (arith, w.few, w.within))

pub returns : goal.returns
returns c =
    let w = c.loop-slot.invariant in
    (meeting_end _ _ _ _ _ _ _ w c.loop-slot-test.false, omega (arith, w.few, w.within))
