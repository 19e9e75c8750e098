-- `find::find` finds the first live slot of the block. The invariants: what is still to be looked at gives the whole answer, and nothing is found yet. Assumes nothing.
use mathlib.Core.Path.{refl, ◌∙◌}
use Rattle.find.proofs.Laws.{searching_start, searching_end, walking_start, walking_end, walking_over, walking_other, walking_next, walking_stop}
use Rattle.find.proofs.find.Goals as goal

pub segments-init : goal.segments-init
segments-init c =
    let a = c.args in
    (searching_start a.geometry.segments a.geometry.slots a.block.0 a.image.now a.first.0 a.used, refl)

pub loop-slot-init : goal.loop-slot-init
loop-slot-init c =
    (walking_start _ _ _ _ _ _ _ _ c.requires.0 c.segments.invariant.0 c.segments-test.true c.first_slot-from.ensures, c.segments.invariant.1)

pub loop-slot-preserved-then-not-may_hold : goal.loop-slot-preserved-then-not-may_hold
loop-slot-preserved-then-not-may_hold c =
    (walking_over _ _ _ _ _ _ _ _ _ c.loop-slot.invariant.0 c.loop-slot-test.true c.may_hold.ensures c.if-not-may_hold.true, c.loop-slot.invariant.1)

pub segments-preserved : goal.segments-preserved
segments-preserved c =
    (walking_end _ _ _ _ _ _ _ _ _ c.loop-slot.invariant.0 c.loop-slot-test.false, c.loop-slot.invariant.1)

pub returns-after-segments : goal.returns-after-segments
returns-after-segments c =
    c.segments.invariant.1 ∙ searching_end _ _ _ _ _ _ _ c.segments.invariant.0 c.segments-test.false

pub loop-slot-preserved-in_default : goal.loop-slot-preserved-in_default
loop-slot-preserved-in_default c =
    (walking_other _ _ _ _ _ _ _ _ _ c.loop-slot.invariant.0 c.loop-slot-test.true c.slot_kind-kind.result c.slot_kind-kind.ensures c.in_default.not-Live, c.loop-slot.invariant.1)

pub loop-slot-preserved : goal.loop-slot-preserved
loop-slot-preserved c = (
  walking_next _ _ _ _ _ _ _ _ _ c.loop-slot.invariant.0 c.loop-slot-test.true c.slot_kind-kind.result c.slot_kind-kind.ensures c.in-Live.length c.in-Live.held c.in-Live.is c.if-held-block.false,
  c.loop-slot.invariant.1,
)

pub returns-then-held-block : goal.returns-then-held-block
returns-then-held-block c =
    walking_stop _ _ _ _ _ _ _ _ _ c.loop-slot.invariant.0 c.loop-slot-test.true c.slot_kind-kind.result c.slot_kind-kind.ensures c.in-Live.length c.in-Live.held
    c.in-Live.is c.if-held-block.true
