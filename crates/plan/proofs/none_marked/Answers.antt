-- `plan::none_marked` is the test of the definition. The invariant: the slots from `slot` on give the answer. Assumes nothing.
use mathlib.Core.Path.{sym, ap, ◌∙◌}
use native.Mathlib.Omega.{arith}
use Rattle.plan.specs.Statuses.{none_marked}
use Rattle.plan.proofs.Laws.Walks.{row_inside, row_read, marked_start, marked_next, marked_stop, marked_end}
use Rattle.plan.proofs.none_marked.Goals as goal

pub loop-slot-init : goal.loop-slot-init
loop-slot-init c =
    (omega arith, row_inside c.args.geometry.segments c.args.geometry.slots c.args.number.0 _ _ c.requires c.first_slot-from.ensures, marked_start _ _ _)

pub returns-then-is_marked : goal.returns-then-is_marked
returns-then-is_marked c =
    let a = c.args in
    sym (marked_stop _ _ _ c.loop-slot.slot c.loop-slot-test.true c.is_marked.ensures c.if-is_marked.true) ∙ c.loop-slot.invariant.2 ∙ ap none_marked (row_read a.geometry.segments a.geometry.slots a.number.0 _ a.image.now c.first_slot-from.ensures)

pub loop-slot-preserved : goal.loop-slot-preserved
loop-slot-preserved c =
    (omega arith, c.loop-slot.invariant.1, sym (marked_next _ _ _ c.loop-slot.slot c.loop-slot-test.true c.is_marked.ensures c.if-is_marked.false) ∙ c.loop-slot.invariant.2)

pub returns : goal.returns
returns c =
    let a = c.args in
    sym (marked_end _ _ _ c.loop-slot.slot c.loop-slot-test.false) ∙ c.loop-slot.invariant.2 ∙ ap none_marked (row_read a.geometry.segments a.geometry.slots a.number.0 _ a.image.now c.first_slot-from.ensures)
