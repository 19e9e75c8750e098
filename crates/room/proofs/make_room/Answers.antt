-- `room::make_room` makes room by the plan, on a clean image as the definition says. Assumes nothing.
use native.Mathlib.Omega.{arith}
use mathlib.Core.Path.{refl}
use Rattle.room.proofs.Laws.{worked_there, worked_opened}
use Rattle.room.proofs.make_room.Goals as goal

pub returns-then-plan-geometry : goal.returns-then-plan-geometry
returns-then-plan-geometry c =
    worked_there c.args.geometry.segments c.args.geometry.slots c.args.plan c.args.total c.args.image.now c.requires c.args.budget _ c.if-plan-geometry.true refl refl refl refl

pub overflow_add-used : goal.overflow_add-used
overflow_add-used c =
    let h = c.requires in
    omega (arith, h.sized.segments)

pub after-requires : goal.after-requires
after-requires c =
    let h = c.requires in
    omega arith

pub open_header-left-requires : goal.open_header-left-requires
open_header-left-requires c = c.requires.sized

pub returns-then-used-geometry : goal.returns-then-used-geometry
returns-then-used-geometry c =
    worked_opened c.args.geometry.segments c.args.geometry.slots c.args.plan c.args.total c.args.image.now c.requires c.args.budget _ _ c.if-plan-geometry.false c.if-used-geometry.true c.after.ensures refl refl refl c.open_header-left.ensures
