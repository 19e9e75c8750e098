-- `mounted_plan::is_full` is the test of the definition, on any image. Assumes nothing.
use mathlib.Core.Bool.{not}
use mathlib.Core.Path.{ap}
use Rattle.mounted_plan.proofs.Laws.Seen.{full_stored, full_few, full_two, full_walked}
use native.Mathlib.Omega.{arith}
use Rattle.mounted_plan.proofs.is_full.Goals as goal

pub returns-then-not-absent : goal.returns-then-not-absent
returns-then-not-absent c = let a = c.args in full_stored a.geometry.segments a.geometry.slots a.absent a.plan a.image.now (ap not c.if-not-absent.true)

pub returns-then-plan-geometry : goal.returns-then-plan-geometry
returns-then-plan-geometry c =
    let a = c.args in
    full_few a.geometry.segments a.geometry.slots a.absent a.plan a.image.now (ap not c.if-not-absent.false) c.if-plan-geometry.true

pub returns-then-plan-geometry-2 : goal.returns-then-plan-geometry-2
returns-then-plan-geometry-2 c =
    let a = c.args in
    full_two a.geometry.segments a.geometry.slots a.absent a.plan a.image.now (ap not c.if-not-absent.false) c.if-plan-geometry.false (omega (arith, c.if-plan-geometry-2.true))

pub returns : goal.returns
returns c =
    let a = c.args in
    full_walked a.geometry.segments a.geometry.slots a.absent a.plan a.image.now (ap not c.if-not-absent.false) _ c.if-plan-geometry.false c.if-plan-geometry-2.false c.is_crowded.ensures
