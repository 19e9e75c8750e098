-- `mounted_plan::count_compactions` is the plan of the definition, on any image. Assumes nothing.
use Rattle.mounted_plan.proofs.Laws.Seen.{plan_few, plan_counted}
use Rattle.mounted_plan.proofs.count_compactions.Goals as goal

pub returns-then-used-geometry : goal.returns-then-used-geometry
returns-then-used-geometry c = let a = c.args in plan_few a.geometry.segments a.geometry.slots a.plan a.image.now c.if-used-geometry.true

pub returns : goal.returns
returns c =
    let a = c.args in
    plan_counted a.geometry.segments a.geometry.slots a.plan a.image.now _ c.if-used-geometry.false c.compactions-compactions.ensures
