-- `plan::compactions` is the place of the first row with a dead slot. The invariant: with the rows from `turn` on it is whole. Assumes nothing.
use native.Mathlib.Omega.{arith}
use Rattle.plan.proofs.Laws.Walks.{first_start, first_next, first_stop, first_end}
use Rattle.plan.proofs.compactions.Goals as goal

pub loop-turn-init : goal.loop-turn-init
loop-turn-init c = let a = c.args in (omega arith, omega (arith, first_start a.geometry.segments a.geometry.slots a.image.now a.first.0 a.used))

pub returns-then-not-none_marked : goal.returns-then-not-none_marked
returns-then-not-none_marked c =
    omega (arith, c.loop-turn.invariant.1, first_stop _ _ _ _ _ c.loop-turn.turn c.loop-turn-test.true c.none_marked.ensures c.if-not-none_marked.true)

pub loop-turn-preserved : goal.loop-turn-preserved
loop-turn-preserved c =
    (omega arith, omega (arith, c.loop-turn.invariant.1, first_next _ _ _ _ _ c.loop-turn.turn c.loop-turn-test.true c.none_marked.ensures c.if-not-none_marked.false))

pub returns : goal.returns
returns c =
    let a = c.args in
    omega (arith, c.loop-turn.invariant.0, c.loop-turn.invariant.1, first_end a.geometry.segments a.geometry.slots a.image.now a.first.0 a.used c.loop-turn.turn c.loop-turn-test.false)
