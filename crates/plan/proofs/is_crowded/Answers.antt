-- `plan::is_crowded` tells whether at most one slot is not live. The invariant: with the rows from `turn` on the count is whole. Assumes nothing.
use mathlib.Core.Path.{sym}
use native.Mathlib.Omega.{arith}
use borrow.Author.Tests.{le-leb, lt-leb}
use Rattle.plan.proofs.Laws.Walks.{total, others_start, others_next, others_end}
use Rattle.plan.proofs.is_crowded.Goals as goal

pub loop-turn-init : goal.loop-turn-init
loop-turn-init c = let a = c.args in (omega arith, omega arith, omega (arith, others_start a.geometry.segments a.geometry.slots a.image.now a.first.0 a.used))

pub returns-then-found-gt1 : goal.returns-then-found-gt1
returns-then-found-gt1 c =
    let a = c.args in
    sym (lt-leb (total a.geometry.segments a.geometry.slots a.image.now a.first.0 a.used) 1 (omega (arith, c.if-found-gt1.true, c.count_not_live-found.ensures, c.loop-turn.invariant.2, others_next a.geometry.segments a.geometry.slots a.image.now a.first.0 a.used c.loop-turn.turn c.loop-turn-test.true)))

pub loop-turn-preserved : goal.loop-turn-preserved
loop-turn-preserved c =
    let a = c.args in
    (omega arith, omega (arith, c.if-found-gt1.false), omega (arith, c.if-found-gt1.false, c.count_not_live-found.ensures, c.loop-turn.invariant.2, others_next a.geometry.segments a.geometry.slots a.image.now a.first.0 a.used c.loop-turn.turn c.loop-turn-test.true))

pub returns : goal.returns
returns c =
    let a = c.args in
    sym (le-leb (total a.geometry.segments a.geometry.slots a.image.now a.first.0 a.used) 1 (omega (arith, c.loop-turn.invariant.1, c.loop-turn.invariant.2, others_end a.geometry.segments a.geometry.slots a.image.now a.first.0 a.used c.loop-turn.turn c.loop-turn-test.false)))
