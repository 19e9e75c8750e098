-- `put_answers::slot_before` is the search of the definition, left out where it can be. Assumes nothing.
use native.Mathlib.Omega.{arith}
use borrow.Author.Tests.{le-ltb, lt-leb}
use Rattle.model.specs.State.{capacity}
use Rattle.put_answers.specs.Answering.{found_before}
use Rattle.put_answers.proofs.slot_before.Goals as goal

pub returns-then-live-capacity : goal.returns-then-live-capacity
unfolding found_before
returns-then-live-capacity c =
    let a = c.args in
    rw (le-ltb _ _ c.if-geometry-plan.true, lt-leb (capacity a.geometry.segments a.geometry.slots) a.live (omega arith))
