-- `plan::first_free` halves. The invariant: the slots from `high` on begin with a free one, and those below `low` end with one that is not. Assumes nothing.
use Prim.Native.Nat.{◌-◌}
use Rattle.plan.proofs.Laws.Walks.{Halving}
use Rattle.plan.proofs.first_free.Given as goal

abbrev pub invariant-loop-low : goal.invariant-loop-low
invariant-loop-low l = Halving l.image l.fn.geometry.slots l.from l.low l.high

abbrev pub decreases-loop-low : goal.decreases-loop-low
decreases-loop-low l = l.high - l.low
