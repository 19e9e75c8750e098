-- `ring::last_following` halves. The invariant: `low` follows or is 0, and `high` does not or is the count. Assumes nothing.
use Prim.Native.Nat.{◌-◌}
use Rattle.ring.proofs.Laws.Search.{Following}
use Rattle.ring.proofs.last_following.Given as goal

abbrev pub invariant-loop-low : goal.invariant-loop-low
invariant-loop-low l = Following l.geometry.segments l.geometry.slots l.image l.number l.low l.high

abbrev pub decreases-loop-low : goal.decreases-loop-low
decreases-loop-low l = l.high - l.low
