-- `ring::last_used` walks down. The invariant: none from `index` on counts as in use. Assumes nothing.
use Prim.Native.Nat.{◌-◌}
use Rattle.ring.proofs.Laws.Search.{FreeAfter}
use Rattle.ring.proofs.last_used.Given as goal

abbrev pub invariant-loop-index : goal.invariant-loop-index
invariant-loop-index l = FreeAfter l.geometry.segments l.geometry.slots l.image (l.index - 1)
