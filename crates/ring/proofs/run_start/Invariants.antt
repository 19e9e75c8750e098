-- `ring::run_start` walks down. The invariant: those from `index` up to the end count as in use. Assumes nothing.
use Rattle.ring.proofs.Laws.Search.{UsedFrom}
use Rattle.ring.proofs.run_start.Given as goal

abbrev pub invariant-loop-index : goal.invariant-loop-index
invariant-loop-index l = UsedFrom l.geometry.slots l.image l.index l.end
