-- `partition_layout::layout_ok`. The invariant: whether the table is right is whether what is left is, beside the identifiers met and the bytes left. Assumes nothing.
use mathlib.Core.Path.{◌≡◌}
use Rattle.partition_layout.proofs.Walk.{Walked}
use Rattle.partition_layout.proofs.layout_ok.Given as goal

abbrev pub invariant-loop-pair : goal.invariant-loop-pair
invariant-loop-pair l = (l.pair-iterator.size ≡ 2) × Walked l.size l.layout l.left l.met l.pair-iterator.rest.now
