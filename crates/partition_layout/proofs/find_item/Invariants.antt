-- `partition_layout::find_item`. The invariant: the item looked for is among those left, and the bytes so far and those of the items left are all of them. Assumes nothing.
use mathlib.Core.Path.{◌≡◌}
use Rattle.partition_layout.proofs.Walk.{Sought}
use Rattle.partition_layout.proofs.find_item.Given as goal

abbrev pub invariant-loop-pair : goal.invariant-loop-pair
invariant-loop-pair l = (l.pair-iterator.size ≡ 2) × Sought l.layout l.item l.offset l.pair-iterator.rest.now
