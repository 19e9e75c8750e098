-- `partition_items::carry_items` carries one item of the table after the other. The invariant: whatever finishes the rest of them finishes the whole. Assumes nothing.
use mathlib.Core.Path.{◌≡◌}
use Rattle.partitions.specs.Writes.{entry_for}
use Rattle.partition_items.proofs.Carrying.{Carrying}
use Rattle.partition_items.proofs.carry_items.Given as goal

abbrev pub invariant-loop-pair : goal.invariant-loop-pair
invariant-loop-pair l =
    (l.pair-iterator.size ≡ 2) × Carrying l.size l.from l.to l.layout (entry_for l.layout l.item l.contents) l.budget l.initial.image l.image l.left l.at l.pair-iterator.rest.now
