-- `fresh::build` does the steps of the definition. The invariant: the steps so far, and then what the block numbers from `block` on tell, are the whole list.
-- Assumes nothing.
use Prim.Native.Nat.{◌-◌}
use Rattle.model.specs.Mounted.{least_places}
use Rattle.fresh.proofs.Laws.{Building}
use Rattle.fresh.proofs.build.Given as goal

abbrev pub invariant-loop-block : goal.invariant-loop-block
invariant-loop-block l = Building least_places l.geometry.segments l.geometry.slots l.source l.places l.initial.at l.initial.target l.block l.at l.target

abbrev pub decreases-loop-block : goal.decreases-loop-block
decreases-loop-block l = least_places - l.block
