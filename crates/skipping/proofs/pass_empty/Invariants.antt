-- `skipping::pass_empty` passes over entries of 0. The invariant: those from `from` to `block` are 0. Assumes nothing.
use Prim.Native.Nat.{◌-◌}
use Rattle.model.specs.Mounted.{least_places}
use Rattle.skipping.specs.Passed.{Passed}
use Rattle.skipping.proofs.pass_empty.Given as goal

abbrev pub invariant-loop-block : goal.invariant-loop-block
invariant-loop-block l = Passed l.places l.from l.block

abbrev pub decreases-loop-block : goal.decreases-loop-block
decreases-loop-block l = least_places - l.block
