-- `erasing::erase_all` erases the segments in order. The invariant: the first `i` are erased, and paid for. Assumes nothing.
use Prim.Native.Nat.{◌≤◌}
use mathlib.Core.Path.{◌≡◌}
use lib.ListN.{length}
use Rattle.model.specs.Steps.{erase_first}
use Rattle.flash.specs.Ran.{Ran}
use Rattle.erasing.proofs.erase_all.Given as goal

abbrev pub invariant-loop-i : goal.invariant-loop-i
invariant-loop-i l = Ran (erase_first l.i) l.geometry.slots l.budget l.left l.initial.image l.image × (l.i ≤ l.geometry.segments) × (length l.image ≡ length l.initial.image)
