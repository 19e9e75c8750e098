-- `share_list::apart`. The invariant: whether a range overlaps none of those behind it is whether it overlaps none of those left. Assumes nothing.
use Prim.Native.Nat.{◌+◌, ◌-◌}
use mathlib.Core.Path.{◌≡◌}
use lib.ListN.{length}
use Rattle.share_list.specs.Places.{Stands, clear_of}
use Rattle.share_list.proofs.apart.Given as goal

abbrev pub invariant-loop-other : goal.invariant-loop-other
invariant-loop-other l = Stands l.shares l.other × (clear_of l.shares l.one (l.one + 3) ≡ clear_of l.shares l.one l.other)

abbrev pub decreases-loop-other : goal.decreases-loop-other
decreases-loop-other l = length l.shares - l.other
