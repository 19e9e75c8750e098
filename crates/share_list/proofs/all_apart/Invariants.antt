-- `share_list::all_apart`. The invariant: whether all ranges are disjoint is whether those left are. Assumes nothing.
use Prim.Native.Nat.{◌-◌}
use mathlib.Core.Path.{◌≡◌}
use lib.ListN.{length}
use Rattle.shares.specs.Shares.{shares_of, disjoint}
use Rattle.share_list.specs.Places.{Stands, shares_from}
use Rattle.share_list.proofs.all_apart.Given as goal

abbrev pub invariant-loop-at : goal.invariant-loop-at
invariant-loop-at l = Stands l.shares l.at × (disjoint (shares_of l.shares) ≡ disjoint (shares_from l.shares l.at))

abbrev pub decreases-loop-at : goal.decreases-loop-at
decreases-loop-at l = length l.shares - l.at
