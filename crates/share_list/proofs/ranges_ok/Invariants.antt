-- `share_list::ranges_ok`. The invariant: whether all ranges are right is whether those left are. Assumes nothing.
use Prim.Native.Nat.{◌-◌}
use mathlib.Core.Path.{◌≡◌}
use lib.ListN.{length}
use Rattle.model.specs.Lists.{all}
use Rattle.shares.specs.Shares.{shares_of, range_ok}
use Rattle.share_list.specs.Places.{Stands, shares_from}
use Rattle.share_list.proofs.ranges_ok.Given as goal

abbrev pub invariant-loop-at : goal.invariant-loop-at
invariant-loop-at l = Stands l.shares l.at × (all range_ok (shares_of l.shares) ≡ all range_ok (shares_from l.shares l.at))

abbrev pub decreases-loop-at : goal.decreases-loop-at
decreases-loop-at l = length l.shares - l.at
