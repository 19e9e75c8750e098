-- `share_list::quota_sum`. The invariant: the quotas so far and those left are all of them, and few enough for 64 bits. Assumes nothing.
use Prim.Native.Nat.{◌+◌, ◌-◌, ◌*◌, ◌≤◌}
use mathlib.Core.Path.{◌≡◌}
use lib.ListN.{length}
use Rattle.shares.specs.Shares.{shares_of, quota_sum}
use Rattle.share_list.specs.Places.{Stands, shares_from}
use Rattle.share_list.proofs.quota_sum.Given as goal

abbrev pub invariant-loop-at : goal.invariant-loop-at
invariant-loop-at l = Stands l.shares l.at × (l.sum + quota_sum (shares_from l.shares l.at) ≡ quota_sum (shares_of l.shares)) × (l.sum ≤ l.at * 4294967295)

abbrev pub decreases-loop-at : goal.decreases-loop-at
decreases-loop-at l = length l.shares - l.at
