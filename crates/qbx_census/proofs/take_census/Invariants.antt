-- `qbx_census::take_census`. The invariant: what is left of the segments, behind what was counted, gives the whole. Assumes nothing.
use Prim.Native.Nat.{◌*◌, ◌≤◌}
use mathlib.Core.Path.{◌≡◌}
use lib.ListN.{drop}
use Rattle.model.specs.State.{segments_of}
use Rattle.qbx_census.specs.Census.{total, set_aside, count_segments, census_of}
use Rattle.qbx_census.proofs.take_census.Given as goal

abbrev pub invariant-loop-i : goal.invariant-loop-i
invariant-loop-i l =
    let m = set_aside l.aside (segments_of l.geometry.segments l.geometry.slots l.image) in
    (l.i ≤ l.geometry.segments) × (total l.census ≤ l.i * 256) × (count_segments l.census (drop l.i m) ≡ census_of m)
