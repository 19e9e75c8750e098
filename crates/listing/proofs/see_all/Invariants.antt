-- `listing::see_all`. The invariant: the first `i` are there. Assumes nothing.
use Prim.Native.Nat.{◌≤◌}
use mathlib.Core.Path.{◌≡◌}
use mathlib.Core.List.{map}
use lib.ListN.{length, take}
use Rattle.model.specs.Chip.{most_segments}
use Rattle.model.specs.State.{segments_of}
use Rattle.index.specs.Shows.{uncounted}
use Rattle.listing.proofs.see_all.Given as goal

abbrev pub invariant-loop-i : goal.invariant-loop-i
invariant-loop-i l = (take l.i l.table ≡ map uncounted (take l.i (segments_of l.geometry.segments l.geometry.slots l.image))) × (l.i ≤ l.geometry.segments) × (length l.table ≡ most_segments)
