-- `listing::numbers`. The invariant: the first `i` are there. Assumes nothing.
use Prim.Native.Nat.{◌≤◌}
use mathlib.Core.Path.{◌≡◌}
use mathlib.Core.List.{map}
use lib.ListN.{length, take}
use Rattle.model.specs.Chip.{most_segments}
use Rattle.index.specs.Shows.{after_shown}
use Rattle.listing.proofs.numbers.Given as goal

abbrev pub invariant-loop-i : goal.invariant-loop-i
invariant-loop-i l = (take l.i l.left ≡ map after_shown (take l.i l.table)) × (l.i ≤ l.segments) × (length l.left ≡ most_segments)
