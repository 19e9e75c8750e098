-- `regard::numbers`. The invariant: the first `i` are there. Assumes nothing.
use Prim.Native.Nat.{◌≤◌}
use mathlib.Core.Path.{◌≡◌}
use mathlib.Core.List.{map}
use lib.ListN.{length, take}
use Rattle.model.specs.Chip.{most_segments}
use Rattle.model.specs.State.{number_after, segments_of}
use Rattle.regard.proofs.numbers.Given as goal

abbrev pub invariant-loop-i : goal.invariant-loop-i
invariant-loop-i l = (take l.i l.left ≡ map number_after (take l.i (segments_of l.geometry.segments l.geometry.slots l.image))) × (l.i ≤ l.geometry.segments) × (length l.left ≡ most_segments)
