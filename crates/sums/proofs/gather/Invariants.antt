-- `sums::gather` gathers the summaries of the segments in use, oldest first. Assumes nothing.
use Prim.Native.Nat.{◌≤◌}
use mathlib.Core.Path.{◌≡◌}
use lib.ListN.{length}
use Rattle.model.specs.Chip.{most_segments}
use Rattle.judge.specs.Parts.{rows_on}
use Rattle.judge.specs.Tally.{none_met, tallies, summaries_of}
use Rattle.sums.proofs.Laws.{gathered}
use Rattle.sums.proofs.gather.Given as goal

abbrev pub invariant-loop-i : goal.invariant-loop-i
invariant-loop-i l =
    (gathered l.image l.geometry.segments l.geometry.slots l.used l.first l.i l.ring l.seen ≡ summaries_of l.first (tallies (rows_on l.image l.geometry.segments l.geometry.slots l.used l.first) none_met)) × (l.i ≤ l.used) × (length l.ring ≡ most_segments)
