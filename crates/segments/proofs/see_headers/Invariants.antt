-- `segments::see_headers` tells of the headers what the definition does. Assumes nothing.
use Prim.Native.Nat.{◌≤◌}
use mathlib.Core.Path.{◌≡◌}
use mathlib.Core.List.{map}
use lib.ListN.{length, take, drop}
use Rattle.model.specs.Chip.{most_segments}
use Rattle.model.specs.State.{segments_of}
use Rattle.judge.specs.Heads.{outline, heads, counts_of}
use Rattle.segments.proofs.Laws.Tables.{counted}
use Rattle.segments.proofs.see_headers.Given as goal

abbrev pub invariant-loop-i : goal.invariant-loop-i
invariant-loop-i l =
    let m = map outline (segments_of l.geometry.segments l.geometry.slots l.image) in
    (heads l.i l.table ≡ map outline (take l.i (segments_of l.geometry.segments l.geometry.slots l.image))) × (counted l.counts (drop l.i m) ≡ counts_of m) × (l.counts.used ≤ l.i) × (l.counts.next ≤ 4294967296) × (l.i ≤ l.geometry.segments) × (length l.table ≡ most_segments)
