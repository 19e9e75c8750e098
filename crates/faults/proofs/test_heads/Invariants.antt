-- `faults::test_heads`. The invariant: what is left of the segments, behind what was tested, gives the whole. Assumes nothing.
use Prim.Native.Nat.{◌≤◌}
use mathlib.Core.Path.{◌≡◌}
use lib.ListN.{drop}
use Rattle.model.specs.State.{segments_of}
use Rattle.faults.specs.Tests.{head_tests}
use Rattle.faults.proofs.Laws.Heads.{tested}
use Rattle.faults.proofs.test_heads.Given as goal

abbrev pub invariant-loop-i : goal.invariant-loop-i
invariant-loop-i l =
    let segs = segments_of l.segments l.slots l.image in
    (tested l.tests (drop l.i segs) ≡ head_tests segs) × (l.i ≤ l.segments) × (l.tests.counts.used ≤ l.i) × (l.tests.counts.next ≤ 4294967296)
