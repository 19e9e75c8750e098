-- `faults::test_rows`. The invariant: what is left of the rows, behind what was tested, gives the whole. Assumes nothing.
use Prim.Native.Nat.{◌+◌, ◌-◌, ◌*◌, ◌≤◌}
use mathlib.Core.Path.{◌≡◌}
use Rattle.model.specs.Chip.{most_slots}
use Rattle.judge.specs.Parts.{rows_on}
use Rattle.faults.specs.Tests.{look, test_rows, rows_tested}
use Rattle.faults.proofs.test_rows.Given as goal

abbrev pub invariant-loop-k : goal.invariant-loop-k
invariant-loop-k l =
    ((test_rows (rows_on l.image l.segments l.slots (l.used - l.k) (l.first + l.k)) (look l.tests l.seen)).tests ≡ rows_tested (rows_on l.image l.segments l.slots l.used l.first)) × (l.k ≤ l.used) × (l.tests.live ≤ most_slots * l.k)
