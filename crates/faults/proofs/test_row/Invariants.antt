-- `faults::test_row`. The invariant: what is left of the row, behind what was tested, gives the whole. Assumes nothing.
use Prim.Native.Nat.{◌+◌, ◌-◌, ◌*◌, ◌≤◌}
use mathlib.Core.Path.{◌≡◌}
use Rattle.judge.specs.Rows.{kinds_at}
use Rattle.faults.specs.Tests.{look, test_slots}
use Rattle.faults.proofs.test_row.Given as goal

abbrev pub invariant-loop-i : goal.invariant-loop-i
invariant-loop-i l =
    (test_slots (kinds_at l.image (l.at + l.i * 256) (l.slots - l.i)) (look l.tests l.seen) ≡ test_slots (kinds_at l.image l.at l.slots) (look l.initial.tests l.initial.seen)) × (l.i ≤ l.slots) × (l.tests.live ≤ l.initial.tests.live + l.i)
