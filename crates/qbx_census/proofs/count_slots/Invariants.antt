-- `qbx_census::count_slots`. The invariant: what is left of the row, behind what was counted, gives the whole. Assumes nothing.
use Prim.Native.Nat.{◌+◌, ◌-◌, ◌*◌, ◌≤◌}
use mathlib.Core.Path.{◌≡◌}
use Rattle.judge.specs.Rows.{kinds_at}
use Rattle.qbx_census.specs.Census.{total, count_kinds}
use Rattle.qbx_census.proofs.count_slots.Given as goal

abbrev pub invariant-loop-i : goal.invariant-loop-i
invariant-loop-i l =
    (count_kinds l.sum (kinds_at l.image (l.at + l.i * 256) (l.slots - l.i)) ≡ count_kinds l.initial.sum (kinds_at l.image l.at l.slots)) × (l.i ≤ l.slots) × (total l.sum ≤ total l.initial.sum + l.i)
