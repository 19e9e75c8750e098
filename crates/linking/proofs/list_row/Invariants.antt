-- `linking::list_row`. The invariant: the slots behind those that are left were looked at. Assumes nothing.
use Prim.Native.Nat.{◌+◌, ◌-◌, ◌*◌, ◌≤◌}
use mathlib.Core.Path.{◌≡◌}
use Rattle.judge.specs.Rows.{kinds_at}
use Rattle.linking.specs.Counts.{count_row, Few}
use Rattle.index.specs.Tables.{link_row}
use Rattle.linking.proofs.list_row.Given as goal

abbrev pub invariant-loop-i : goal.invariant-loop-i
invariant-loop-i l =
    (l.counts ≡ count_row (kinds_at l.image ((l.header + l.i + 1) * 256) (l.slots - l.i))) × (l.tables ≡ link_row (l.header + l.i + 1) (kinds_at l.image ((l.header + l.i + 1) * 256) (l.slots - l.i)) l.initial.tables) × (l.i ≤ l.slots) × Few l.counts (l.slots - l.i)
