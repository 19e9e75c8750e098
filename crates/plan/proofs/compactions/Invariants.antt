-- `plan::compactions` is the place of the first row with a dead slot. The invariant: with the rows from `turn` on it is whole. Assumes nothing.
use Prim.Native.Nat.{◌+◌, ◌≤◌}
use mathlib.Core.Path.{◌≡◌}
use Rattle.plan.specs.Statuses.{status_rows, first_marked}
use Rattle.plan.proofs.Laws.Walks.{rows_left}
use Rattle.plan.proofs.compactions.Given as goal

abbrev pub invariant-loop-turn : goal.invariant-loop-turn
invariant-loop-turn l = (l.turn ≤ l.used) × (l.turn + first_marked (rows_left l.geometry.segments l.geometry.slots l.image l.first.0 l.used l.turn) ≡ first_marked (status_rows l.geometry.segments l.geometry.slots l.image l.used l.first.0))
