-- `plan::is_crowded` tells whether at most one slot is not live. The invariant: with the rows from `turn` on the count is whole. Assumes nothing.
use Prim.Native.Nat.{◌+◌, ◌≤◌}
use mathlib.Core.Path.{◌≡◌}
use Rattle.plan.proofs.Laws.Walks.{others, total}
use Rattle.plan.proofs.is_crowded.Given as goal

abbrev pub invariant-loop-turn : goal.invariant-loop-turn
invariant-loop-turn l = (l.turn ≤ l.used) × (l.found ≤ 1) × (l.found + others l.geometry.segments l.geometry.slots l.image l.first.0 l.used l.turn ≡ total l.geometry.segments l.geometry.slots l.image l.first.0 l.used)
