-- `plan::count_not_live` counts to 2. The invariant: with the slots from `slot` on the count is whole. Assumes nothing.
use Prim.Native.Nat.{◌+◌, ◌*◌, ◌≤◌}
use mathlib.Core.Path.{◌≡◌}
use lib.ListN.{length}
use Rattle.model.specs.Lists.{count}
use Rattle.plan.specs.Statuses.{spaced, not_live}
use Rattle.plan.proofs.Laws.Walks.{left}
use Rattle.plan.proofs.count_not_live.Given as goal

abbrev pub invariant-loop-slot : goal.invariant-loop-slot
invariant-loop-slot l = (l.slot ≤ l.fn.geometry.slots) × (l.from + l.fn.geometry.slots * 256 ≤ length l.image) × (l.found ≤ 1) × (l.found + count not_live (left l.image l.fn.geometry.slots l.from l.slot) ≡ l.earlier + count not_live (spaced l.image 256 l.fn.geometry.slots l.from))
