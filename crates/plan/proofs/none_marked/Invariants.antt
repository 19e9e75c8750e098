-- `plan::none_marked` is the test of the definition. The invariant: the slots from `slot` on give the answer. Assumes nothing.
use Prim.Native.Nat.{◌+◌, ◌*◌, ◌≤◌}
use mathlib.Core.Path.{◌≡◌}
use lib.ListN.{length}
use Rattle.plan.specs.Statuses.{spaced, none_marked}
use Rattle.plan.proofs.Laws.Walks.{left}
use Rattle.plan.proofs.none_marked.Given as goal

abbrev pub invariant-loop-slot : goal.invariant-loop-slot
invariant-loop-slot l = (l.slot ≤ l.fn.geometry.slots) × (l.from + l.fn.geometry.slots * 256 ≤ length l.image) × (none_marked (left l.image l.fn.geometry.slots l.from l.slot) ≡ none_marked (spaced l.image 256 l.fn.geometry.slots l.from))
