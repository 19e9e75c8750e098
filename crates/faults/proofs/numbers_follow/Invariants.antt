-- `faults::numbers_follow`. The invariant: the numbers that are left follow if all do. Assumes nothing.
use Prim.Native.Nat.{◌+◌, ◌-◌, ◌≤◌}
use mathlib.Core.Path.{◌≡◌}
use Rattle.model.specs.State.{segments_of, numbers_from}
use Rattle.faults.proofs.numbers_follow.Given as goal

abbrev pub invariant-loop-k : goal.invariant-loop-k
invariant-loop-k l =
    let segs = segments_of l.segments l.slots l.image in
    (numbers_from l.segments segs (l.used - l.k) (l.first + l.k) ≡ numbers_from l.segments segs l.used l.first) × (l.k ≤ l.used)
