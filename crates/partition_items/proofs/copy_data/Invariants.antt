-- `partition_items::copy_data` programs the bytes as far as the budget goes. The invariant: the first `i` are programmed, and paid for. Assumes nothing.
use Prim.Native.Nat.{◌-◌, ◌≤◌, min}
use mathlib.Core.Path.{◌≡◌}
use lib.ListN.{length, take, drop}
use Rattle.flash.proofs.Laws.{ProgrammedTo}
use Rattle.partition_items.proofs.copy_data.Given as goal

abbrev pub invariant-loop-i : goal.invariant-loop-i
invariant-loop-i l =
    ProgrammedTo l.to l.i (take l.size (drop l.from l.initial.image)) l.initial.image l.image × (l.left ≡ l.budget - l.i) × (l.i ≤ min l.budget l.size) × (length l.image ≡ length l.initial.image)
