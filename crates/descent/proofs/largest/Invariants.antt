-- `descent::largest`. The invariant: the largest so far, and of what is left, is the largest. Assumes nothing.
use Prim.Native.Nat.{◌-◌, ◌≤◌, max}
use mathlib.Core.Path.{◌≡◌}
use lib.ListN.{take, drop}
use Rattle.descent.specs.Descent.{largest}
use Rattle.descent.proofs.largest.Given as goal

abbrev pub invariant-loop-i : goal.invariant-loop-i
invariant-loop-i l = (max l.most (largest (take (l.segments - l.i) (drop l.i l.left))) ≡ largest (take l.segments l.left)) × (l.i ≤ l.segments)
