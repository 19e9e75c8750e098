-- `tally::zeros_before` counts the bytes of the definition. The invariant: the bytes from `i` on give the rest of the answer. Assumes nothing.
use Prim.Native.Nat.{◌+◌, ◌≤◌}
use mathlib.Core.Path.{◌≡◌}
use lib.ListN.{length, drop}
use Rattle.tally.specs.Seen.{zeros_before}
use Rattle.tally.proofs.zeros_before.Given as goal

abbrev pub invariant-loop-i : goal.invariant-loop-i
invariant-loop-i l = (l.i ≤ length l.bytes) × (l.i + zeros_before (drop l.i l.bytes) ≡ zeros_before l.bytes)
