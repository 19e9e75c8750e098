-- `text::add`. The invariant: the first `i` bytes are there. Assumes nothing.
use Prim.Native.Nat.{◌+◌, ◌≤◌}
use mathlib.Core.Path.{◌≡◌}
use lib.ListN.{length, take}
use Rattle.text.specs.Buffer.{over}
use Rattle.text.proofs.add.Given as goal

abbrev pub invariant-loop-i : goal.invariant-loop-i
invariant-loop-i l = (l.i ≤ length l.bytes) × (l.at + length l.bytes ≤ length l.initial.text) × (length l.text ≡ length l.initial.text) × (l.text ≡ over l.initial.text l.at (take l.i l.bytes))
