-- `header_seen::same_bytes` is the test of the definition. The invariant: the bytes from `i` on give the answer. Assumes nothing.
use Prim.Native.Nat.{◌≤◌}
use mathlib.Core.Path.{◌≡◌}
use lib.ListN.{length, drop}
use Rattle.model.specs.Lists.{same}
use Rattle.header_seen.proofs.same_bytes.Given as goal

abbrev pub invariant-loop-i : goal.invariant-loop-i
invariant-loop-i l = (l.i ≤ length l.a) × (same (drop l.i l.a) (drop l.i l.b) ≡ same l.a l.b)
