-- From `i` on the byte is where it is from `start` on.
use Rattle.std.proofs.Common.{◌≡◌, ◌+◌, ◌≤◌}
use Rattle.byte_search.specs.Bytes.{index_of, slice}
use Rattle.byte_search.proofs.find.Given as goal

abbrev pub invariant-loop-i : goal.invariant-loop-i
invariant-loop-i l = (l.i ≤ l.end) × (l.i + index_of l.byte (slice l.i l.end l.bytes) ≡ l.start + index_of l.byte (slice l.start l.end l.bytes))
