-- `tally::cleared_bits` counts the bits of the definition. The invariant: the bytes not yet counted have the rest. Assumes nothing.
use Prim.Native.Nat.{◌+◌, ◌*◌, ◌≤◌}
use mathlib.Core.Path.{◌≡◌}
use lib.ListN.{length, drop}
use Rattle.model.specs.Header.{cleared_bits}
use Rattle.tally.proofs.cleared_bits.Given as goal

abbrev pub invariant-loop-byte : goal.invariant-loop-byte
invariant-loop-byte l = (l.byte-index ≤ length l.bytes) × (l.sum ≤ 8 * l.byte-index) × (l.sum + cleared_bits (drop l.byte-index l.bytes) ≡ cleared_bits l.bytes)
