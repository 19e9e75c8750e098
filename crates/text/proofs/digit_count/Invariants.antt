-- `text::digit_count`. The invariant: what is counted, and the digits of what is left, are those of the number. Assumes nothing.
use Prim.Native.Nat.{◌+◌, ◌-◌, ◌≤◌}
use mathlib.Core.Path.{◌≡◌}
use lib.ListN.{length}
use Rattle.text.specs.Decimal.{decimal_of}
use Rattle.text.proofs.digit_count.Given as goal

abbrev pub invariant-loop-rest : goal.invariant-loop-rest
invariant-loop-rest l = (1 ≤ l.count) × (length (decimal_of 19 l.n) + 1 ≡ l.count + length (decimal_of (20 - l.count) l.rest)) × (length (decimal_of 19 l.n) ≤ 10)

abbrev pub decreases-loop-rest : goal.decreases-loop-rest
decreases-loop-rest l = l.rest
