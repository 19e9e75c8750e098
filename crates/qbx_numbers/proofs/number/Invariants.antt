-- `qbx_numbers::number`. The invariant: the bytes from `b-index` on, behind the value so far, give the answer. Assumes nothing.
use Prim.Native.Nat.{◌<◌}
use mathlib.Core.Path.{◌≡◌}
use lib.ListN.{drop}
use Rattle.qbx_numbers.specs.Number.{number_from, number_of}
use Rattle.qbx_numbers.proofs.number.Given as goal

abbrev pub invariant-loop-b : goal.invariant-loop-b
invariant-loop-b l = (l.value < 10000000000000000000) × (number_from l.value (drop l.b-index l.word) ≡ number_of l.word)
