-- `flash::program_run` programs the bytes as far as the budget goes. The invariant: the first `i` are programmed, and paid for. Assumes nothing.
use Prim.Native.Nat.{◌-◌, ◌≤◌, min}
use mathlib.Core.Path.{◌≡◌}
use lib.ListN.{length}
use Rattle.flash.proofs.Laws.{ProgrammedTo}
use Rattle.flash.proofs.program_run.Given as goal

abbrev pub invariant-loop-i : goal.invariant-loop-i
invariant-loop-i l =
    ProgrammedTo l.at l.i l.bytes l.initial.image l.image × (l.left ≡ l.budget - l.i) × (l.i ≤ min l.budget (length l.bytes)) × (length l.image ≡ length l.initial.image)
