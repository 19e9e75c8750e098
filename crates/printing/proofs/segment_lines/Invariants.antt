-- `printing::segment_lines`. The invariant: the lines of the first `i` segments are there. Assumes nothing.
use Prim.Native.Nat.{◌+◌, ◌*◌, ◌≤◌}
use lib.ListN.{take}
use Rattle.text.specs.Buffer.{Wrote}
use Rattle.index.specs.Shows.{shown_lines}
use Rattle.printing.proofs.segment_lines.Given as goal

abbrev pub invariant-loop-i : goal.invariant-loop-i
invariant-loop-i l = Wrote (shown_lines 0 (take l.i l.table)) l.initial.text l.at l.text l.end × (l.i ≤ l.segments) × (l.end ≤ l.at + 110 * l.i)
