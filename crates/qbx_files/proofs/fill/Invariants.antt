-- As many bytes were read as the buffer has room for.
use Rattle.std.proofs.Common.{◌≤◌, ◌-◌, length}
use Rattle.qbx_files.proofs.fill.Given as goal

abbrev pub invariant-loop-at : goal.invariant-loop-at
invariant-loop-at g l = l.at ≤ length l.buf

abbrev pub decreases-loop-at : goal.decreases-loop-at
decreases-loop-at g l = length l.buf - l.at
