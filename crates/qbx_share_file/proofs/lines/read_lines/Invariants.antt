-- `qbx_share_file::lines::read_lines`. The invariant: what is left to be read gives what the whole text does. Assumes nothing.
use Prim.Native.Nat.{◌-◌}
use lib.ListN.{length}
use Rattle.qbx_share_file.proofs.Laws.Lines.{Left}
use Rattle.qbx_share_file.proofs.lines.read_lines.Given as goal

abbrev pub invariant-loop-at : goal.invariant-loop-at
invariant-loop-at g l = Left g.L.Lines.says l.text l.initial.list l.at l.number l.count l.list

abbrev pub decreases-loop-at : goal.decreases-loop-at
decreases-loop-at g l = length l.text - l.at
