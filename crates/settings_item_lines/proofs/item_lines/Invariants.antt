-- `settings_item_lines::item_lines`. The invariant: some lines are there, and the others are left. Assumes nothing.
use Prim.Native.Nat.{◌+◌, ◌*◌, ◌≤◌}
use Rattle.partitions.specs.Answers.{read_outcome}
use Rattle.settings_item_lines.proofs.Laws.{Left}
use Rattle.settings_item_lines.proofs.item_lines.Given as goal

abbrev pub invariant-loop-i : goal.invariant-loop-i
invariant-loop-i l = Left (read_outcome l.partitions l.layout l.image) l.image l.layout l.initial.text l.at (2 * l.i) l.text l.end × (l.end ≤ l.at + 700 * l.i)
