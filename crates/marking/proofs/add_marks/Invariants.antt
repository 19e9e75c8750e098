-- `marking::add_marks`. The invariant: whatever adds the marks that are left finishes the row. Assumes nothing.
use Prim.Native.Nat.{◌+◌, ◌-◌, ◌*◌, ◌≤◌}
use Rattle.judge.specs.Rows.{slots_at}
use Rattle.account_text.specs.Map.{marks_from}
use Rattle.marking.specs.Finishes.{Finishes}
use Rattle.marking.proofs.add_marks.Given as goal

abbrev pub invariant-loop-i : goal.invariant-loop-i
invariant-loop-i l =
    Finishes (marks_from l.i (slots_at l.image (l.first + l.i * 256) (l.slots - l.i))) (marks_from 0 (slots_at l.image l.first l.slots)) l.initial.text l.at l.text l.end × (l.i ≤ l.slots) × (l.end ≤ l.at + l.i * 22)
