-- `meeting::meet_row`. The invariant: the slots behind those that are left were met. Assumes nothing.
use Prim.Native.Nat.{◌+◌, ◌-◌, ◌*◌}
use mathlib.Core.Path.{◌≡◌}
use lib.ListN.{length}
use Rattle.judge.specs.Rows.{kinds_at}
use Rattle.meeting.specs.Sheet.{met_row, Within}
use Rattle.meeting.proofs.meet_row.Given as goal

abbrev pub invariant-loop-slot : goal.invariant-loop-slot
invariant-loop-slot l =
    (l.sheet ≡ met_row l.image (l.header + l.slot + 1) (kinds_at l.image ((l.header + l.slot + 1) * 256) (l.slots - l.slot)) l.initial.sheet) × Within l.sheet.places (length l.image)
