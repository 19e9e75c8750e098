-- `mounted::mark_entry` marks the slot of an entry, or refuses. Assumes nothing.
use mathlib.Core.Path.{refl}
use Rattle.mounted.proofs.Laws.Writes.{marked_at, marked_absent, marked_stale}
use Rattle.mounted.proofs.mark_entry.Goals as goal

pub returns-in-Ok-Some : goal.returns-in-Ok-Some
returns-in-Ok-Some c = marked_at _ _ _ _ c.in-Ok-Some.is (rw c.in-Ok-Some.is at c.in-Ok-Some.field-0-is) c.mark_slot.ensures

pub returns-in-Ok-None : goal.returns-in-Ok-None
returns-in-Ok-None c = marked_absent _ _ _ _ c.in-Ok-None.is (rw c.in-Ok-None.is at c.in-Ok-None.field-0-is) c.refused.ensures refl

pub returns-in-Err : goal.returns-in-Err
returns-in-Err c = marked_stale _ _ _ _ c.in-Err.is c.refused-in-Err.ensures refl
