-- `copying::copy_live` writes the live slots of the old segment to the new one. The invariant: whatever finishes the rest of the copying finishes the whole, and
-- the old segment's pages are as they were. Assumes nothing.
use Rattle.live_slots.proofs.Laws.{Copying}
use Rattle.copying.proofs.copy_live.Given as goal

abbrev pub invariant-loop-slot : goal.invariant-loop-slot
invariant-loop-slot l = Copying l.fn.geometry.segments l.fn.geometry.slots l.source l.target l.budget l.initial.image l.image l.left l.copied l.slot
