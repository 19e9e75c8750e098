-- `room::compact_oldest` compacts as often as the plan says. The invariant: `i` compactions are done, as far as the budget went. Assumes nothing.
use Rattle.room.proofs.Laws.{Progress}
use Rattle.room.proofs.compact_oldest.Given as goal

abbrev pub invariant-loop-i : goal.invariant-loop-i
invariant-loop-i l = Progress l.geometry.segments l.geometry.slots l.plan l.total l.initial.image l.budget l.i l.left l.slot l.image
