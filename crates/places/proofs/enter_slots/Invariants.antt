-- `places::enter_slots` enters the slots of the definition. The invariant: those that are left, entered, give the whole. Assumes nothing.
use Rattle.places.proofs.Laws.Walk.{Entering}
use Rattle.places.proofs.enter_slots.Given as goal

abbrev pub invariant-loop-slot : goal.invariant-loop-slot
invariant-loop-slot l = Entering l.image l.slots l.start l.slot l.places l.initial.places
