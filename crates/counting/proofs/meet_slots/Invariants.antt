-- `counting::meet_slots` meets the numbers of the definition. The invariant: those that are left, met by what there is, give the whole. Assumes nothing.
use Rattle.counting.proofs.Laws.Walk.{Meeting}
use Rattle.counting.proofs.meet_slots.Given as goal

abbrev pub invariant-loop-slot : goal.invariant-loop-slot
invariant-loop-slot l = Meeting l.image l.slots l.start l.slot l.sought l.met l.initial.met
