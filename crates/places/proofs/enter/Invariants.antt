-- `places::enter` enters the segments of the definition. The invariant: those that are left, entered, give the whole. Assumes nothing.
use Rattle.places.proofs.Laws.Walk.{Rounding}
use Rattle.places.proofs.enter.Given as goal

abbrev pub invariant-loop-turn : goal.invariant-loop-turn
invariant-loop-turn l = Rounding l.geometry.segments l.geometry.slots l.image l.first.0 l.count l.turn l.places l.initial.places
