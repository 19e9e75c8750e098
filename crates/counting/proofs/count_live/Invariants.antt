-- `counting::count_live` counts the table's blocks. The invariant: the segments that are left, met by what there is, give the whole. Assumes nothing.
use Rattle.counting.proofs.Laws.Walk.{Rounding}
use Rattle.counting.proofs.count_live.Given as goal

abbrev pub invariant-loop-turn : goal.invariant-loop-turn
invariant-loop-turn l = Rounding l.geometry.segments l.geometry.slots l.image l.sought l.first.0 l.used l.turn l.met
