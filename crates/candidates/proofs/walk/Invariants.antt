-- `candidates::walk`. The invariant: what is left, met by the tables, gives the whole. Assumes nothing.
use mathlib.Core.List.{List}
use lib.ListN.{take}
use lib.Dec.{ltb}
use Rattle.model.specs.Lists.{count}
use Rattle.model.specs.State.{Segment}
use Rattle.candidates.proofs.Laws.{Walking}
use Rattle.candidates.proofs.walk.Given as goal

abbrev pub invariant-loop-top : goal.invariant-loop-top
invariant-loop-top l =
    (m : List Segment) × Walking l.geometry.segments l.geometry.slots l.image l.initial.sheet m l.left l.top l.sheet

abbrev pub decreases-loop-top : goal.decreases-loop-top
decreases-loop-top l = count (λ n. ltb 0 n) (take l.geometry.segments l.left)
