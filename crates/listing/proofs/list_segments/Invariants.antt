-- `listing::list_segments`. The invariant: what was walked over is counted and in the tables, and the rest gives the whole. Assumes nothing.
use mathlib.Core.List.{List}
use lib.ListN.{take}
use lib.Dec.{ltb}
use Rattle.model.specs.Lists.{count}
use Rattle.model.specs.State.{Segment}
use Rattle.listing.proofs.Laws.Walk.{Walking}
use Rattle.listing.proofs.list_segments.Given as goal

abbrev pub invariant-loop-top : goal.invariant-loop-top
invariant-loop-top l = (m : List Segment) × Walking l.geometry.segments l.geometry.slots l.image l.initial.tables m l.shown l.left l.top l.tables

abbrev pub decreases-loop-top : goal.decreases-loop-top
decreases-loop-top l = count (λ n. ltb 0 n) (take l.geometry.segments l.left)
