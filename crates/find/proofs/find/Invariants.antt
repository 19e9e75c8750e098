-- `find::find` finds the first live slot of the block. The invariants: what is still to be looked at gives the whole answer, and nothing is found yet. Assumes nothing.
use mathlib.Core.Path.{◌≡◌}
use Rattle.std.specs.Prelude.{None}
use Rattle.std.specs.declared.option.Option.TheVariants.{None}
use Rattle.find.proofs.Laws.{Searching, Walking}
use Rattle.find.proofs.find.Given as goal

abbrev pub invariant-loop-slot : goal.invariant-loop-slot
invariant-loop-slot l = Walking l.geometry.segments l.geometry.slots l.block.0 l.image l.first.0 l.used l.turn l.from.0 l.slot × (l.found ≡ None)

abbrev pub invariant-segments : goal.invariant-segments
invariant-segments l = Searching l.geometry.segments l.geometry.slots l.block.0 l.image l.first.0 l.used l.turn × (l.found ≡ None)
