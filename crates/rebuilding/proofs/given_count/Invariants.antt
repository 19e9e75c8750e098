-- `rebuilding::given_count`. The invariant: those of the smaller block numbers are counted. Assumes nothing.
use mathlib.Core.Path.{◌≡◌}
use lib.ListN.{take}
use lib.Dec.{ltb}
use Rattle.model.specs.Lists.{count}
use Rattle.rebuilding.proofs.given_count.Given as goal

abbrev pub invariant-loop-place : goal.invariant-loop-place
invariant-loop-place l = l.given ≡ count (λ p. ltb 0 p) (take l.place-index l.places)
