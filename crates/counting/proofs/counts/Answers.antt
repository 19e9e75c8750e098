-- `counting::counts` is the definition's test. Assumes nothing.
use mathlib.Core.Path.{refl}
use Rattle.counting.proofs.counts.Goals as goal

pub returns : goal.returns
returns c = refl
