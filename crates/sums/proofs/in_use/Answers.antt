-- `sums::in_use` is the summary of the definition. Assumes nothing.
use mathlib.Core.Path.{refl}
use Rattle.judge.specs.Tally.{summary_of}
use Rattle.sums.proofs.in_use.Goals as goal

pub returns : goal.returns
unfolding summary_of
returns c = refl
