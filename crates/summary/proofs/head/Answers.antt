-- `summary::head` stands for the segment that it says. Assumes nothing.
use Rattle.judge.specs.Heads.{bare}
use mathlib.Core.Path.{refl}
use Rattle.summary.proofs.head.Goals as goal

pub returns : goal.returns
unfolding bare
returns c = refl
