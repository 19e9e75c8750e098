-- `segments::none_counted` is what the definition begins with. Assumes nothing.
use mathlib.Core.Path.{refl}
use Rattle.judge.specs.Heads.{no_counts}
use Rattle.segments.proofs.none_counted.Goals as goal

pub returns : goal.returns
unfolding no_counts
returns c = refl
