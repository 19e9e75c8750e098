-- `text::done`. Assumes nothing.
use mathlib.Core.Path.{refl}
use Rattle.text.specs.Buffer.{done_of}
use Rattle.text.proofs.done.Goals as goal

pub returns : goal.returns
unfolding done_of
returns c = refl
