-- `text::short`. Assumes nothing.
use mathlib.Core.Path.{refl}
use Rattle.text.specs.Buffer.{short_of}
use Rattle.text.proofs.short.Goals as goal

pub returns : goal.returns
unfolding short_of
returns c = refl
