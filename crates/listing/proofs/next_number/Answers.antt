-- `listing::next_number`. Assumes nothing.
use mathlib.Core.Path.{ap, ◌∙◌}
use Rattle.descent.specs.Descent.{largest}
use Rattle.listing.proofs.next_number.Goals as goal

pub returns : goal.returns
returns c = c.largest.ensures ∙ ap largest c.numbers-left.ensures.0
