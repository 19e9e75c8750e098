-- `listing::plain`. Assumes nothing.
use mathlib.Core.Path.{ap}
use Rattle.index.specs.declared.Counts.{Counts}
use Rattle.index.specs.Shows.{shown_as}
use Rattle.index.proofs.Zero.{none_counted}
use Rattle.listing.proofs.plain.Goals as goal

pub returns : goal.returns
unfolding shown_as
returns c = ap (λ (x : Counts). shown_as c.args.state c.args.number.0 x) (none_counted c.default.result c.default.ensures)
