-- `request::right_size`: the ranges, then the length. Assumes nothing.
use mathlib.Core.Path.{sym, ◌∙◌}
use Rattle.request.specs.Request.{size_of}
use Rattle.request.proofs.right_size.Goals as goal

pub returns-then-in_range : goal.returns-then-in_range
unfolding size_of
returns-then-in_range c = rw (c.size_of.ensures.0, sym c.in_range.ensures ∙ c.if-in_range.true)

pub returns : goal.returns
returns c = rw (sym c.in_range.ensures ∙ c.if-in_range.false)
