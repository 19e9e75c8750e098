-- `segments::next_mended` shows the segment after the top as mended. Assumes nothing.
use mathlib.Core.Path.{sym, ◌∙◌}
use Rattle.judge.specs.Heads.{bare_of}
use Rattle.segments.proofs.next_mended.Goals as goal

pub returns-then-is_owing : goal.returns-then-is_owing
unfolding bare_of
returns-then-is_owing c = rw (c.head.ensures, sym c.is_owing.ensures ∙ c.if-is_owing.true)

pub returns-then-is_invalid : goal.returns-then-is_invalid
unfolding bare_of
returns-then-is_invalid c = rw (c.head-then-is_invalid.ensures, sym c.is_owing.ensures ∙ c.if-is_owing.false, sym c.is_invalid.ensures ∙ c.if-is_invalid.true)

pub returns : goal.returns
returns c = rw (sym c.is_owing.ensures ∙ c.if-is_owing.false, sym c.is_invalid.ensures ∙ c.if-is_invalid.false)
