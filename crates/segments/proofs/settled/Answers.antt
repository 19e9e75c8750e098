-- `segments::settled` shows the segment settled. Assumes nothing.
use mathlib.Core.Path.{sym, ◌∙◌}
use Rattle.judge.specs.Heads.{bare}
use Rattle.segments.proofs.Laws.Frames.{settled_owing, settled_other}
use Rattle.segments.proofs.settled.Goals as goal

pub returns-then-is_owing : goal.returns-then-is_owing
unfolding bare
returns-then-is_owing c = c.head.ensures ∙ settled_owing c.args.s.state c.args.s.former c.args.s.number.0 (sym c.is_owing.ensures ∙ c.if-is_owing.true)

pub returns : goal.returns
unfolding bare
returns c = settled_other c.args.s.state c.args.s.former c.args.s.number.0 (sym c.is_owing.ensures ∙ c.if-is_owing.false)
