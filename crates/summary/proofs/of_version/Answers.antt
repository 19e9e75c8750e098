-- `summary::of_version` is the test of the definition. Assumes nothing.
use mathlib.Core.Path.{sym, ◌∙◌}
use mathlib.Core.Bool.{cond}
use Rattle.judge.specs.Heads.{bare}
use Rattle.summary.proofs.Laws.{version_used, version_unused}
use Rattle.summary.proofs.of_version.Goals as goal

pub returns-then-not-is_in_use : goal.returns-then-not-is_in_use
unfolding bare
returns-then-not-is_in_use c =
    let a = c.args in
    rw c.if-not-is_in_use.true (version_unused (cond a.former 1 2) a.s.state a.s.former a.s.number.0 (sym c.is_in_use.ensures ∙ c.if-not-is_in_use.true))

pub returns-else-not-is_in_use : goal.returns-else-not-is_in_use
unfolding bare
returns-else-not-is_in_use c =
    let a = c.args in
    version_used a.s.state a.s.former a.former a.s.number.0 (sym c.is_in_use.ensures ∙ c.if-not-is_in_use.false)
