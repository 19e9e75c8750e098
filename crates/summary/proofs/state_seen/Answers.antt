-- `summary::state_seen` is the state of the definition. Assumes nothing.
use Rattle.judge.specs.Heads.{state_seen}
use borrow.Author.Tests.{eq-eqb, ne_eqb}
use Rattle.summary.proofs.state_seen.Goals as goal

pub returns-then-status-eq159 : goal.returns-then-status-eq159
unfolding state_seen
returns-then-status-eq159 c = simp (eq-eqb _ _ c.if-status-eq159.true)

pub returns-else-status-eq159 : goal.returns-else-status-eq159
unfolding state_seen
returns-else-status-eq159 c = simp (ne_eqb _ _ c.if-status-eq159.false)
