-- `prognosis::settle_steps`. Assumes nothing.
use native.Mathlib.Omega.{arith}
use Rattle.prognosis.proofs.settle_steps.Goals as goal

pub returns-then-blank : goal.returns-then-blank
returns-then-blank c = (rw c.if-blank.true, omega arith)

pub returns : goal.returns
returns c = (rw (c.if-blank.false, c.erase_steps.ensures.0), omega (arith, c.erase_steps.ensures.1))

-- a range, behind what says how many
pub overflow_add-result : goal.overflow_add-result
overflow_add-result c = omega (arith, c.erase_steps.ensures.1)
