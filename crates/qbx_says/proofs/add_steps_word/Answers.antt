-- `qbx_says::add_steps_word`: one step, or steps. Assumes nothing.
use native.Mathlib.Omega.{arith}
use borrow.Author.Tests.{eq-eqb, ne_eqb}
use Rattle.text.specs.Text.{text}
use Rattle.qbx_says.specs.Said.{steps_word}
use Rattle.qbx_says.proofs.add_steps_word.Goals as goal

pub returns-then-steps-eq1 : goal.returns-then-steps-eq1
unfolding text steps_word
returns-then-steps-eq1 c = rw (eq-eqb _ 1 c.if-steps-eq1.true) (c.add.ensures, omega arith)

pub returns-else-steps-eq1 : goal.returns-else-steps-eq1
unfolding text steps_word
returns-else-steps-eq1 c = rw (ne_eqb _ 1 c.if-steps-eq1.false) (c.add-else-steps-eq1.ensures, omega arith)
