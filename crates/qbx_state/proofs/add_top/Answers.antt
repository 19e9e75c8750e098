-- `qbx_state::add_top`: each text is the definition's. Assumes nothing.
use native.Mathlib.Omega.{arith}
use Rattle.text.specs.Text.{text}
use Rattle.qbx_state.specs.State.{top_text}
use Rattle.qbx_state.proofs.add_top.Goals as goal

pub returns-in-Missing : goal.returns-in-Missing
unfolding text top_text
returns-in-Missing c = rw c.in-Missing.is (c.add.ensures, omega arith)

pub returns-in-Version1 : goal.returns-in-Version1
unfolding text top_text
returns-in-Version1 c = rw c.in-Version1.is (c.add-in-Version1.ensures, omega arith)

pub returns-in-Version2 : goal.returns-in-Version2
unfolding text top_text
returns-in-Version2 c = rw c.in-Version2.is c.add_tally.ensures
