-- `qbx_state::say_condition`: each text is the definition's. Assumes nothing.
use native.Mathlib.Omega.{arith}
use Rattle.text.specs.Text.{text}
use Rattle.qbx_state.specs.State.{condition_text}
use Rattle.qbx_lines.proofs.Laws.Lines.{more}
use Rattle.qbx_state.proofs.say_condition.Goals as goal

pub returns-in-Clean : goal.returns-in-Clean
unfolding text condition_text
returns-in-Clean c = rw c.in-Clean.is (more c.add.ensures c.empty-line.ensures.0, omega arith)

pub returns-in-UnfinishedA : goal.returns-in-UnfinishedA
unfolding text condition_text
returns-in-UnfinishedA c = rw c.in-UnfinishedA.is (more c.add-in-UnfinishedA.ensures c.empty-line.ensures.0, omega arith)

pub returns-in-UnfinishedB : goal.returns-in-UnfinishedB
unfolding text condition_text
returns-in-UnfinishedB c = rw c.in-UnfinishedB.is (more c.add-in-UnfinishedB.ensures c.empty-line.ensures.0, omega arith)

pub returns-in-UnfinishedC : goal.returns-in-UnfinishedC
unfolding text condition_text
returns-in-UnfinishedC c = rw c.in-UnfinishedC.is (more c.add-in-UnfinishedC.ensures c.empty-line.ensures.0, omega arith)

pub returns-in-UnfinishedD : goal.returns-in-UnfinishedD
unfolding text condition_text
returns-in-UnfinishedD c = rw c.in-UnfinishedD.is (more c.add-in-UnfinishedD.ensures c.empty-line.ensures.0, omega arith)

pub returns-in-Damaged : goal.returns-in-Damaged
unfolding text condition_text
returns-in-Damaged c = rw c.in-Damaged.is (more c.add-in-Damaged.ensures c.empty-line.ensures.0, omega arith)
