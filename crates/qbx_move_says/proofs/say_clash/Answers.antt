-- `qbx_move_says::say_clash`: each text is the definition's. Assumes nothing.
use native.Mathlib.Omega.{arith}
use Rattle.text.specs.Text.{text}
use Rattle.qbx_move_says.specs.MoveSaid.{clash_text}
use Rattle.qbx_lines.proofs.Laws.Lines.{more}
use Rattle.qbx_move_says.proofs.say_clash.Goals as goal

pub returns-in-IsSource : goal.returns-in-IsSource
unfolding text clash_text
returns-in-IsSource c = rw c.in-IsSource.is (more c.add.ensures c.empty-line.ensures.0, omega arith)

pub returns-in-SourceBeside : goal.returns-in-SourceBeside
unfolding text clash_text
returns-in-SourceBeside c = rw c.in-SourceBeside.is (more c.add-in-SourceBeside.ensures c.empty-line.ensures.0, omega arith)

pub returns-in-InTheWay : goal.returns-in-InTheWay
unfolding text clash_text
returns-in-InTheWay c = rw c.in-InTheWay.is (more c.add-in-InTheWay.ensures c.empty-line.ensures.0, omega arith)

pub returns-in-Apart : goal.returns-in-Apart
unfolding text clash_text
returns-in-Apart c = rw c.in-Apart.is (c.empty-line.ensures.0, omega (arith, c.empty-line.ensures.1))

pub returns-in-NoSource : goal.returns-in-NoSource
unfolding text clash_text
returns-in-NoSource c = rw c.in-NoSource.is (c.empty-line.ensures.0, omega (arith, c.empty-line.ensures.1))

pub returns-in-NoTarget : goal.returns-in-NoTarget
unfolding text clash_text
returns-in-NoTarget c = rw c.in-NoTarget.is (c.empty-line.ensures.0, omega (arith, c.empty-line.ensures.1))

pub returns-in-NoBeside : goal.returns-in-NoBeside
unfolding text clash_text
returns-in-NoBeside c = rw c.in-NoBeside.is (c.empty-line.ensures.0, omega (arith, c.empty-line.ensures.1))
