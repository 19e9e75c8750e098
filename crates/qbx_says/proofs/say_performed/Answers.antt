-- `qbx_says::say_performed`: its parts, one after the other. Assumes nothing.
use native.Mathlib.Omega.{arith}
use Rattle.text.specs.Text.{text}
use Rattle.qbx_says.specs.Said.{performed_line}
use Rattle.qbx_lines.proofs.Laws.Lines.{more}
use Rattle.qbx_says.proofs.say_performed.Goals as goal

pub returns : goal.returns
unfolding text performed_line
returns c = (more c.add.ensures c.say_steps.ensures.0, omega arith)
