-- `qbx_share_says::say_shared`: its parts, one after the other. Assumes nothing.
use native.Mathlib.Omega.{arith}
use Rattle.text.specs.Text.{text}
use Rattle.qbx_share_says.specs.ShareSaid.{shared_line}
use Rattle.qbx_lines.proofs.Laws.Lines.{more}
use Rattle.qbx_share_says.proofs.say_shared.Goals as goal

pub returns : goal.returns
unfolding text shared_line
returns c = (more c.add.ensures c.say_answer.ensures.0, omega arith)
