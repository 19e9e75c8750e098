-- `qbx_share_says::say_shared_size`: its parts, one after the other. Assumes nothing.
use native.Mathlib.Omega.{arith}
use Rattle.text.specs.Text.{text}
use Rattle.qbx_share_says.specs.ShareSaid.{shared_size_line}
use Rattle.qbx_lines.proofs.Laws.Lines.{more}
use Rattle.qbx_share_says.proofs.say_shared_size.Goals as goal

pub returns : goal.returns
unfolding text shared_size_line
returns c = (more c.add.ensures (more c.add_count-counted.ensures.0 (more c.add_asked-asked.ensures.0 c.say_answer.ensures.0)), omega arith)
