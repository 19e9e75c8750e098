-- `settings_says::say_answer`: its parts, one after the other. Assumes nothing.
use native.Mathlib.Omega.{arith}
use Rattle.text.specs.Text.{text}
use Rattle.qbx_lines.proofs.Laws.Lines.{more}
use Rattle.settings_says.specs.Said.{answer_line}
use Rattle.settings_says.proofs.say_answer.Goals as goal

pub returns : goal.returns
unfolding text answer_line
returns c = (more c.add.ensures (more c.add_board-replied.ensures.0 c.say_reply.ensures.0), omega arith)
