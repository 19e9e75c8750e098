-- `settings_says::say_written`: its parts, one after the other. Assumes nothing.
use native.Mathlib.Omega.{arith}
use Rattle.text.specs.Text.{text}
use Rattle.qbx_lines.proofs.Laws.Lines.{more}
use Rattle.settings_says.specs.Said.{written_line}
use Rattle.settings_says.proofs.say_written.Goals as goal

pub returns : goal.returns
unfolding text written_line
returns c = (more c.add.ensures (more c.add_board-told.ensures.0 (more c.add_steps_word.ensures.0 (more c.add_count-counted.ensures.0 c.say_reply.ensures.0))), omega arith)
