-- `qbx_move_says::say_move_size`: its parts, one after the other. Assumes nothing.
use native.Mathlib.Omega.{arith}
use Rattle.text.specs.Text.{text}
use Rattle.qbx_move_says.specs.MoveSaid.{move_size_line}
use Rattle.qbx_lines.proofs.Laws.Lines.{more}
use Rattle.qbx_move_says.proofs.say_move_size.Goals as goal

pub returns : goal.returns
unfolding text move_size_line
returns c = (more c.add.ensures (more c.add_count-counted.ensures.0 (more c.add_asked-asked.ensures.0 (more c.add_name-named.ensures.0 c.say_steps.ensures.0))), omega arith)
