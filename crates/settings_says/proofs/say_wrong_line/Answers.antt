-- `settings_says::say_wrong_line`: its parts, one after the other. Assumes nothing.
use native.Mathlib.Omega.{arith}
use Rattle.text.specs.Text.{text}
use Rattle.qbx_lines.proofs.Laws.Lines.{more}
use Rattle.settings_says.specs.Said.{wrong_line}
use Rattle.settings_says.proofs.say_wrong_line.Goals as goal

pub returns : goal.returns
unfolding text wrong_line
returns c = (more c.add.ensures (more c.add_count-counted.ensures.0 c.empty.ensures.0), omega arith)
