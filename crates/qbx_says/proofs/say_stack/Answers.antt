-- `qbx_says::say_stack`: its parts, one after the other. Assumes nothing.
use native.Mathlib.Omega.{arith}
use Rattle.text.specs.Text.{text}
use Rattle.qbx_says.specs.Said.{stack_line}
use Rattle.qbx_lines.proofs.Laws.Lines.{more}
use Rattle.qbx_says.proofs.say_stack.Goals as goal

pub returns : goal.returns
unfolding text stack_line
returns c =
    (more c.add.ensures (more c.add_count-counted.ensures.0 (more c.add_count-stack.ensures.0 (more c.add_count-image.ensures.0 c.empty.ensures.0))), omega arith)
