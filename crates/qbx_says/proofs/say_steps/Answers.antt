-- `qbx_says::say_steps`: its parts, one after the other. Assumes nothing.
use native.Mathlib.Omega.{arith}
use Rattle.text.specs.Text.{text}
use Rattle.qbx_says.specs.Said.{performed_text}
use Rattle.qbx_lines.proofs.Laws.Lines.{more}
use Rattle.qbx_says.proofs.say_steps.Goals as goal

pub returns : goal.returns
unfolding text performed_text
returns c =
    (more c.add_steps_word.ensures.0 (more c.add_number-counted.ensures.0 (more c.add-answered.ensures c.say_answer.ensures.0)), omega arith)
