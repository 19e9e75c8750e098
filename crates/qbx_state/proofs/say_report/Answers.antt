-- `qbx_state::say_report`: its parts, one after the other. Assumes nothing.
use native.Mathlib.Omega.{arith}
use Rattle.text.specs.Text.{text}
use Rattle.qbx_state.specs.State.{report_text}
use Rattle.qbx_lines.proofs.Laws.Lines.{more}
use Rattle.qbx_state.proofs.say_report.Goals as goal

pub returns : goal.returns
unfolding text report_text
returns c =
    (more c.add.ensures (more c.add_top.ensures.0 (more c.add_slots-told.ensures.0 (more c.add_count-used.ensures.0 c.say_condition-line.ensures.0))), omega arith)
