-- `qbx_state::add_slots`: its parts, one after the other. Assumes nothing.
use native.Mathlib.Omega.{arith}
use Rattle.text.specs.Text.{text}
use Rattle.qbx_state.specs.State.{slots_text}
use Rattle.qbx_lines.proofs.Laws.Lines.{more_both}
use Rattle.qbx_state.proofs.add_slots.Goals as goal

pub returns : goal.returns
unfolding text slots_text
returns c = (more_both (more_both (more_both c.add_count-lives.ensures.0 c.add_count-deads.ensures.0) c.add_count-cuts.ensures.0) c.add_count.ensures.0, omega arith)
