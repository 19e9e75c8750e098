-- `qbx_state::add_tally`: its parts, one after the other; the last where no bit is left. Assumes nothing.
use native.Mathlib.Omega.{arith}
use Rattle.text.specs.Text.{text}
use Rattle.qbx_state.specs.State.{tally_text}
use Rattle.qbx_lines.proofs.Laws.Lines.{more_none, more_both}
use Rattle.qbx_state.proofs.add_tally.Goals as goal

pub returns-then-no_bit_left : goal.returns-then-no_bit_left
unfolding text tally_text
returns-then-no_bit_left c = rw c.if-no_bit_left.true (more_both c.add_count-counted.ensures.0 c.add.ensures, omega arith)

pub returns : goal.returns
unfolding text tally_text
returns c = rw c.if-no_bit_left.false (more_none c.add_count-counted.ensures.0, omega arith)
