-- `qbx_move_says::add_name`: the word of the image that is meant. Assumes nothing.
use native.Mathlib.Omega.{arith}
use Rattle.text.specs.Text.{text}
use Rattle.qbx_move_says.specs.MoveSaid.{name_text}
use Rattle.qbx_move_says.proofs.add_name.Goals as goal

pub returns-then-target : goal.returns-then-target
unfolding text name_text
returns-then-target c = rw c.if-target.true (c.add.ensures, omega arith)

pub returns : goal.returns
unfolding text name_text
returns c = rw c.if-target.false (c.add-2.ensures, omega arith)
