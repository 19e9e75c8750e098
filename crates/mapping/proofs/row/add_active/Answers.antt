-- `mapping::row::add_active`: one of two texts. Assumes nothing.
use native.Mathlib.Omega.{arith}
use Rattle.text.specs.Text.{text}
use Rattle.mapping.proofs.row.add_active.Goals as goal

pub returns-then-active : goal.returns-then-active
unfolding text
returns-then-active c = (rw c.if-active.true c.add.ensures, omega (arith, c.add.ensures.ends))

pub returns : goal.returns
unfolding text
returns c = (rw c.if-active.false c.add-2.ensures, omega (arith, c.add-2.ensures.ends))
