-- `printing::fails_line`: one piece. Assumes nothing.
use native.Mathlib.Omega.{arith}
use Rattle.text.specs.Text.{text}
use Rattle.text.specs.Buffer.{labelled}
use Rattle.printing.proofs.fails_line.Goals as goal

pub returns : goal.returns
unfolding labelled text
returns c = (c.add_ended.ensures.0, omega (arith, c.add_ended.ensures.1))
