-- `printing::recover_line`: two pieces in a row. Assumes nothing.
use native.Mathlib.Omega.{arith}
use Rattle.text.specs.Text.{text}
use Rattle.text.specs.Buffer.{labelled}
use Rattle.text.proofs.Laws.{◌then◌}
use Rattle.printing.proofs.recover_line.Goals as goal

pub returns : goal.returns
unfolding labelled text
returns c =
    (c.add_labelled-answered.ensures.0 then c.add_ended.ensures.0, omega (arith, c.add_labelled-answered.ensures.1, c.add_ended.ensures.1))
