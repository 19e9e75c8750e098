-- `printing::add_ended`: two pieces in a row. Assumes nothing.
use native.Mathlib.Omega.{arith}
use Rattle.text.specs.Text.{text}
use Rattle.text.proofs.Laws.{◌then◌}
use Rattle.printing.proofs.add_ended.Goals as goal

pub returns : goal.returns
unfolding text
returns c =
    (c.add_labelled-behind.ensures.0 then c.add.ensures, omega (arith, c.add_labelled-behind.ensures.1, c.add.ensures.ends))
