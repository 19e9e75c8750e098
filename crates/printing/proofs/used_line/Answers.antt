-- `printing::used_line`: the label with the number, then the counts. Assumes nothing.
use native.Mathlib.Omega.{arith}
use Rattle.text.proofs.Laws.{◌then◌}
use Rattle.printing.proofs.used_line.Goals as goal

pub returns : goal.returns
returns c =
    (c.add_labelled-numbers.ensures.0 then c.counts_line.ensures.0, omega (arith, c.add_labelled-numbers.ensures.1, c.counts_line.ensures.1, c.requires.1))
