-- `text::add_labelled`: two pieces in a row. Assumes nothing.
use native.Mathlib.Omega.{arith}
use Rattle.text.proofs.Laws.{◌then◌}
use Rattle.text.proofs.add_labelled.Goals as goal

pub add_number-requires : goal.add_number-requires
add_number-requires c = omega (arith, c.add-behind.ensures.ends, c.requires)

pub returns : goal.returns
returns c =
    (c.add-behind.ensures then c.add_number.ensures.0, omega (arith, c.add-behind.ensures.ends, c.add_number.ensures.1))
