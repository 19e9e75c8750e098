-- `salvaging::compose`: two parts in a row. Assumes nothing.
use native.Mathlib.Omega.{arith}
use Rattle.text.specs.Text.{text}
use Rattle.text.proofs.Laws.{◌then◌}
use Rattle.salvage.specs.Salvage.{salvage_on, salvage_text}
use Rattle.salvaging.proofs.compose.Goals as goal

pub returns : goal.returns
unfolding salvage_text salvage_on text
returns c =
    (c.add-head.ensures then c.given_lines.ensures.0, omega (arith, c.add-head.ensures.ends, c.given_lines.ensures.1))
