-- `mapping::add_legend`: the text of the definition. Assumes nothing.
use native.Mathlib.Omega.{arith}
use Rattle.text.specs.Text.{text}
use Rattle.account_text.specs.Map.{legend}
use Rattle.mapping.proofs.add_legend.Goals as goal

pub returns : goal.returns
unfolding legend text
returns c = (c.add.ensures, omega (arith, c.add.ensures.ends))
