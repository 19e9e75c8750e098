-- `block_lines::block_line`: two pieces in a row. Assumes nothing.
use native.Mathlib.Omega.{arith}
use Rattle.text.specs.Text.{text}
use Rattle.text.proofs.Laws.{◌then◌}
use Rattle.block_lines.proofs.block_line.Goals as goal

pub returns : goal.returns
unfolding text
returns c =
    (c.block_text-end.ensures.0 then c.add.ensures, omega (arith, c.block_text-end.ensures.1, c.add.ensures.ends))
