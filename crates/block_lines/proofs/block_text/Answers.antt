-- `block_lines::block_text`: four numbers behind their labels. Assumes nothing.
use native.Mathlib.Omega.{arith}
use Rattle.text.specs.Text.{text}
use Rattle.text.specs.Buffer.{labelled}
use Rattle.text.proofs.Laws.{◌then◌}
use Rattle.account_text.specs.Account.{block_text}
use Rattle.block_lines.proofs.block_text.Goals as goal

pub returns : goal.returns
unfolding block_text labelled text
returns c = (
  c.add_labelled-blocks.ensures.0 then c.add_labelled-lengths.ensures.0 then c.add_labelled-segments.ensures.0 then c.add_labelled.ensures.0,
  omega (arith, c.add_labelled-blocks.ensures.1, c.add_labelled-lengths.ensures.1, c.add_labelled-segments.ensures.1, c.add_labelled.ensures.1),
)
