-- `settings_item_lines::unwritten_line`: its parts, one after the other. Assumes nothing.
use native.Mathlib.Omega.{arith}
use Rattle.text.specs.Text.{text}
use Rattle.qbx_lines.proofs.Laws.Lines.{more}
use Rattle.text.proofs.Laws.{wrote_as}
use Rattle.settings_item_lines.specs.ItemLines.{unwritten_line}
use Rattle.settings_item_lines.proofs.unwritten_line.Goals as goal

pub returns : goal.returns
unfolding text unwritten_line
returns c = (wrote_as _ (more c.add.ensures c.item_head.ensures.0) c.add_line.ensures.0, omega arith)
