-- `settings_item_lines::item_head`: its parts, one after the other. Assumes nothing.
use native.Mathlib.Omega.{arith}
use Rattle.text.specs.Text.{text}
use Rattle.qbx_lines.proofs.Laws.Lines.{more}
use Rattle.settings_item_lines.specs.ItemLines.{item_head}
use Rattle.settings_item_lines.proofs.item_head.Goals as goal

pub returns : goal.returns
unfolding text item_head
returns c = (more c.add_count.ensures.0 (more c.add_count-named.ensures.0 c.empty.ensures.0), omega arith)
