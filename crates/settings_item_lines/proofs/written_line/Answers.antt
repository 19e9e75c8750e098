-- `settings_item_lines::written_line`: its parts, one after the other. Assumes nothing.
use native.Mathlib.Omega.{arith}
use Rattle.text.specs.Text.{text}
use Rattle.qbx_lines.proofs.Laws.Lines.{more}
use Rattle.text.proofs.Laws.{◌then◌, wrote_as}
use Rattle.settings_item_lines.specs.ItemLines.{written_line}
use Rattle.settings_item_lines.proofs.written_line.Goals as goal

pub returns : goal.returns
unfolding text written_line
returns c =
    let head = more c.add.ensures (more c.add_count-placed.ensures.0 c.item_head.ensures.0) in
    (wrote_as _ head c.add_line-begun.ensures.0 then c.add_hex-shown.ensures.0 then c.add-2.ensures, omega (arith, c.add_line-begun.ensures.1, c.add_hex-shown.ensures.1, c.add-2.ensures.ends))
