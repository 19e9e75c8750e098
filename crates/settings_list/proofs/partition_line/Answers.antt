-- `settings_list::partition_line`: its parts, one after the other. Assumes nothing.
use native.Mathlib.Omega.{arith}
use Rattle.text.specs.Text.{text}
use Rattle.qbx_lines.proofs.Laws.Lines.{more}
use Rattle.settings_list.specs.BoardList.{partition_line}
use Rattle.settings_list.proofs.partition_line.Goals as goal

pub returns : goal.returns
unfolding text partition_line
returns c = (more c.add.ensures (more c.add_count-told.ensures.0 (more c.add_count-named.ensures.0 c.empty.ensures.0)), omega arith)
