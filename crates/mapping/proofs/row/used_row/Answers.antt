-- `mapping::row::used_row`: four pieces in a row. Assumes nothing.
use native.Mathlib.Omega.{arith}
use Rattle.text.specs.Text.{text}
use Rattle.text.proofs.Laws.{◌then◌}
use Rattle.mapping.proofs.Laws.{row_joined}
use Rattle.mapping.proofs.row.used_row.Goals as goal

pub returns : goal.returns
unfolding text
returns c = (
  rw (row_joined _ _ _ _ _ _) (c.start_row-start.ensures.0 then (c.add_state-state.ensures.0 then (c.add_marks-marks.ensures.0 then c.add.ensures))),
  omega (arith, c.start_row-start.ensures.1, c.add_state-state.ensures.1, c.add_marks-marks.ensures.1, c.add.ensures.ends, c.requires),
)
