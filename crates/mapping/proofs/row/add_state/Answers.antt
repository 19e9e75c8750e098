-- `mapping::row::add_state`: three pieces in a row. Assumes nothing.
use native.Mathlib.Omega.{arith}
use Rattle.text.specs.Text.{text}
use Rattle.text.proofs.Laws.{◌then◌}
use Rattle.mapping.proofs.row.add_state.Goals as goal

pub returns : goal.returns
unfolding text
returns c =
    let l = c.add.ensures in
    (c.add-behind.ensures then (c.add_padded-last.ensures.0 then l), omega (arith, c.add-behind.ensures.ends, c.add_padded-last.ensures.1, l.ends, c.requires))
