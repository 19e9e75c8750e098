-- `mapping::row::unused_row`: two pieces in a row. Assumes nothing.
use native.Mathlib.Omega.{arith}
use Rattle.text.proofs.Laws.{◌then◌}
use Rattle.mapping.proofs.row.unused_row.Goals as goal

pub returns : goal.returns
returns c =
    let b = c.add.ensures in
    (c.start_row-behind.ensures.0 then b, omega (arith, c.start_row-behind.ensures.1, b.ends, c.requires))
