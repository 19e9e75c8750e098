-- `mapping::row::start_row`: two pieces in a row. Assumes nothing.
use native.Mathlib.Omega.{arith}
use Rattle.text.proofs.Laws.{◌then◌}
use Rattle.account_text.specs.Map.{row_start}
use Rattle.mapping.proofs.row.start_row.Goals as goal

pub returns : goal.returns
unfolding row_start
returns c =
    let b = c.add_padded.ensures in
    let a = c.add_active-behind.ensures in
    (a.0 then b.0, omega (arith, a.1, b.1))
