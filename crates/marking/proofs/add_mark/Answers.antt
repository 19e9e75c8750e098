-- `marking::add_mark`: two pieces in a row. Assumes nothing.
use native.Mathlib.Omega.{arith}
use Rattle.text.proofs.Laws.{◌then◌}
use Rattle.marking.proofs.add_mark.Goals as goal

pub returns : goal.returns
returns c =
    let b = c.add.ensures in
    let a = c.add_break-behind.ensures in
    (a.0 then b, omega (arith, a.1, b.ends))
