-- `mapping::row::add_padded`: the spaces that are missing, and the number. Assumes nothing.
use native.Mathlib.Omega.{arith}
use Rattle.text.proofs.Laws.{◌then◌}
use Rattle.mapping.proofs.Laws.{padded_full, padded_part}
use Rattle.mapping.proofs.row.add_padded.Goals as goal

pub returns-then-digits-width : goal.returns-then-digits-width
returns-then-digits-width c =
    let a = c.args in
    (rw (padded_full a.width a.n (omega (arith, c.if-digits-width.true, c.digit_count-digits.ensures.0))) c.add_number.ensures.0, omega (arith, c.add_number.ensures.1))

pub returns : goal.returns
returns c =
    let a = c.args in
    (rw (padded_part a.width a.n c.digit_count-digits.result c.requires.1 c.digit_count-digits.ensures.0) (c.add-behind.ensures then c.add_number-2.ensures.0), omega (arith, c.add-behind.ensures.ends, c.add_number-2.ensures.1, c.requires))
