-- `tally::highest_bit` is the bit of the definition. Assumes nothing.
use native.Mathlib.Omega.{arith}
use Rattle.tally.proofs.Laws.{leading_less, highest_shift, highest_most}
use Rattle.tally.proofs.highest_bit.Goals as goal

pub overflow_cast-result : goal.overflow_cast-result
overflow_cast-result c = omega (arith, leading_less c.args.x c.requires (omega arith))

pub overflow_shr-result : goal.overflow_shr-result
overflow_shr-result c = leading_less c.args.x c.requires (omega arith)

pub returns : goal.returns
returns c =
    let e = highest_shift c.args.x (omega arith) in
    (e, omega (arith, e, highest_most c.args.x (omega arith)))
