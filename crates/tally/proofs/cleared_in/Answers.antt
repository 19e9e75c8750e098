-- `tally::cleared_in` counts the cleared bits of the definition. Assumes nothing.
use native.Mathlib.Omega.{arith}
use Rattle.tally.proofs.Laws.{cleared_or_set}
use Rattle.tally.proofs.cleared_in.Goals as goal

pub overflow_cast-result : goal.overflow_cast-result
overflow_cast-result c = omega (arith, cleared_or_set c.args.x (omega arith))

pub overflow_sub-result : goal.overflow_sub-result
overflow_sub-result c = omega (arith, cleared_or_set c.args.x (omega arith))

pub returns : goal.returns
returns c = (omega (arith, cleared_or_set c.args.x (omega arith)), omega arith)
