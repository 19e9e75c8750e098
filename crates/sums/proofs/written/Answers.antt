-- `sums::written` is the count of the definition. Assumes nothing.
use mathlib.Core.Path.{sym, ◌∙◌}
use native.Mathlib.Omega.{arith}
use Rattle.judge.specs.Tally.{written_in}
use Rattle.sums.proofs.written.Goals as goal

pub returns-then-ends_torn : goal.returns-then-ends_torn
unfolding written_in
returns-then-ends_torn c = (rw (sym c.ends_torn.ensures ∙ c.if-ends_torn.true) (omega arith), omega arith)

pub returns-else-ends_torn : goal.returns-else-ends_torn
unfolding written_in
returns-else-ends_torn c = (rw (sym c.ends_torn.ensures ∙ c.if-ends_torn.false) (omega arith), omega arith)
