-- `faults::next_row` is the definition's. Assumes nothing.
use Rattle.faults.specs.Tests.{wrote, next_row}
use Rattle.faults.proofs.next_row.Goals as goal

pub returns : goal.returns
unfolding next_row wrote
returns c = rw c.written-full.ensures
