-- `faults::written` is the definition's. Assumes nothing.
use Rattle.faults.specs.Tests.{wrote}
use Rattle.faults.proofs.written.Goals as goal

pub returns-then-tests : goal.returns-then-tests
unfolding wrote
returns-then-tests c = rw c.if-tests.true

pub returns-else-tests : goal.returns-else-tests
unfolding wrote
returns-else-tests c = rw c.if-tests.false
