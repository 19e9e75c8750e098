-- `faults::unsound` is the definition's. Assumes nothing.
use Rattle.faults.specs.Tests.{wrote}
use Rattle.faults.proofs.unsound.Goals as goal

pub returns : goal.returns
unfolding wrote
returns c = rw c.written.ensures
