-- `faults::test_slot` is one slot more of the definition's look. Assumes nothing.
use Rattle.faults.specs.Tests.{wrote, test_slot}
use Rattle.faults.proofs.test_slot.Goals as goal
use Rattle.faults.proofs.test_slot.Goals.{then-tests, else-tests}

pub returns-in-Empty : goal.returns-in-Empty
unfolding test_slot
returns-in-Empty c = rw c.in-Empty.is

pub returns-in-Torn : goal.returns-in-Torn
unfolding test_slot
returns-in-Torn c = rw (c.unsound.ensures, c.in-Torn.is)

pub returns-after-tests : goal.returns-after-tests
unfolding test_slot wrote
returns-after-tests c = elim c.if-tests.branch [
  | then-tests w ↦ rw (w.result-is, c.written.ensures, c.meet-met.ensures.0, c.meet-met.ensures.1, c.in-Live.is, w.if-tests.true)
  | else-tests w ↦ rw (w.result-is, c.written.ensures, c.meet-met.ensures.1, c.in-Live.is, w.if-tests.false)
]

pub returns-in-Dead : goal.returns-in-Dead
unfolding test_slot
returns-in-Dead c = rw (c.written-in-Dead.ensures, c.in-Dead.is)

pub returns-in-Cut : goal.returns-in-Cut
unfolding test_slot
returns-in-Cut c = rw (c.written-in-Cut.ensures, c.in-Cut.is)

pub returns-in-Wrong : goal.returns-in-Wrong
unfolding test_slot
returns-in-Wrong c = rw (c.unsound-in-Wrong.ensures, c.in-Wrong.is)
