-- `faults::test_head` is one segment more of the definition's tests. Assumes nothing.
use Rattle.faults.specs.Tests.{test_head}
use Rattle.faults.proofs.test_head.Goals as goal
use Rattle.faults.proofs.test_head.Goals.{then-tests, else-tests}

pub returns-then-tests-2 : goal.returns-then-tests-2
unfolding test_head
returns-then-tests-2 c = (
  elim c.if-tests.branch [
    | then-tests w ↦ rw (w.result-is, w.is_owing.ensures, w.if-tests.true, c.is_invalid.ensures, c.if-tests-2.true, c.count_one.ensures.0)
    | else-tests w ↦ rw (w.result-is, w.if-tests.false, c.is_invalid.ensures, c.if-tests-2.true, c.count_one.ensures.0)
  ],
  c.count_one.ensures.1,
  c.count_one.ensures.2,
)

pub returns-else-tests-2 : goal.returns-else-tests-2
unfolding test_head
returns-else-tests-2 c = (
  elim c.if-tests.branch [
    | then-tests w ↦ rw (w.result-is, w.is_owing.ensures, w.if-tests.true, c.if-tests-2.false, c.count_one.ensures.0)
    | else-tests w ↦ rw (w.result-is, w.if-tests.false, c.if-tests-2.false, c.count_one.ensures.0)
  ],
  c.count_one.ensures.1,
  c.count_one.ensures.2,
)
