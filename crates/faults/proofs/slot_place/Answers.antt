-- `faults::slot_place`. Assumes nothing.
use borrow.Author.Tests.{not-true, not-false, lt-leb, le-leb}
use Rattle.account_text.specs.Account.{first_failing}
use Rattle.faults.specs.Tests.{slot_place}
use Rattle.faults.proofs.slot_place.Goals as goal

pub returns-then-not-tests : goal.returns-then-not-tests
unfolding slot_place first_failing
returns-then-not-tests c =
    let t = c.args.tests in
    rw (not-true t.sound c.if-not-tests.true)

pub returns-then-not-tests-2 : goal.returns-then-not-tests-2
unfolding slot_place first_failing
returns-then-not-tests-2 c =
    let a = c.args in
    let t = a.tests in
    rw (not-false t.sound c.if-not-tests.false, not-true t.distinct c.if-not-tests-2.true)

pub returns-then-not-tests-3 : goal.returns-then-not-tests-3
unfolding slot_place first_failing
returns-then-not-tests-3 c =
    let a = c.args in
    let t = a.tests in
    rw (not-false t.sound c.if-not-tests.false, not-false t.distinct c.if-not-tests-2.false, not-true t.in_order c.if-not-tests-3.true)

pub returns-then-tests-most : goal.returns-then-tests-most
unfolding slot_place first_failing
returns-then-tests-most c =
    let a = c.args in
    let t = a.tests in
    rw (not-false t.sound c.if-not-tests.false, not-false t.distinct c.if-not-tests-2.false, not-false t.in_order c.if-not-tests-3.false, lt-leb t.live a.most c.if-tests-most.true)

pub returns : goal.returns
unfolding slot_place first_failing
returns c =
    let a = c.args in
    let t = a.tests in
    rw (not-false t.sound c.if-not-tests.false, not-false t.distinct c.if-not-tests-2.false, not-false t.in_order c.if-not-tests-3.false, le-leb t.live a.most c.if-tests-most.false)
