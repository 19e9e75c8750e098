-- `segments::may_be_fine` is the test of the definition. Assumes nothing.
use native.Mathlib.Omega.{arith}
use borrow.Author.Tests.{lt-ltb, le-ltb}
use Rattle.judge.specs.Heads.{may_be_fine}
use Rattle.segments.proofs.may_be_fine.Goals as goal

pub returns-then-counts-eq0 : goal.returns-then-counts-eq0
unfolding may_be_fine
returns-then-counts-eq0 c = rw c.if-counts-eq0.true

pub returns-then-counts-segments : goal.returns-then-counts-segments
unfolding may_be_fine
returns-then-counts-segments c = let a = c.args in rw (lt-ltb 0 a.counts.used (omega (arith, c.if-counts-eq0.false)), le-ltb a.counts.used a.segments (omega (arith, c.if-counts-segments.true)))

pub returns-then-counts : goal.returns-then-counts
unfolding may_be_fine
returns-then-counts c =
    let a = c.args in
    rw (lt-ltb 0 a.counts.used (omega (arith, c.if-counts-eq0.false)), lt-ltb a.counts.used a.segments (omega (arith, c.if-counts-segments.false)), c.if-counts.true)

pub returns-then-counts-2 : goal.returns-then-counts-2
unfolding may_be_fine
returns-then-counts-2 c =
    let a = c.args in
    rw (lt-ltb 0 a.counts.used (omega (arith, c.if-counts-eq0.false)), lt-ltb a.counts.used a.segments (omega (arith, c.if-counts-segments.false)), c.if-counts.false, c.if-counts-2.true)

pub returns : goal.returns
unfolding may_be_fine
returns c =
    let a = c.args in
    rw (lt-ltb 0 a.counts.used (omega (arith, c.if-counts-eq0.false)), lt-ltb a.counts.used a.segments (omega (arith, c.if-counts-segments.false)), c.if-counts.false, c.if-counts-2.false)
