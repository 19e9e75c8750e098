use Rattle.std.proofs.Common.{arith}
use Rattle.byte_search.proofs.Laws.{found_here, found_on, found_none}
use Rattle.byte_search.proofs.find.Goals as goal

pub returns-then-bytes-i-clause-value : goal.returns-then-bytes-i-clause-value
returns-then-bytes-i-clause-value c =
    omega (arith, found_here c.args.byte c.loop-i.i c.args.end c.args.bytes.now c.requires.bound c.loop-i-test.true c.if-bytes-i.true, c.loop-i.invariant.1)

pub loop-i-preserved : goal.loop-i-preserved
loop-i-preserved c =
    (omega arith, omega (arith, found_on c.args.byte c.loop-i.i c.args.end c.args.bytes.now c.requires.bound c.loop-i-test.true c.if-bytes-i.false, c.loop-i.invariant.1))

pub returns-clause-value : goal.returns-clause-value
returns-clause-value c =
    omega (arith, found_none c.args.byte c.loop-i.i c.args.end c.args.bytes.now c.requires.bound c.loop-i-test.false, c.loop-i.invariant.1)
