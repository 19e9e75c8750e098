-- `tally::zeros_before` counts the bytes of the definition. The invariant: the bytes from `i` on give the rest of the answer. Assumes nothing.
use native.Mathlib.Nat.{zero-add}
use native.Mathlib.Omega.{arith}
use Rattle.tally.proofs.Laws.{zeros_next, zeros_stop, zeros_end}
use Rattle.tally.proofs.zeros_before.Goals as goal

pub loop-i-init : goal.loop-i-init
loop-i-init c = (omega arith, zero-add _)

pub returns-then-bytes-i-ne0 : goal.returns-then-bytes-i-ne0
returns-then-bytes-i-ne0 c =
    omega (arith, zeros_stop c.args.bytes.now c.loop-i.i c.loop-i-test.true c.if-bytes-i-ne0.true, c.loop-i.invariant.1)

pub loop-i-preserved : goal.loop-i-preserved
loop-i-preserved c =
    (omega arith, omega (arith, zeros_next c.args.bytes.now c.loop-i.i c.loop-i-test.true c.if-bytes-i-ne0.false, c.loop-i.invariant.1))

pub returns : goal.returns
returns c = omega (arith, zeros_end c.args.bytes.now c.loop-i.i c.loop-i-test.false, c.loop-i.invariant.1)
