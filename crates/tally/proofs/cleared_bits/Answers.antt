-- `tally::cleared_bits` counts the bits of the definition. The invariant: the bytes not yet counted have the rest. Assumes nothing.
use mathlib.Core.Path.{sym, ◌∙◌}
use native.Mathlib.Nat.{zero-add}
use native.Mathlib.Omega.{arith}
use Rattle.tally.proofs.Laws.{blank_none, cleared_next, cleared_end}
use Rattle.tally.proofs.cleared_bits.Goals as goal

pub returns-then-test : goal.returns-then-test
returns-then-test c = (sym (blank_none _ (sym c.blank_test-test.ensures.0 ∙ c.if-test.true)), omega arith)

pub loop-byte-init : goal.loop-byte-init
loop-byte-init c = (omega arith, omega arith, zero-add _)

pub loop-byte-preserved : goal.loop-byte-preserved
loop-byte-preserved c =
    (omega arith, omega arith, omega (arith, cleared_next c.args.bytes.now c.loop-byte.byte-index c.loop-byte-test.true, c.cleared_in-sum.ensures.0, c.loop-byte.invariant.2))

pub returns : goal.returns
returns c =
    (omega (arith, cleared_end c.args.bytes.now c.loop-byte.byte-index c.loop-byte-test.false, c.loop-byte.invariant.2), omega arith)
