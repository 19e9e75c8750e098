-- `skipping::pass_empty` passes over entries of 0. The invariant: those from `from` to `block` are 0. Assumes nothing.
use native.Mathlib.Omega.{arith}
use Rattle.skipping.proofs.Laws.{passed_none, passed_eight}
use Rattle.skipping.proofs.pass_empty.Goals as goal

pub loop-block-init : goal.loop-block-init
loop-block-init c = passed_none _ _ c.requires.1

pub slice_bounds-none_of-end : goal.slice_bounds-none_of-end
slice_bounds-none_of-end c = omega (arith, c.loop-block-test.true, c.requires.0)

pub returns-then-not-none_of : goal.returns-then-not-none_of
returns-then-not-none_of c = c.loop-block.invariant

pub loop-block-preserved : goal.loop-block-preserved
loop-block-preserved c =
    passed_eight _ _ _ c.requires.0 c.loop-block.invariant c.loop-block-test.true (c.none_of.ensures c.if-not-none_of.false)

pub returns : goal.returns
returns c = c.loop-block.invariant
