-- `erasing::erase_all` erases the segments in order. The invariant: the first `i` are erased, and paid for. Assumes nothing.
use mathlib.Core.Path.{refl}
use native.Mathlib.Omega.{arith}
use Rattle.model.specs.Steps.{erase_first}
use Rattle.flash.proofs.Laws.{ran_none}
use Rattle.flash.proofs.Pages.{segment_inside}
use Rattle.erasing.proofs.Laws.{erase_next_lem, erase_end}
use borrow.Author.Rules.{rules}
use Rattle.erasing.proofs.erase_all.Goals as goal

pub loop-i-init : goal.loop-i-init
unfolding erase_first
loop-i-init c = (ran_none _ _ _, omega arith, refl)

pub erase_segment-left-requires : goal.erase_segment-left-requires
erase_segment-left-requires c =
    omega (arith, segment_inside c.args.geometry.segments c.args.geometry.slots c.loop-i.i _ c.requires c.loop-i-test.true)

pub loop-i-preserved : goal.loop-i-preserved
loop-i-preserved c =
    let a = c.args in
    erase_next_lem a.geometry.segments a.geometry.slots c.loop-i.i a.budget c.loop-i-test.true c.loop-i.invariant.2 c.loop-i.invariant.0 c.erase_segment-left.ensures

pub returns : goal.returns
returns c = search (rules, erase_end)
