-- `share_list::ranges_ok`. The invariant: whether all ranges are right is whether those left are. Assumes nothing.
use Prim.Native.Nat.{◌+◌}
use mathlib.Core.Path.{refl, sym, ap, ◌∙◌}
use native.Mathlib.Omega.{arith}
use Rattle.model.specs.Lists.{all}
use Rattle.shares.specs.Shares.{range_ok}
use Rattle.share_list.proofs.Laws.{shares_end, stands_next, all_next, goes_on, stops}
use Rattle.share_list.proofs.ranges_ok.Goals as goal

pub loop-at-init : goal.loop-at-init
loop-at-init c = (c.requires, refl)

pub returns-then-not-range_ok : goal.returns-then-not-range_ok
unfolding range_ok
returns-then-not-range_ok c =
    let ns = c.args.shares.now in
    stops _ _ (c.loop-at.invariant.1 ∙ all_next ns c.loop-at.at c.loop-at.invariant.0 c.loop-at-test.true range_ok) (sym c.range_ok.ensures ∙ c.if-not-range_ok.true)

pub loop-at-preserved : goal.loop-at-preserved
unfolding range_ok
loop-at-preserved c =
    let ns = c.args.shares.now in
    let here = c.loop-at-test.true in
    (stands_next ns c.loop-at.at c.loop-at.invariant.0 here, goes_on _ _ (c.loop-at.invariant.1 ∙ all_next ns c.loop-at.at c.loop-at.invariant.0 here range_ok) (sym c.range_ok.ensures ∙ c.if-not-range_ok.false))

pub returns : goal.returns
unfolding all
returns c = let l = c.loop-at in sym (l.invariant.1 ∙ ap (all range_ok) (shares_end _ l.at l.invariant.0 c.loop-at-test.false))

-- nothing is left behind the last one
pub returns-else-not-range_ok : goal.returns-else-not-range_ok
unfolding range_ok all
returns-else-not-range_ok c =
    let ns = c.args.shares.now in
    let l = c.loop-at in
    let here = c.loop-at-test.true in
    let more = goes_on _ _ (l.invariant.1 ∙ all_next ns l.at l.invariant.0 here range_ok) (sym c.range_ok.ensures ∙ c.if-not-range_ok.false) in
    sym (more ∙ ap (all range_ok) (shares_end ns (l.at + 3) (stands_next ns l.at l.invariant.0 here) (omega arith)))
