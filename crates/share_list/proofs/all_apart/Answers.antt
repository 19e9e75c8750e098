-- `share_list::all_apart`. The invariant: whether all ranges are disjoint is whether those left are. Assumes nothing.
use Prim.Native.Nat.{◌+◌}
use mathlib.Core.Path.{refl, sym, ap, ◌∙◌}
use native.Mathlib.Omega.{arith}
use Rattle.shares.specs.Shares.{disjoint}
use Rattle.share_list.proofs.Laws.{shares_end, stands_next, disjoint_next, goes_on, stops}
use Rattle.share_list.proofs.all_apart.Goals as goal

pub loop-at-init : goal.loop-at-init
loop-at-init c = (c.requires, refl)

pub apart-requires : goal.apart-requires
apart-requires c = (c.loop-at.invariant.0, c.loop-at-test.true)

pub returns-then-not-apart : goal.returns-then-not-apart
returns-then-not-apart c =
    stops _ _ (c.loop-at.invariant.1 ∙ disjoint_next c.args.shares.now c.loop-at.at c.loop-at.invariant.0 c.loop-at-test.true) (sym c.apart.ensures ∙ c.if-not-apart.true)

pub loop-at-preserved : goal.loop-at-preserved
loop-at-preserved c =
    let ns = c.args.shares.now in
    let here = c.loop-at-test.true in
    (stands_next ns c.loop-at.at c.loop-at.invariant.0 here, goes_on _ _ (c.loop-at.invariant.1 ∙ disjoint_next ns c.loop-at.at c.loop-at.invariant.0 here) (sym c.apart.ensures ∙ c.if-not-apart.false))

pub returns : goal.returns
unfolding disjoint
returns c = let l = c.loop-at in sym (l.invariant.1 ∙ ap disjoint (shares_end _ l.at l.invariant.0 c.loop-at-test.false))

-- nothing is left behind the last one
pub returns-else-not-apart : goal.returns-else-not-apart
unfolding disjoint
returns-else-not-apart c =
    let ns = c.args.shares.now in
    let l = c.loop-at in
    let here = c.loop-at-test.true in
    let more = goes_on _ _ (l.invariant.1 ∙ disjoint_next ns l.at l.invariant.0 here) (sym c.apart.ensures ∙ c.if-not-apart.false) in
    sym (more ∙ ap disjoint (shares_end ns (l.at + 3) (stands_next ns l.at l.invariant.0 here) (omega arith)))
