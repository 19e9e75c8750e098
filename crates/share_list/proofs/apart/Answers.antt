-- `share_list::apart`. The invariant: whether a range overlaps none of those behind it is whether it overlaps none of those left. Assumes nothing.
use Prim.Native.Nat.{◌+◌}
use mathlib.Core.Path.{refl, sym, ap, ◌∙◌}
use native.Mathlib.Omega.{arith}
use mathlib.Core.Bool.{not}
use Rattle.model.specs.Lists.{all}
use Rattle.shares.specs.Shares.{overlap}
use Rattle.share_list.specs.Places.{share_at}
use Rattle.share_list.proofs.Laws.{shares_end, stands_next, all_next, goes_on, stops}
use Rattle.share_list.proofs.apart.Goals as goal

pub loop-other-init : goal.loop-other-init
loop-other-init c = (stands_next c.args.shares.now c.args.one c.requires.0 c.requires.1, refl)

pub returns-then-overlaps : goal.returns-then-overlaps
returns-then-overlaps c =
    let a = c.args in
    stops _ _ (c.loop-other.invariant.1 ∙ all_next a.shares.now c.loop-other.other c.loop-other.invariant.0 c.loop-other-test.true (λ y. not (overlap (share_at a.shares.now a.one) y))) (ap not (sym c.overlaps.ensures ∙ c.if-overlaps.true))

pub loop-other-preserved : goal.loop-other-preserved
loop-other-preserved c =
    let a = c.args in
    let here = c.loop-other-test.true in
    (stands_next a.shares.now c.loop-other.other c.loop-other.invariant.0 here, goes_on _ _ (c.loop-other.invariant.1 ∙ all_next a.shares.now c.loop-other.other c.loop-other.invariant.0 here (λ y. not (overlap (share_at a.shares.now a.one) y))) (ap not (sym c.overlaps.ensures ∙ c.if-overlaps.false)))

pub returns : goal.returns
unfolding all
returns c =
    let a = c.args in
    sym (c.loop-other.invariant.1 ∙ ap (all (λ y. not (overlap (share_at a.shares.now a.one) y))) (shares_end _ c.loop-other.other c.loop-other.invariant.0 c.loop-other-test.false))

-- nothing is left behind the last one
pub returns-else-overlaps : goal.returns-else-overlaps
unfolding all
returns-else-overlaps c =
    let a = c.args in
    let l = c.loop-other in
    let here = c.loop-other-test.true in
    let more = goes_on _ _ (l.invariant.1 ∙ all_next a.shares.now l.other l.invariant.0 here (λ y. not (overlap (share_at a.shares.now a.one) y))) (ap not (sym c.overlaps.ensures ∙ c.if-overlaps.false)) in
    sym (more ∙ ap (all (λ y. not (overlap (share_at a.shares.now a.one) y))) (shares_end a.shares.now (l.other + 3) (stands_next a.shares.now l.other l.invariant.0 here) (omega arith)))
