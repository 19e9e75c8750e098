-- `share_list::quota_sum`. The invariant: the quotas so far and those left are all of them, and few enough for 64 bits. Assumes nothing.
use Prim.Native.Nat.{◌+◌}
use mathlib.Core.Path.{ap}
use native.Mathlib.Omega.{arith}
use Rattle.shares.specs.Shares.{quota_sum}
use Rattle.share_list.proofs.Laws.{shares_end, stands_next, quota_next}
use Rattle.share_list.proofs.quota_sum.Goals as goal

pub loop-at-init : goal.loop-at-init
loop-at-init c = (c.requires.0, omega arith, omega arith)

pub overflow_cast-sum : goal.overflow_cast-sum
overflow_cast-sum c = omega (arith, c.type_inv.shares (c.loop-at.at + 2))

pub overflow_add-sum-in-loop-at : goal.overflow_add-sum-in-loop-at
overflow_add-sum-in-loop-at c = omega (arith, c.type_inv.shares (c.loop-at.at + 2))

pub loop-at-preserved : goal.loop-at-preserved
loop-at-preserved c =
    let ns = c.args.shares.now in
    let here = c.loop-at-test.true in
    let q = quota_next ns c.loop-at.at c.loop-at.invariant.0 here in
    let known = c.type_inv.shares (c.loop-at.at + 2) in
    (stands_next ns c.loop-at.at c.loop-at.invariant.0 here, omega (arith, c.loop-at.invariant.1), omega (arith, c.loop-at.invariant.2))

pub returns : goal.returns
unfolding quota_sum
returns c =
    let l = c.loop-at in
    let e = ap quota_sum (shares_end c.args.shares.now l.at l.invariant.0 c.loop-at-test.false) in
    omega (arith, l.invariant.1)

-- nothing is left behind the last one
pub returns-2 : goal.returns-2
unfolding quota_sum
returns-2 c =
    let ns = c.args.shares.now in
    let l = c.loop-at in
    let here = c.loop-at-test.true in
    let q = quota_next ns l.at l.invariant.0 here in
    let e = ap quota_sum (shares_end ns (l.at + 3) (stands_next ns l.at l.invariant.0 here) (omega arith)) in
    omega (arith, l.invariant.1)
