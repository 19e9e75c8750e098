-- `share_list::overlaps` is the test of the definition. Assumes nothing.
use native.Mathlib.Omega.{arith}
use Rattle.share_list.specs.Places.{share_at}
use Rattle.share_list.proofs.Laws.{overlap_behind, overlap_before}
use Rattle.share_list.proofs.overlaps.Goals as goal

pub returns-then-shares-one : goal.returns-then-shares-one
returns-then-shares-one c =
    let a = c.args in
    overlap_behind (share_at a.shares.now a.one) (share_at a.shares.now a.other) (omega (arith, c.if-shares-one.true))

pub returns : goal.returns
returns c =
    let a = c.args in
    overlap_before (share_at a.shares.now a.one) (share_at a.shares.now a.other) (omega (arith, c.if-shares-one.false))
