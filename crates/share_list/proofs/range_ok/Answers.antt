-- `share_list::range_ok` is the test of the definition. Assumes nothing.
use native.Mathlib.Omega.{arith}
use Rattle.share_list.proofs.Laws.{range_none, range_back, range_some}
use Rattle.share_list.proofs.range_ok.Goals as goal

pub returns-then-first-eq0 : goal.returns-then-first-eq0
returns-then-first-eq0 c = range_none _ _ c.if-first-eq0.true

pub returns-then-first-last : goal.returns-then-first-last
returns-then-first-last c = range_back _ _ (omega (arith, c.if-first-last.true))

pub returns : goal.returns
returns c = range_some _ _ c.if-first-eq0.false (omega (arith, c.if-first-last.false))
