-- `header_seen::same_bytes` is the test of the definition. The invariant: the bytes from `i` on give the answer. Assumes nothing.
use mathlib.Core.Path.{sym, refl, ◌∙◌}
use native.Mathlib.Omega.{arith}
use Rattle.header_seen.proofs.Laws.{same_stop, same_next, same_end}
use Rattle.header_seen.proofs.same_bytes.Goals as goal

pub loop-i-init : goal.loop-i-init
loop-i-init c = (omega arith, refl)

pub returns-then-a-i : goal.returns-then-a-i
returns-then-a-i c =
    sym (same_stop _ _ c.loop-i.i c.requires c.loop-i-test.true c.if-a-i.true) ∙ c.loop-i.invariant.1

pub loop-i-preserved : goal.loop-i-preserved
loop-i-preserved c =
    (omega arith, sym (same_next _ _ c.loop-i.i c.requires c.loop-i-test.true c.if-a-i.false) ∙ c.loop-i.invariant.1)

pub returns : goal.returns
returns c =
    sym (same_end _ _ c.loop-i.i c.requires c.loop-i-test.false) ∙ c.loop-i.invariant.1
