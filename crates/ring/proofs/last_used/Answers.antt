-- `ring::last_used` walks down. The invariant: none from `index` on counts as in use. Assumes nothing.
use Prim.Native.Nat.{◌-◌}
use mathlib.Core.Path.{◌≡◌, sym, ◌∙◌}
use native.Mathlib.Omega.{arith}
use Rattle.ring.proofs.Laws.Search.{free_more}
use Rattle.ring.proofs.last_used.Goals as goal

pub loop-index-init : goal.loop-index-init
loop-index-init c = λ j p q. absurd (omega arith)

pub returns-then-status_at : goal.returns-then-status_at
returns-then-status_at c =
    record { within = omega (arith, c.loop-index.auto.index, c.loop-index-test.true); used = λ p e. c.if-status_at.true (c.status_at.ensures ∙ e); free = c.loop-index.invariant }

pub loop-index-preserved : goal.loop-index-preserved
loop-index-preserved c =
    free_more _ _ _ (c.loop-index.index - 1) c.loop-index.invariant (sym c.status_at.ensures ∙ c.if-status_at.false)

pub returns : goal.returns
returns c =
    let e : c.loop-index.index - 1 ≡ 0 = omega (arith, c.loop-index-test.false) in
    record { within = c.requires.some; used = λ p. absurd (omega arith); free = rw e at c.loop-index.invariant }
