-- `ring::run_start` walks down. The invariant: those from `index` up to the end count as in use. Assumes nothing.
use Prim.Native.Nat.{◌+◌, ◌-◌}
use mathlib.Core.Path.{◌≡◌, sym, ◌∙◌}
use native.Mathlib.Omega.{arith}
use Rattle.ring.proofs.Laws.Search.{used_more}
use Rattle.ring.proofs.run_start.Goals as goal

pub loop-index-init : goal.loop-index-init
loop-index-init c = λ j p q. absurd (omega arith)

pub returns-then-status_at : goal.returns-then-status_at
returns-then-status_at c =
    let k = c.loop-index in
    let e : k.index - 1 + 1 ≡ k.index = omega (arith, c.loop-index-test.true) in
    rw e (record { within = k.auto.index; used = k.invariant; free = λ p. sym c.status_at.ensures ∙ c.if-status_at.true })

pub loop-index-preserved : goal.loop-index-preserved
loop-index-preserved c =
    let k = c.loop-index in
    used_more _ _ k.index _ c.loop-index-test.true k.invariant (λ e. c.if-status_at.false (c.status_at.ensures ∙ e))

pub returns : goal.returns
returns c =
    let e : c.loop-index.index ≡ 0 = omega (arith, c.loop-index-test.false) in
    record { within = omega arith; used = rw e at c.loop-index.invariant; free = λ p. absurd (omega arith) }
