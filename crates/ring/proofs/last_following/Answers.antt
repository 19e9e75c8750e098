-- `ring::last_following` halves. The invariant: `low` follows or is 0, and `high` does not or is the count. Assumes nothing.
use mathlib.Core.Path.{sym, ◌∙◌}
use native.Mathlib.Omega.{arith}
use Rattle.ring.proofs.Laws.Search.{following_start, following_low, following_high, following_end}
use Rattle.ring.proofs.last_following.Goals as goal

pub loop-low-init : goal.loop-low-init
loop-low-init c = following_start _ _ _ _ c.requires.0.some

pub loop-low-preserved-then-number_at-number : goal.loop-low-preserved-then-number_at-number
loop-low-preserved-then-number_at-number c =
    following_low _ _ _ _ _ _ c.loop-low.invariant _ (omega (arith, c.loop-low-test.true)) (sym c.number_at.ensures.0 ∙ c.if-number_at-number.true)

pub loop-low-preserved : goal.loop-low-preserved
loop-low-preserved c =
    following_high _ _ _ _ _ _ c.loop-low.invariant _ (omega (arith, c.loop-low-test.true)) (omega (arith, c.loop-low-test.true)) (λ e. c.if-number_at-number.false (c.number_at.ensures.0 ∙ e))

pub returns : goal.returns
returns c = following_end _ _ _ _ _ _ c.loop-low.invariant c.loop-low-test.false
