-- `ring::count_used` goes by the second after the top, then by index 0. Assumes nothing.
use mathlib.Core.Path.{refl, sym, ◌∙◌}
use mathlib.Core.Logic.{inl, inr}
use native.Mathlib.Nat.{mod-lt}
use Rattle.ring.proofs.count_used.Goals as goal

pub status_at-requires : goal.status_at-requires
status_at-requires c = (c.requires.0, mod-lt _ c.requires.0.some)

pub returns-then-status_at : goal.returns-then-status_at
returns-then-status_at c = inl (λ e. c.if-status_at.true (c.status_at.ensures ∙ e), refl)

pub returns-then-status_at-2 : goal.returns-then-status_at-2
returns-then-status_at-2 c = inr (inr (sym c.status_at-2.ensures ∙ c.if-status_at-2.true, (c.run_start.result, c.run_start.ensures, refl)))

pub returns : goal.returns
returns c = inr (inl (λ e. c.if-status_at-2.false (c.status_at-2.ensures ∙ e), (c.run_start-2.result, c.run_start-2.ensures, refl)))
