-- `ring::find_top` goes by index 0. Assumes nothing.
use mathlib.Core.Path.{sym, ◌∙◌, subst}
use mathlib.Core.Logic.{inl, inr}
use Rattle.ring.specs.Seen.{LastFollowing}
use Rattle.ring.proofs.find_top.Goals as goal

pub returns-then-status_at : goal.returns-then-status_at
returns-then-status_at c = inr (sym c.status_at.ensures ∙ c.if-status_at.true, c.last_used.ensures)

pub returns : goal.returns
returns c =
    let a = c.args in
    inl (λ e. c.if-status_at.false (c.status_at.ensures ∙ e), subst (λ n. LastFollowing a.geometry.segments a.geometry.slots a.image.now n c.last_following.result) c.number_at-number.ensures.0 c.last_following.ensures)
