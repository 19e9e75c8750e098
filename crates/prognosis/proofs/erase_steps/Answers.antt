-- `prognosis::erase_steps` counts the steps that the erase takes. Assumes nothing.
use mathlib.Core.Path.{sym, ◌∙◌}
use native.Mathlib.Omega.{arith}
use Rattle.prognosis.proofs.Laws.{erasing_length}
use Rattle.prognosis.proofs.erase_steps.Goals as goal

pub returns-then-told : goal.returns-then-told
returns-then-told c =
    let a = c.args in
    let t = c.tally_in-told in
    (sym (erasing_length a.geometry.segments a.geometry.slots a.top.0 a.image.now t.result t.ensures.0 ∙ rw c.if-told.true), omega arith)

-- `simp`, which may leave a fact unused: an edit of the test is refused for what is then false
pub returns-then-told-2 : goal.returns-then-told-2
returns-then-told-2 c =
    let a = c.args in
    let t = c.tally_in-told in
    (sym (erasing_length a.geometry.segments a.geometry.slots a.top.0 a.image.now t.result t.ensures.0 ∙ simp (c.if-told.false, c.if-told-2.true)), omega arith)

pub returns : goal.returns
returns c =
    let a = c.args in
    let t = c.tally_in-told in
    (sym (erasing_length a.geometry.segments a.geometry.slots a.top.0 a.image.now t.result t.ensures.0 ∙ rw (c.if-told.false, c.if-told-2.false)), omega arith)
