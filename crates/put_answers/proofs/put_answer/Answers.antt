-- `put_answers::put_answer` is the answer of the definition, from a plan and a search. Assumes nothing.
use mathlib.Core.Path.{sym, ◌∙◌}
use Rattle.put_answers.specs.Answering.{answer_for}
use Rattle.put_answers.proofs.put_answer.Goals as goal

pub returns-then-is_full : goal.returns-then-is_full
unfolding answer_for
returns-then-is_full c = let f = sym c.is_full.ensures ∙ c.if-is_full.true in rw f

pub returns-then-is_worn : goal.returns-then-is_worn
unfolding answer_for
returns-then-is_worn c =
    let f = sym c.is_full.ensures ∙ c.if-is_full.false in
    let w = sym c.is_worn.ensures ∙ c.if-is_worn.true in
    rw (f, w)

pub returns : goal.returns
unfolding answer_for
returns c =
    let f = sym c.is_full.ensures ∙ c.if-is_full.false in
    let w = sym c.is_worn.ensures ∙ c.if-is_worn.false in
    rw (f, w)
