-- `mounted_read::refusal` is the first of the refusals that bind a mounted call. Assumes nothing.
use mathlib.Core.Path.{sym, ◌∙◌}
use native.Mathlib.Omega.{arith}
use Rattle.request.proofs.Laws.{wrong_size, right_size_lem}
use Rattle.model.specs.Answers.{code_of}
use Rattle.model.proofs.Laws.Mounted.{refuses_size, refuses_short, refuses_number, refuses_length, refuses_unusable, refuses_none}
use Rattle.mounted_read.proofs.refusal.Goals as goal

pub returns-then-not-right_size : goal.returns-then-not-right_size
unfolding code_of
returns-then-not-right_size c =
    let a = c.args in
    sym (refuses_size a.segments a.slots a.image.now a.places.now a.block.0 a.taken (wrong_size a.segments a.slots a.image.now _ c.right_size.ensures c.if-not-right_size.true))

pub returns-then-places-lt-LEAST_PLACES : goal.returns-then-places-lt-LEAST_PLACES
unfolding code_of
returns-then-places-lt-LEAST_PLACES c =
    let a = c.args in
    sym (refuses_short a.segments a.slots a.image.now a.places.now a.block.0 a.taken (right_size_lem a.segments a.slots a.image.now _ c.right_size.ensures c.if-not-right_size.false) c.if-places-lt-LEAST_PLACES.true)

pub returns-then-not-number_ok : goal.returns-then-not-number_ok
unfolding code_of
returns-then-not-number_ok c =
    let a = c.args in
    sym (refuses_number a.segments a.slots a.image.now a.places.now a.block.0 a.taken (right_size_lem a.segments a.slots a.image.now _ c.right_size.ensures c.if-not-right_size.false) (omega (arith, c.if-places-lt-LEAST_PLACES.false))
    (sym c.number_ok.ensures ∙ c.if-not-number_ok.true))

pub returns-then-not-taken : goal.returns-then-not-taken
unfolding code_of
returns-then-not-taken c =
    let a = c.args in
    sym (refuses_length a.segments a.slots a.image.now a.places.now a.block.0 a.taken (right_size_lem a.segments a.slots a.image.now _ c.right_size.ensures c.if-not-right_size.false) (omega (arith, c.if-places-lt-LEAST_PLACES.false))
    (sym c.number_ok.ensures ∙ c.if-not-number_ok.false) c.if-not-taken.true)

-- that the table is usable stands before that it is not: an edit is refused for that
pub returns : goal.returns
unfolding code_of
returns c =
    let a = c.args in
    sym (refuses_none a.segments a.slots a.image.now a.places.now a.block.0 a.taken (right_size_lem a.segments a.slots a.image.now _ c.right_size.ensures c.if-not-right_size.false) (omega (arith, c.if-places-lt-LEAST_PLACES.false))
    (sym c.number_ok.ensures ∙ c.if-not-number_ok.false) c.if-not-taken.false (omega (arith, c.if-places-ne1.false)))

pub returns-then-places-ne1 : goal.returns-then-places-ne1
unfolding code_of
returns-then-places-ne1 c =
    let a = c.args in
    sym (refuses_unusable a.segments a.slots a.image.now a.places.now a.block.0 a.taken (right_size_lem a.segments a.slots a.image.now _ c.right_size.ensures c.if-not-right_size.false) (omega (arith, c.if-places-lt-LEAST_PLACES.false))
    (sym c.number_ok.ensures ∙ c.if-not-number_ok.false) c.if-not-taken.false c.if-places-ne1.true)
